-- What is known of commits is told in other words.
use Rattle.std.proofs.Common.{ℕ, ◌⊎◌, inl, inr, ap, sym, ◌∙◌, subst}
use Rattle.ufs_bitmap.specs.Blocks.{BlockSet}
use Rattle.ufs_bitmap.specs.Taking.{has}
use Rattle.ufs_ledger.specs.Kept.{Counts, Numbers}
use Rattle.ufs_ledger.specs.Ledger.{Ledger}
use Rattle.ufs_model.specs.FileBytes.{bytes_of}
use Rattle.ufs_model.specs.History.{tree_after}
use Rattle.ufs_model.specs.PosixTree.{PosixTree}
use Rattle.ufs_model.specs.declared.data.Entry.{Entry}
use Rattle.std.proofs.Common.{List}
use Rattle.ufs_file_commits.specs.State.{DurableState, IsNoted, blocks_held, whole_of}
use Rattle.ufs_store.specs.State.{StoreState}
use Rattle.ufs_promise_laws.specs.OnDisk.{HasNames, IsGoing}
use Rattle.ufs_promise_laws.specs.Parts.{Commits, FileOwns, NamesOwn, OneFile, Owner, Owns, Parts, TheNames, ThePool, Unassigned}
use Rattle.ufs_promise_laws.specs.Sound.{IsFileSound}
use Rattle.ufs_promise_laws.specs.Stored.{AreSpaced, FileHasIt, IsFileWhole, IsStored}
use Rattle.ufs_promise_laws.specs.Syncs.{OnDiskAsTold, SoundAsTold, SyncedAsTold, TellsTheSame}

module _ (p : Parts) (commits : Commits) (tells : TellsTheSame p commits) where
  abbrev q : Parts
  q = record p { commits = commits }

  file_before : (file b : ℕ) → FileOwns q file b → FileOwns p file b
  file_before file b owns = record { hand = owns.hand; here = owns.here; held = sym (ap (λ (d : DurableState). has (blocks_held d) b) (tells.each file owns.hand owns.here)) ∙ owns.held }

  file_now : (file b : ℕ) → FileOwns p file b → FileOwns q file b
  file_now file b owns = record { hand = owns.hand; here = owns.here; held = ap (λ (d : DurableState). has (blocks_held d) b) (tells.each file owns.hand owns.here) ∙ owns.held }

  before : (u : BlockSet) (o : Owner) (b : ℕ) → Owns q u o b → Owns p u o b
  before u (OneFile file) b owns = file_before file b owns
  before u ThePool b owns = owns
  before u Unassigned b owns = owns
  before u TheNames b owns = owns

  held_now : (n : Numbers) (inode b : ℕ) → NamesOwn p b ⊎ FileHasIt p n inode b → NamesOwn q b ⊎ FileHasIt q n inode b
  held_now n inode b (inl names) = inl names
  held_now n inode b (inr file) = inr (file.0, file_now file.0 b file.1, file.2)

  spaced : (l : Ledger) (u : BlockSet) (n : Numbers) → AreSpaced l u n p → AreSpaced l u n q
  spaced l u n s = record {
    apart = λ one other b a c. s.apart one other b (before u one b a) (before u other b c);
    usable = λ o b not owns. s.usable o b not (before u o b owns);
    fresh = s.fresh;
    unheld = s.unheld;
    held = λ inode place b at. held_now n inode b (s.held inode place b at);
  }

  pub stored_as_told : (l : Ledger) (u : BlockSet) (start : PosixTree) (history : List Entry) (k : Counts) → IsStored l u start history k p → IsStored l u start history k q
  stored_as_told l u start history k st = record {
    tree = st.tree;
    legal = st.legal;
    kept = st.kept;
    parts = record { names = st.parts.names; files = st.parts.files; inodes = st.parts.inodes; here = st.parts.here };
    names = st.names;
    counted = st.counted;
    noted = λ file f here. subst IsNoted (sym (tells.each file f here)) (st.noted file f here);
    each = λ file f here. subst (IsFileWhole l k.numbers) (sym (ap (whole_of (bytes_of (tree_after start history).bytes file)) (tells.each file f here))) (st.each file f here);
    spaced = spaced l u k.numbers st.spaced;
  }

  pub going_as_told : (s : StoreState) (start : PosixTree) (history : List Entry) → IsGoing s start history p → IsGoing s start history q
  going_as_told s start history go = record { ledger = go.ledger; counts = go.counts; has = go.has; formed = go.formed; stored = stored_as_told go.ledger s.unassigned.free start history go.counts go.stored }

  names_as_told : (s : StoreState) (start : PosixTree) (history : List Entry) → HasNames s start history p → HasNames s start history q
  unfolding going_as_told
  names_as_told s start history names = record { going = going_as_told s start history names.going; names = names.names; numbered = names.numbered }

pub on_disk_as_told : OnDiskAsTold
on_disk_as_told s start history p commits tells (inl go) = inl (going_as_told p commits tells s start history go)
on_disk_as_told s start history p commits tells (inr st) = inr (record {
  stopped = st.stopped;
  ledger = st.ledger;
  now = st.now;
  maybe = st.maybe;
  has = st.has;
  formed = st.formed;
  tree = st.tree;
  legal = st.legal;
  kept = st.kept;
  parts = record { names = st.parts.names; files = st.parts.files; inodes = st.parts.inodes; here = st.parts.here };
  clean = st.clean;
})

pub synced_as_told : SyncedAsTold
unfolding going_as_told names_as_told
synced_as_told s start history p commits done tells files = record { names = names_as_told p commits tells s start history files.names; files = files.files }

pub sound_as_told : SoundAsTold
sound_as_told g u p commits tells sound = record {
  apart = λ one other b a c. sound.apart one other b (before p commits tells u one b a) (before p commits tells u other b c);
  inside = λ o b owns. sound.inside o b (before p commits tells u o b owns);
  each = λ file f here. subst (IsFileSound g) (sym (tells.each file f here)) (sound.each file f here);
  inodes = sound.inodes;
  known = tells.known;
  counted = sound.counted;
  parted = sound.parted;
}
