-- A server of which other words tell of the commits of its files, and as much, is as sound, and is kept on its disk.
use Rattle.std.proofs.Common.{◌≡◌, ◌⊎◌, inl, inr, ℕ, List, Some, None, true, ap, sym, ◌∙◌, subst}
use Rattle.std.specs.FinMap as map
use Rattle.ufs_bitmap.specs.Blocks.{BlockSet}
use Rattle.ufs_bitmap.specs.Taking.{has}
use Rattle.ufs_file_commits.specs.State.{DurableState, IsNoted, blocks_held, whole_of}
use Rattle.ufs_file.specs.Hand.{FileState}
use Rattle.ufs_layout.specs.declared.geometry.Geometry.{Geometry}
use Rattle.ufs_ledger.specs.Kept.{Counts, Numbers}
use Rattle.ufs_ledger.specs.Ledger.{Ledger}
use Rattle.ufs_model.specs.FileBytes.{bytes_of}
use Rattle.ufs_model.specs.History.{tree_after}
use Rattle.ufs_model.specs.PosixTree.{PosixTree}
use Rattle.ufs_model.specs.declared.data.Entry.{Entry}
use Rattle.ufs_store.specs.State.{StoreState}
use Rattle.ufs_promise_laws.specs.Known.{IsDiskKept, Known}
use Rattle.ufs_promise_laws.specs.Parts.{Commits, FileOwns, NamesOwn, OneFile, Owner, Owns, Parts, TheNames, ThePool, Unassigned, durable_in}
use Rattle.ufs_promise_laws.specs.Sound.{IsFileSound, IsSoundServer}
use Rattle.ufs_promise_laws.specs.Stored.{ArePartsOf, AreSpaced, FileHasIt, IsFileWhole, IsStored}

module _ (p : Parts) (commits : Commits) (same : (file : ℕ) (f : FileState) → map.get p.files file ≡ Some f → durable_in commits f ≡ durable_in p.commits f) where
  abbrev q : Parts
  q = record p { commits = commits }

  owns_file : (file block : ℕ) → FileOwns q file block → FileOwns p file block
  owns_file file block o = record { hand = o.hand; here = o.here; held = ap (λ (x : DurableState). has (blocks_held x) block) (sym (same file o.hand o.here)) ∙ o.held }

  file_owns : (file block : ℕ) → FileOwns p file block → FileOwns q file block
  file_owns file block o = record { hand = o.hand; here = o.here; held = ap (λ (x : DurableState). has (blocks_held x) block) (same file o.hand o.here) ∙ o.held }

  owns_back : (u : BlockSet) (owner : Owner) (block : ℕ) → Owns q u owner block → Owns p u owner block
  owns_back u (OneFile file) block o = owns_file file block o
  owns_back u ThePool block o = o
  owns_back u Unassigned block o = o
  owns_back u TheNames block o = o

  pub parts_told : (t : PosixTree) → ArePartsOf p t → ArePartsOf q t
  parts_told t parts = record { names = parts.names; files = parts.files; inodes = parts.inodes; here = parts.here }

  pub sound_told : (g : Geometry) (u : BlockSet) → ((file : ℕ) → map.get p.files file ≡ None → map.get commits file ≡ None) → IsSoundServer g u p → IsSoundServer g u q
  sound_told g u known s = record {
    apart = λ one other b a c. s.apart one other b (owns_back u one b a) (owns_back u other b c);
    inside = λ owner b o. s.inside owner b (owns_back u owner b o);
    each = λ file f at. subst (IsFileSound g) (sym (same file f at)) (s.each file f at);
    inodes = s.inodes;
    known = known;
    counted = s.counted;
    parted = s.parted;
  }

  spaced_told : (l : Ledger) (u : BlockSet) (numbers : Numbers) → AreSpaced l u numbers p → AreSpaced l u numbers q
  spaced_told l u numbers s = record {
    apart = λ one other b a c. s.apart one other b (owns_back u one b a) (owns_back u other b c);
    usable = λ owner b not o. s.usable owner b not (owns_back u owner b o);
    fresh = s.fresh;
    unheld = s.unheld;
    held = λ inode place b is. by inode b (s.held inode place b is);
  }
    where
      by : (inode b : ℕ) → NamesOwn p b ⊎ FileHasIt p numbers inode b → NamesOwn q b ⊎ FileHasIt q numbers inode b
      by inode b (inl names) = inl names
      by inode b (inr f) = inr (f.0, file_owns f.0 b f.1, f.2)

  stored_told : (l : Ledger) (u : BlockSet) (start : PosixTree) (history : List Entry) (k : Counts) → IsStored l u start history k p → IsStored l u start history k q
  stored_told l u start history k st = record {
    tree = st.tree;
    legal = st.legal;
    kept = st.kept;
    parts = parts_told (tree_after start history) st.parts;
    names = st.names;
    counted = st.counted;
    noted = λ file f at. subst IsNoted (sym (same file f at)) (st.noted file f at);
    each = λ file f at. subst (λ (x : DurableState). IsFileWhole l k.numbers (whole_of (bytes_of (tree_after start history).bytes file) x)) (sym (same file f at)) (st.each file f at);
    spaced = spaced_told l u k.numbers st.spaced;
  }

  pub kept_told : (s : StoreState) (start : PosixTree) (history : List Entry) (known : Known) → IsDiskKept s start history p known → IsDiskKept s start history q known
  kept_told s start history known (inl k) = inl (record {
    going = record {
      ledger = k.going.ledger;
      counts = k.going.counts;
      has = k.going.has;
      formed = k.going.formed;
      stored = stored_told k.going.ledger s.unassigned.free start history k.going.counts k.going.stored;
    };
    covers = k.covers;
    numbered = k.numbered;
  })
  kept_told s start history known (inr k) = inr (record {
    stopped = record {
      stopped = k.stopped.stopped;
      ledger = k.stopped.ledger;
      now = k.stopped.now;
      maybe = k.stopped.maybe;
      has = k.stopped.has;
      formed = k.stopped.formed;
      tree = k.stopped.tree;
      legal = k.stopped.legal;
      kept = k.stopped.kept;
      parts = parts_told (tree_after start history) k.stopped.parts;
      clean = k.stopped.clean;
    };
    now = k.now;
    maybe = k.maybe;
  })
