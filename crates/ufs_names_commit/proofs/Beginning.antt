-- Whichever ledger a store knows, it knows one on which no dentry may be set yet in the blocks that directories took.
use Rattle.std.proofs.Common.{◌≡◌, ℕ, ◌⊎◌, inl, inr, Bool, true, false, List, [], ap, sym, refl, ◌∙◌}
use Rattle.std.specs.Prelude.{IsTrue, if◌then◌else◌}
use Rattle.ufs_bitmap.specs.Blocks.{BlockSet}
use Rattle.ufs_bitmap.specs.Taking.{has}
use Rattle.ufs_bitmap.proofs.TakingLemmas.{has-none}
use Rattle.ufs_layout.specs.Superblock.{geometry_of}
use Rattle.ufs_ledger.specs.Changes.{with_dirs}
use Rattle.ufs_ledger.specs.Kept.{Counts}
use Rattle.ufs_ledger.specs.Laws.{LedgersAreSound}
use Rattle.ufs_ledger.specs.Ledger.{CoversDirs, Ledger}
use Rattle.ufs_model.specs.PosixTree.{PosixTree}
use Rattle.ufs_model.specs.declared.data.Entry.{Entry}
use Rattle.ufs_file_commits.specs.Standing.{IsFileBlock}
use Rattle.ufs_store.specs.Ledgers.{HasLedger}
use Rattle.ufs_store.specs.State.{StoreState}
use Rattle.ufs_promise_laws.specs.Known.{IsKeptGoing, Known}
use Rattle.ufs_promise_laws.specs.Parts.{Parts}
use Rattle.ufs_promise_laws.specs.Stored.{IsSpelled, IsStored}
use Rattle.ufs_names_commit.specs.Ready.{HasZeros}
use Rattle.ufs_names_commit.proofs.Fewer.{fewer_known, fewer_stored, file_block}

clash : (b : Bool) → b ≡ true → b ≡ false → ⊥
clash b is off = let no = sym is ∙ off in cc

-- ---- none of those that directories took

module _ (s : StoreState) (l : Ledger) (u : BlockSet) (start : PosixTree) (history : List Entry) (k : Counts) (p : Parts) (led : HasLedger s l) (st : IsStored l u start history k p) where
  abbrev off : (ℕ → Bool)
  off block = if has p.fresh block then false else l.now.dirs block

  abbrev plain : Ledger
  plain = record l { now = with_dirs off l.now }

  fewer : (block : ℕ) → IsTrue (off block) → IsTrue (l.now.dirs block)
  fewer block is = by (has p.fresh block) is
    where
      by : (b : Bool) → IsTrue (if b then false else l.now.dirs block) → IsTrue (l.now.dirs block)
      by true is = (let no = is in absurd cc)
      by false is = is

  never : (block : ℕ) → has p.fresh block ≡ true → IsTrue (off block) → ⊥
  never block fresh is = clash (off block) is (ap (λ (b : Bool). if b then false else l.now.dirs block) fresh)

  covers : CoversDirs (geometry_of l.superblock) l.now → CoversDirs (geometry_of l.superblock) (with_dirs off l.now)
  covers all block is = by (has p.fresh block) refl
    where
      by : (b : Bool) → has p.fresh block ≡ b → IsTrue (off block)
      by true fresh = absurd (st.spaced.unheld is.inode is.place block fresh is.has)
      by false apart = ap (λ (b : Bool). if b then false else l.now.dirs block) apart ∙ all block is

  pub plain_known : LedgersAreSound → HasLedger s plain
  plain_known sound = fewer_known s l off fewer led (covers (sound s.sectors s.moments.state l led.by.none led.by.is).1)

  pub free : (block : ℕ) → has p.fresh block ≡ true → IsFileBlock plain block
  free block fresh = by (st.spaced.fresh block fresh)
    where
      by : IsFileBlock l block ⊎ IsSpelled l block → IsFileBlock plain block
      by (inl is) = file_block l off fewer block is
      by (inr is) = record { data_block = is.data_block; no_dir = never block fresh; unheld = is.unheld }

  pub plain_stored : IsStored plain u start history k p
  plain_stored = fewer_stored l off fewer u start history k p st (λ block fresh. inl (free block fresh))

pub zeros_begin : LedgersAreSound → (s : StoreState) (start : PosixTree) (history : List Entry) (p : Parts) (known : Known) → IsKeptGoing s start history p known → HasZeros s start history p known []
zeros_begin sound s start history p known kept =
    let go = kept.going in
    record {
      ledger = plain s go.ledger s.unassigned.free start history go.counts p go.has go.stored;
      counts = go.counts;
      knows = plain_known s go.ledger s.unassigned.free start history go.counts p go.has go.stored sound;
      formed = go.formed;
      stored = plain_stored s go.ledger s.unassigned.free start history go.counts p go.has go.stored;
      covers = kept.covers;
      numbered = kept.numbered;
      free = free s go.ledger s.unassigned.free start history go.counts p go.has go.stored;
      zero = λ block is. absurd (clash (has [] block) is (has-none block));
    }
