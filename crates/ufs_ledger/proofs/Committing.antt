-- What a commit leaves of the ledger and of the journal.
use Rattle.std.proofs.Common.{◌≡◌, ℕ, ◌≤◌, ◌⊎◌, inl, inr, false, Some, None, ap, sym, ◌∙◌, arith}
use Rattle.ufs_disk.specs.Disk.{State, IsImage, IsSettled, Leaves, seen}
use Rattle.ufs_disk.proofs.Images.{seen_is_image}
use Rattle.ufs_layout.specs.Superblock.{geometry_of}
use Rattle.ufs_base.specs.Images.{Image}
use Rattle.ufs_image.specs.Images.{block_at}
use Rattle.ufs_layout.specs.declared.geometry.Geometry.{Geometry}
use Rattle.ufs_layout.specs.declared.records.Committed.{Committed}
use Rattle.ufs_journal.specs.Found.{IsOffJournal}
use Rattle.std.specs.Prelude.{Result, Ok, Err, OnOk}
use Rattle.ufs_journal.specs.Kept.{IsReady, IsUnused}
use Rattle.ufs_journal.specs.Written.{IsOfEpoch, DiffersInEpoch, SaysTheSame, CommitsOne, IsAppended, IsMaybeCommitted}
use Rattle.ufs_image.specs.Agree.{AgreeOn}
use Rattle.ufs_image.specs.CatalogLaws.{FoldsCatalogs, FoldsOneMore}
use Rattle.ufs_image.proofs.Blocks.{block_same}
use Rattle.ufs_ledger.specs.Ledger.{IsDataBlock, is_held, Ledger, IsLeftBy, IsLedgerOf}
use Rattle.ufs_ledger.specs.Changes.{MayCommit, committing, settled}
use Rattle.ufs_ledger.proofs.Alike.{block_off}
use Rattle.ufs_ledger.proofs.States.{appends, commits_or_not, fewer_cells}

-- ---- off the journal

off_journal : (g : Geometry) (epoch : ℕ) (before image : Image) → DiffersInEpoch g epoch before image → AgreeOn (IsOffJournal g) before image
off_journal g epoch before image differs sector off = by (differs sector) off
  where
    by : (image sector ≡ before sector) ⊎ IsOfEpoch g epoch sector image → IsOffJournal g sector → before sector ≡ image sector
    by (inl same) off = sym same
    by (inr of) (inl low) = let from = of.from in absurd (omega (arith, from, low))
    by (inr of) (inr high) = let under = of.under in absurd (omega (arith, under, high))

pub same_data : (g : Geometry) (epoch : ℕ) (before image : Image) → DiffersInEpoch g epoch before image → (block : ℕ) → IsDataBlock g block → block_at image block ≡ block_at before block
same_data g epoch before image differs block data' = sym (block_same before image block (λ sector of. off_journal g epoch before image differs sector (block_off g block sector data'.from of)))

-- ---- what a barrier leaves of the journal

pub ready_less : (g : Geometry) (epoch used number : ℕ) (old new : State) → Leaves (IsImage old) new → IsReady g epoch used number old → IsReady g epoch used number new
ready_less g epoch used number old new less is = record {
  free = λ image left. is.free image (less image left);
  latest = λ image left. is.latest image (less image left);
  fresh = λ image left. is.fresh image (less image left);
}

pub unused_less : (g : Geometry) (epoch txn : ℕ) (old new : State) → Leaves (IsImage old) new → IsUnused g epoch txn old → IsUnused g epoch txn new
unused_less g epoch txn old new less is image left = is image (less image left)

-- ---- the ledger

pub maybe_by : (sectors : ℕ) (l : Ledger) (t : Committed) (image : Image) → l.maybe ≡ None → IsLeftBy sectors l image → IsLeftBy sectors (committing t l) image
maybe_by sectors l t image none (inl left) = inl left
maybe_by sectors l t image none (inr one) = let free : Some one.0 ≡ None = sym one.1 ∙ none in absurd cc

pub maybe_ledger : (sectors : ℕ) (state : State) (l : Ledger) (t : Committed) → l.maybe ≡ None → IsLedgerOf sectors state l → IsLedgerOf sectors state (committing t l)
maybe_ledger sectors state l t none is = record { images = λ image left. maybe_by sectors l t image none (is.images image left); reads = is.reads }

-- cells that are settled may have more
pub unsettled : (sectors : ℕ) (state : State) (l : Ledger) → IsLedgerOf sectors state (settled l) → IsLedgerOf sectors state l
unsettled sectors state l is = record { images = λ image left. fewer_cells sectors l image (is.images image left); reads = is.reads }

pub appended_ledger : (sectors : ℕ) (old new : State) (l : Ledger) → l.maybe ≡ None → l.superblock.clean ≡ false → IsSettled old → IsLedgerOf sectors old l → Leaves (IsAppended (geometry_of l.superblock) l.superblock.epoch old) new → IsLedgerOf sectors new l
appended_ledger sectors old new l none used still is run = record {
  images = λ image left. appends sectors old l image none used is (run image left);
  reads = λ block data' free. at block data' free (run (seen new) (seen_is_image new));
}
  where
    at : (block : ℕ) → IsDataBlock (geometry_of l.superblock) block → is_held l.now.log block ≡ false → IsAppended (geometry_of l.superblock) l.superblock.epoch old (seen new) → block_at (seen new) block ≡ (l.blocks block).seen
    at block data' free one = same_data (geometry_of l.superblock) l.superblock.epoch one.before (seen new) one.says.differs block data' ∙ ap (λ i. block_at i block) (still one.before one.left) ∙ is.reads block data' free

module _ (sectors : ℕ) (l : Ledger) (t : Committed) (folds : FoldsCatalogs (geometry_of l.superblock)) (one_more : FoldsOneMore (geometry_of l.superblock)) (none : l.maybe ≡ None) (used : l.superblock.clean ≡ false) (later : l.superblock.next ≤ t.number) (may : MayCommit (geometry_of l.superblock) t l.now) where
  -- a commit that failed
  pub tried_ledger : (first old new : State) → IsSettled first → IsLedgerOf sectors first l → Leaves (IsAppended (geometry_of l.superblock) l.superblock.epoch first) old → Leaves (IsMaybeCommitted (geometry_of l.superblock) l.superblock.epoch t old) new → IsLedgerOf sectors new (committing t l)
  tried_ledger first old new still is appended run = record {
    images = λ image left. commits_or_not sectors old l t image folds one_more none used (appended_ledger sectors first old l none used still is appended) later may (run image left);
    reads = λ block data' free. at block data' free (run (seen new) (seen_is_image new));
  }
    where
      differs : (before image : Image) → SaysTheSame (geometry_of l.superblock) l.superblock.epoch before image ⊎ CommitsOne (geometry_of l.superblock) l.superblock.epoch t before image → DiffersInEpoch (geometry_of l.superblock) l.superblock.epoch before image
      differs before image (inl same) = same.differs
      differs before image (inr one) = one.differs

      at : (block : ℕ) → IsDataBlock (geometry_of l.superblock) block → is_held l.now.log block ≡ false → IsMaybeCommitted (geometry_of l.superblock) l.superblock.epoch t old (seen new) → block_at (seen new) block ≡ (l.blocks block).seen
      at block data' free one =
          let from = appended one.before one.left in
          same_data (geometry_of l.superblock) l.superblock.epoch one.before (seen new) (differs one.before (seen new) one.says) block data'
          ∙ same_data (geometry_of l.superblock) l.superblock.epoch from.before one.before from.says.differs block data' ∙ ap (λ i. block_at i block) (still from.before from.left) ∙ is.reads block data' free

-- what each clause at Ok gives
pub on_ok_cases : {T E : Type 0} (r : Result T E) (P : Type 0) → (((S : Type 0) → OnOk r S → S) → P) → OnOk r P
on_ok_cases (Ok x) P f = f (λ S s. s)
on_ok_cases (Err e) P f = tt
