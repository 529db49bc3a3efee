-- What a journal keeps depends on its sectors alone.
use Rattle.std.proofs.Common.{◌≡◌, ℕ, ◌+◌, ◌*◌, ◌-◌, ◌<◌, ◌≤◌, inl, length, List, ap, sym, ◌∙◌, subst, arith}
use Rattle.std.specs.Prelude.{◌==◌}
use Rattle.std.specs.List.{list_any}
use Rattle.ufs_disk.specs.Disk.{State, IsImage, IsPartlyWritten, Leaves}
use Rattle.ufs_layout.specs.Areas.{first_of_data, first_of_journal}
use Rattle.ufs_base.specs.Images.{Image}
use Rattle.ufs_image.specs.Journal.{epoch_in, well_spelled}
use Rattle.ufs_layout.specs.declared.geometry.Geometry.{Geometry}
use Rattle.ufs_journal.specs.Found.{journal_sector, found, is_of, reaches}
use Rattle.ufs_journal.specs.Frames.{AgreeInJournal}
use Rattle.ufs_journal.specs.Kept.{IsReady, IsUnused}
use Rattle.ufs_image.proofs.Empty.{from_range}
use Rattle.ufs_ledger.proofs.Mixing.{elsewhere}
use Rattle.ufs_image.proofs.Home.{sectors_same}

pub found_alike : (g : Geometry) (epoch : ℕ) (image other : Image) → AgreeInJournal g image other → found g epoch image ≡ found g epoch other
found_alike g epoch image other same = ap well_spelled (sectors_same g epoch other image (λ s is. at s (from_range (8 * first_of_journal g) g.journal s is)))
  where
    at : (s : ℕ) → (8 * first_of_journal g ≤ s) × (s < 8 * first_of_journal g + g.journal) → image s ≡ other s
    at s within =
        let from = within.0 in
        let under = within.1 in
        let back : journal_sector g (s - 8 * first_of_journal g) ≡ s = omega (arith, from) in
        subst (λ k. image k ≡ other k) back (same (s - 8 * first_of_journal g) (omega (arith, from, under)))

-- an image of the state with this journal
pub record HasJournalOf (g : Geometry) (state : State) (image : Image) : Type 0 where
  pub before : Image
  pub left : IsImage state before
  pub same : AgreeInJournal g image before

pub ready_from : (g : Geometry) (epoch used number : ℕ) (old new : State) → Leaves (HasJournalOf g old) new → IsReady g epoch used number old → IsReady g epoch used number new
ready_from g epoch used number old new from is = record {
  free = λ image left place low under. let of = from image left in ap (λ bytes. epoch_in bytes == epoch) (of.same place under) ∙ is.free of.before of.left place low under;
  latest = λ image left place under. let of = from image left in subst (λ bytes. epoch_in bytes ≤ epoch) (sym (of.same place under)) (is.latest of.before of.left place under);
  fresh = λ image left. let of = from image left in ap (list_any (reaches number)) (found_alike g epoch image of.before of.same) ∙ is.fresh of.before of.left;
}

pub unused_from : (g : Geometry) (epoch txn : ℕ) (old new : State) → Leaves (HasJournalOf g old) new → IsUnused g epoch txn old → IsUnused g epoch txn new
unused_from g epoch txn old new from is image left = let of = from image left in ap (list_any (is_of txn)) (found_alike g epoch image of.before of.same) ∙ is of.before of.left

-- a block of the data area is written
pub written_journal : (g : Geometry) (block : ℕ) → first_of_data g ≤ block → (bytes : List ℕ) → length bytes ≡ 4096 → (state : State) (image : Image) → IsPartlyWritten (8 * block) bytes state image → HasJournalOf g state image
written_journal g block from bytes size state image part = record {
  before = part.before;
  left = part.left;
  same = λ place under. sym (elsewhere block bytes part.before image size part.mixed (journal_sector g place) (inl (omega (arith, from, under))));
}
