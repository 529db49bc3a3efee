-- What is kept depends on the journal's sectors alone.
use Rattle.std.proofs.Common.{◌≡◌, ◌-◌, ◌*◌, ℕ, List, ap, sym, ◌∙◌, arith}
use Rattle.std.specs.Prelude.{◌==◌}
use Rattle.std.specs.List.{list_any}
use Rattle.ufs_base.specs.Images.{Image}
use Rattle.ufs_disk.specs.Disk.{State, seen}
use Rattle.ufs_layout.specs.Areas.{first_of_journal}
use Rattle.ufs_image.specs.Journal.{epoch_in, sectors_of_epoch, well_spelled}
use Rattle.ufs_layout.specs.declared.geometry.Geometry.{Geometry}
use Rattle.ufs_layout.specs.declared.records.LogRecord.{LogRecord}
use Rattle.ufs_journal.specs.declared.open_list.Opened.{Opened}
use Rattle.ufs_journal.specs.Found.{found, is_of, reaches, sectors_of_txn, journal_sector}
use Rattle.ufs_journal.specs.Frames.{AgreeInJournal, KeepsJournal}
use Rattle.ufs_journal.specs.Kept.{IsReady, IsUnused, IsOpen}
use Rattle.ufs_journal.proofs.Placed.{read_agree}

pub sectors_agree : (g : Geometry) (epoch : ℕ) (d e : Image) → AgreeInJournal g d e → sectors_of_epoch g epoch d ≡ sectors_of_epoch g epoch e
sectors_agree g epoch d e agree = read_agree epoch d e (8 * first_of_journal g) g.journal (λ s from under.
    let at : s ≡ journal_sector g (s - journal_sector g 0) = omega arith in
    ap d at ∙ agree (s - journal_sector g 0) (omega arith) ∙ sym (ap e at))

pub found_agree : (g : Geometry) (epoch : ℕ) (d e : Image) → AgreeInJournal g d e → found g epoch d ≡ found g epoch e
found_agree g epoch d e agree = ap well_spelled (sectors_agree g epoch d e agree)

pub keeps_ready : (g : Geometry) (epoch used number : ℕ) (old new : State) → KeepsJournal g old new → IsReady g epoch used number old → IsReady g epoch used number new
keeps_ready g epoch used number old new keeps ready = record {
  free = λ image left place from under. (let b = keeps.each image left in ap (λ x. epoch_in x == epoch) (b.2 place under) ∙ ready.free b.0 b.1 place from under);
  latest = λ image left place under. (let b = keeps.each image left in let same = ap epoch_in (b.2 place under) in let le = ready.latest b.0 b.1 place under in omega (arith, same, le));
  fresh = λ image left. (let b = keeps.each image left in ap (list_any (reaches number)) (found_agree g epoch image b.0 b.2) ∙ ready.fresh b.0 b.1);
}

pub keeps_unused : (g : Geometry) (epoch txn : ℕ) (old new : State) → KeepsJournal g old new → IsUnused g epoch txn old → IsUnused g epoch txn new
keeps_unused g epoch txn old new keeps unused image left = (let b = keeps.each image left in ap (list_any (is_of txn)) (found_agree g epoch image b.0 b.2) ∙ unused b.0 b.1)

pub keeps_open : (g : Geometry) (epoch : ℕ) (opened : List Opened) (txn : ℕ) (records : List LogRecord) (old new : State) → KeepsJournal g old new → IsOpen g epoch opened txn records old → IsOpen g epoch opened txn records new
keeps_open g epoch opened txn records old new keeps is = record {
  one = is.one;
  listed = is.listed;
  holds = record {
    inside = is.holds.inside;
    blank = ap (λ x. epoch_in x == epoch) (keeps.read is.one.place is.holds.inside) ∙ is.holds.blank;
    counted = is.holds.counted;
    holds = ap (sectors_of_txn is.one.txn) (found_agree g epoch (seen new) (seen old) keeps.read) ∙ is.holds.holds;
  };
}
