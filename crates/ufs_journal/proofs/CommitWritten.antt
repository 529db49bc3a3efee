-- An image that gets the commit of a transaction whose record sectors are there.
use Rattle.std.proofs.Common.{◌≡◌, ℕ, ◌<◌, ◌≤◌, List, [], ◌∷◌, ◌++◌, true, false, ◌||◌, ◌&&◌, Some, refl, ap, sym, ◌∙◌, subst}
use Rattle.std.specs.Prelude.{◌==◌, map, length, if◌then◌else◌}
use Rattle.std.specs.List.{list_any, range_with_len}
use Rattle.std.proofs.lemmas.Bool.{or_parts, le-ltb}
use Rattle.std.proofs.lemmas.List.{append-nil, map-append}
use Rattle.ufs_disk.specs.Disk.{put}
use Rattle.ufs_base.specs.Images.{Image}
use Rattle.ufs_image.specs.Journal.{epoch_in, FoundSector, PlacedRecord, Transaction, sectors_of_epoch, record_sectors, records_before, transactions, committed_of, committed}
use Rattle.ufs_layout.specs.JournalSector.{HasCommit, JournalSector, journal_of}
use Rattle.ufs_image.specs.BadSectors.{keeps_too_many, overkept_in, overkept, first_bad, bad_sector}
use Rattle.ufs_image.specs.Fold.{is_in_range, with_valid, with_committed, folded}
use Rattle.ufs_layout.specs.declared.geometry.Geometry.{Geometry}
use Rattle.ufs_layout.specs.declared.superblock.Super.{Super}
use Rattle.ufs_layout.specs.declared.records.LogRecord.{LogRecord}
use Rattle.ufs_layout.specs.declared.records.Committed.{Committed}
use Rattle.ufs_journal.specs.Applied.{keeps_more}
use Rattle.ufs_journal.specs.Found.{found, is_from, reaches, journal_sector}
use Rattle.ufs_journal.proofs.CommitSector.{one_more, off_other, off_none}
use Rattle.ufs_journal.proofs.RecordWritten.{any_either, front, behind, found_before, found_after, read_after}
use Rattle.ufs_journal.proofs.Placed.{read_front, read_behind, read_without}
use Rattle.ufs_journal.proofs.Lowest.{same_lowest}
use Rattle.ufs_journal.proofs.Frame.{overkept_agree, put_agree}

-- the records without their places
abbrev pub without_places : List PlacedRecord → List LogRecord
without_places ps = map (λ (p : PlacedRecord). p.1) ps

-- no record of it keeps too many
pub none_overkept : (g : Geometry) (number : ℕ) (start : Image) (ps : List PlacedRecord) (now : Image) → keeps_more g number start (without_places ps) now ≡ false → overkept_in g number start ps now ≡ []
none_overkept g number start [] now fits = refl
none_overkept g number start (p ∷ ps) now fits =
    let parts = or_parts (is_in_range g p.1 && keeps_too_many g number start now p.1) (keeps_more g number start (without_places ps) (with_valid g number start p.1 now)) fits in
    λ i. (if parts.0 i then p.0 ∷ [] else []) ++ none_overkept g number start ps (with_valid g number start p.1 now) parts.1 i

-- one transaction more is folded behind the others
pub overkept_more : (g : Geometry) (ts : List Transaction) (t : Transaction) (d : Image) → keeps_more g t.number (folded g (map committed_of ts) d) (without_places t.records) (folded g (map committed_of ts) d) ≡ false
    → overkept g (ts ++ t ∷ []) d ≡ overkept g ts d
overkept_more g [] t d fits = append-nil (overkept_in g t.number d t.records d) ∙ none_overkept g t.number d t.records d fits
overkept_more g (u ∷ us) t d fits = ap (λ (l : List ℕ). overkept_in g u.number d u.records d ++ l) (overkept_more g us t (with_committed g (committed_of u) d) fits)

module _ (g : Geometry) (epoch place : ℕ) (within : place < g.journal) (d : Image) (blank : (epoch_in (d (journal_sector g place)) == epoch) ≡ false)
    (txn count number : ℕ) (bytes : List ℕ) (spells : journal_of bytes ≡ Some (record { epoch = epoch; txn = txn; index = count; content = HasCommit number })) (of_epoch : (epoch_in bytes == epoch) ≡ true)
    (none_behind : list_any (is_from txn count) (found g epoch d) ≡ false) (fresh : list_any (reaches number) (found g epoch d) ≡ false) where
  abbrev sector : JournalSector
  sector = record { epoch = epoch; txn = txn; index = count; content = HasCommit number }

  abbrev pub commit : FoundSector
  commit = (journal_sector g place, sector)

  abbrev there : List FoundSector
  there = front g epoch place within d blank ++ behind g epoch place within d blank

  same_there : found g epoch d ≡ there
  same_there = found_before g epoch place within d blank

  transactions_there : transactions (front g epoch place within d blank ++ commit ∷ behind g epoch place within d blank)
      ≡ transactions there ++ record { number = number; records = records_before there commit } ∷ []
  transactions_there = one_more (journal_sector g place) epoch txn count number (front g epoch place within d blank) (behind g epoch place within d blank) (sym (ap (list_any (reaches number)) same_there) ∙ fresh)

  -- the transaction that it commits
  abbrev pub one : Committed
  one = record { number = number; records = without_places (records_before (found g epoch d) commit) }

  -- it is committed behind the others
  pub commit_committed : committed g epoch (put (journal_sector g place) bytes d) ≡ committed g epoch d ++ one ∷ []
  commit_committed = ap (λ (all : List FoundSector). map committed_of (transactions all)) (found_after g epoch place within d blank bytes sector spells of_epoch)
      ∙ ap (map committed_of) transactions_there
      ∙ map-append committed_of (transactions there) (record { number = number; records = records_before there commit } ∷ [])
      ∙ (λ i. map committed_of (transactions (sym same_there i)) ++ record { number = number; records = without_places (records_before (sym same_there i) commit) } ∷ [])

  -- and the same sector is the lowest that is off
  pub commit_bad : list_any (λ k. length (record_sectors (found g epoch d) commit k) == 0) (range_with_len 0 count) ≡ false
      → keeps_more g number (folded g (committed g epoch d) d) one.records (folded g (committed g epoch d) d) ≡ false
      → (superblock : Super) → superblock.epoch ≡ epoch → superblock.next ≤ number → bad_sector g superblock (put (journal_sector g place) bytes d) ≡ bad_sector g superblock d
  commit_bad all_there fits superblock same new =
      ap (λ e. first_bad g superblock.next (put (journal_sector g place) bytes d) (sectors_of_epoch g e (put (journal_sector g place) bytes d))) same
      ∙ ap (first_bad g superblock.next (put (journal_sector g place) bytes d)) (read_after g epoch place within d blank bytes sector spells of_epoch)
      ∙ same_lowest g superblock.next (journal_sector g place) sector (read_front g epoch place within d) (read_behind g epoch place within d) d (put (journal_sector g place) bytes d)
      (λ f. is_from txn count f || reaches number f)
      (off_other (journal_sector g place) epoch txn count number (front g epoch place within d blank) (behind g epoch place within d blank) g superblock.next)
      (sym (ap (list_any (λ f. is_from txn count f || reaches number f)) same_there) ∙ any_either (is_from txn count) (reaches number) (found g epoch d) none_behind fresh)
      (off_none (journal_sector g place) epoch txn count number (front g epoch place within d blank) (behind g epoch place within d blank) g superblock.next
      (sym (ap (list_any (is_from txn count)) same_there) ∙ none_behind) (sym (ap (list_any (reaches number)) same_there) ∙ fresh)
      (sym (ap (λ (all : List FoundSector). list_any (λ k. length (record_sectors all commit k) == 0) (range_with_len 0 count)) same_there) ∙ all_there) (le-ltb number superblock.next new))
      (ap (λ ts. overkept g ts (put (journal_sector g place) bytes d)) transactions_there
      ∙ overkept_agree g (transactions there ++ record { number = number; records = records_before there commit } ∷ []) (put (journal_sector g place) bytes d) d (put_agree g place bytes d within)
      ∙ overkept_more g (transactions there) (record { number = number; records = records_before there commit }) d
      (subst (λ (all : List FoundSector). keeps_more g number (folded g (map committed_of (transactions all)) d) (without_places (records_before all commit)) (folded g (map committed_of (transactions all)) d) ≡ false) same_there fits))
      ∙ sym (ap (first_bad g superblock.next d) (read_without g epoch place within d blank))
      ∙ sym (ap (λ e. first_bad g superblock.next d (sectors_of_epoch g e d)) same)
