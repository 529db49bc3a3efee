-- An image that gets a sector of records of a transaction that has no commit.
use Rattle.std.proofs.Common.{◌≡◌, ℕ, ◌<◌, List, [], ◌∷◌, ◌++◌, Bool, true, false, ◌||◌, Option, Some, refl, ap, sym, ◌∙◌}
use Rattle.std.specs.Prelude.{◌==◌, not, map}
use Rattle.std.specs.List.{list_any}
use Rattle.std.proofs.lemmas.Bool.{or_from}
use Rattle.ufs_disk.specs.Disk.{put}
use Rattle.ufs_base.specs.Images.{Image}
use Rattle.ufs_image.specs.Journal.{epoch_in, FoundSector, sectors_of_epoch, well_spelled, transactions, committed_of, committed}
use Rattle.ufs_layout.specs.JournalSector.{HasRecords, JournalSector, journal_of}
use Rattle.ufs_image.specs.BadSectors.{overkept, first_bad, bad_sector}
use Rattle.ufs_image.specs.Fold.{is_in_range}
use Rattle.ufs_layout.specs.declared.geometry.Geometry.{Geometry}
use Rattle.ufs_layout.specs.declared.superblock.Super.{Super}
use Rattle.ufs_layout.specs.declared.records.LogRecord.{LogRecord}
use Rattle.ufs_journal.specs.Found.{found, is_committed, is_at, commits_txn, journal_sector}
use Rattle.ufs_journal.proofs.RecordSector.{same_transactions, off_other, off_none}
use Rattle.ufs_journal.proofs.Placed.{read_front, read_behind, read_with, read_without}
use Rattle.ufs_journal.proofs.Lowest.{spelled_with, spelled_without, same_lowest}
use Rattle.ufs_journal.proofs.Frame.{overkept_agree, put_agree}

-- two tests that nothing passes
pub any_either : {X : Type 0} (p q : X → Bool) (xs : List X) → list_any p xs ≡ false → list_any q xs ≡ false → list_any (λ x. p x || q x) xs ≡ false
any_either p q [] one other = refl
any_either p q (x ∷ xs) one other =
    let ps = Rattle.std.proofs.lemmas.Bool.or_parts (p x) (list_any p xs) one in
    let qs = Rattle.std.proofs.lemmas.Bool.or_parts (q x) (list_any q xs) other in
    λ i. (ps.0 i || qs.0 i) || any_either p q xs ps.1 qs.1 i

module _ (g : Geometry) (epoch place : ℕ) (within : place < g.journal) (d : Image) (blank : (epoch_in (d (journal_sector g place)) == epoch) ≡ false) where
  abbrev pub front : List FoundSector
  front = well_spelled (read_front g epoch place within d)

  abbrev pub behind : List FoundSector
  behind = well_spelled (read_behind g epoch place within d)

  -- what is found before, and with one sector more
  pub found_before : found g epoch d ≡ front ++ behind
  found_before = ap well_spelled (read_without g epoch place within d blank) ∙ spelled_without (read_front g epoch place within d) (read_behind g epoch place within d)

  module _ (bytes : List ℕ) (j : JournalSector) (spells : journal_of bytes ≡ Some j) (of_epoch : (epoch_in bytes == epoch) ≡ true) where
    pub read_after : sectors_of_epoch g epoch (put (journal_sector g place) bytes d) ≡ read_front g epoch place within d ++ (journal_sector g place, Some j) ∷ read_behind g epoch place within d
    read_after = read_with g epoch place within d bytes of_epoch ∙ ap (λ (o : Option JournalSector). read_front g epoch place within d ++ (journal_sector g place, o) ∷ read_behind g epoch place within d) spells

    pub found_after : found g epoch (put (journal_sector g place) bytes d) ≡ front ++ (journal_sector g place, j) ∷ behind
    found_after = ap well_spelled read_after ∙ spelled_with (journal_sector g place) j (read_front g epoch place within d) (read_behind g epoch place within d)

  module _ (txn index : ℕ) (records : List LogRecord) (bytes : List ℕ) (spells : journal_of bytes ≡ Some (record { epoch = epoch; txn = txn; index = index; content = HasRecords records })) (of_epoch : (epoch_in bytes == epoch) ≡ true)
      (uncommitted : is_committed txn (found g epoch d) ≡ false) where
    abbrev sector : JournalSector
    sector = record { epoch = epoch; txn = txn; index = index; content = HasRecords records }

    uncommitted_there : is_committed txn (front ++ behind) ≡ false
    uncommitted_there = sym (ap (is_committed txn) found_before) ∙ uncommitted

    transactions_there : transactions (front ++ (journal_sector g place, sector) ∷ behind) ≡ transactions (front ++ behind)
    transactions_there = same_transactions (journal_sector g place) epoch txn index records front behind uncommitted_there

    -- the same transactions are committed
    pub record_committed : committed g epoch (put (journal_sector g place) bytes d) ≡ committed g epoch d
    record_committed = ap (λ (all : List FoundSector). map committed_of (transactions all)) (found_after bytes sector spells of_epoch)
        ∙ ap (map committed_of) transactions_there
        ∙ sym (ap (λ (all : List FoundSector). map committed_of (transactions all)) found_before)

    -- and the same sector is the lowest that is off
    pub record_bad : list_any (is_at txn index) (found g epoch d) ≡ false → list_any (λ r. not (is_in_range g r)) records ≡ false
        → (superblock : Super) → superblock.epoch ≡ epoch → bad_sector g superblock (put (journal_sector g place) bytes d) ≡ bad_sector g superblock d
    record_bad single inside superblock same =
        ap (λ e. first_bad g superblock.next (put (journal_sector g place) bytes d) (sectors_of_epoch g e (put (journal_sector g place) bytes d))) same
        ∙ ap (first_bad g superblock.next (put (journal_sector g place) bytes d)) (read_after bytes sector spells of_epoch)
        ∙ same_lowest g superblock.next (journal_sector g place) sector (read_front g epoch place within d) (read_behind g epoch place within d) d (put (journal_sector g place) bytes d)
        (λ f. commits_txn txn f || is_at txn index f)
        (off_other (journal_sector g place) epoch txn index records front behind g superblock.next)
        (any_either (commits_txn txn) (is_at txn index) (front ++ behind) uncommitted_there single_there)
        (off_none (journal_sector g place) epoch txn index records front behind g superblock.next uncommitted_there single_there inside)
        (ap (λ ts. overkept g ts (put (journal_sector g place) bytes d)) transactions_there ∙ overkept_agree g (transactions (front ++ behind)) (put (journal_sector g place) bytes d) d (put_agree g place bytes d within))
        ∙ sym (ap (first_bad g superblock.next d) (read_without g epoch place within d blank))
        ∙ sym (ap (λ e. first_bad g superblock.next d (sectors_of_epoch g e d)) same)
      where
        single_there : list_any (is_at txn index) (front ++ behind) ≡ false
        single_there = sym (ap (list_any (is_at txn index)) found_before) ∙ single
