-- A journal sector is read back from its bytes.
use Rattle.std.proofs.Common.{ℕ, ◌≡◌, ◌<◌, ◌≤◌, ◌-◌, ◌^◌, List, ◌++◌, length, take, drop, replicate, true, ◌&&◌, Some, refl, ap, ◌∙◌}
use Rattle.std.specs.Prelude.{◌==◌}
use Rattle.std.specs.List.{list_all}
use Rattle.std.proofs.lemmas.Bool.{le-leb, eq-eqb}
use Rattle.std.proofs.lemmas.List.{take_at}
use Rattle.ufs_layout.specs.Words.{number_at}
use Rattle.ufs_layout.specs.JournalHead.{header_bytes}
use Rattle.ufs_layout.specs.JournalSector.{JournalSector, HasRecords, HasCommit, head_in, journal_bytes, journal_fields, journal_of, is_journal_sector}
use Rattle.ufs_image.specs.Journal.{epoch_in}
use Rattle.ufs_layout.specs.Records.{records_bytes, record_fields, records_of, is_record}
use Rattle.ufs_layout.specs.declared.records.LogRecord.{LogRecord}
use Rattle.ufs_layout.proofs.Compared.{number-back}
use Rattle.ufs_layout.proofs.Spelled.{some_if-some, spelled-spelling}

-- the numbers of a commit
pub commit_back : (epoch txn count number : ℕ) → epoch < 2 ^ 64 → txn < 2 ^ 32 → count < 2 ^ 16 → number < 2 ^ 64
    → journal_fields (journal_bytes (record { epoch = epoch; txn = txn; index = count; content = HasCommit number })) ≡ record { epoch = epoch; txn = txn; index = count; content = HasCommit number }
commit_back epoch txn count number fits_epoch fits_txn fits_count fits_number i = record {
  epoch = number-back 8 epoch fits_epoch i;
  txn = number-back 4 txn fits_txn i;
  index = number-back 2 count fits_count i;
  content = HasCommit (number-back 8 number fits_number i);
}

-- the head and the records
pub records_back : (epoch txn index : ℕ) (rs : List LogRecord) → epoch < 2 ^ 64 → txn < 2 ^ 32 → index < 2 ^ 16 → length (records_bytes rs) < 2 ^ 16 → records_of (records_bytes rs) ≡ Some rs
    → journal_fields (journal_bytes (record { epoch = epoch; txn = txn; index = index; content = HasRecords rs })) ≡ record { epoch = epoch; txn = txn; index = index; content = HasRecords rs }
records_back epoch txn index rs fits_epoch fits_txn fits_index fits_used back i = record {
  epoch = number-back 8 epoch fits_epoch i;
  txn = number-back 4 txn fits_txn i;
  index = number-back 2 index fits_index i;
  content = HasRecords ((ap (λ bs. record_fields (length bs) bs) content ∙ (some_if-some _ _ rs back).1) i);
}
  where
    content : (let bytes = journal_bytes (record { epoch = epoch; txn = txn; index = index; content = HasRecords rs }) in take (number_at 2 16 bytes) (drop 24 bytes) ≡ records_bytes rs)
    content =
        let j : JournalSector = record { epoch = epoch; txn = txn; index = index; content = HasRecords rs } in
        ap (λ n. take n (drop 24 (journal_bytes j))) (number-back 2 (length (records_bytes rs)) fits_used)
        ∙ take_at (records_bytes rs) (replicate (512 - length (header_bytes (head_in j) ++ records_bytes rs)) 0) (length (records_bytes rs)) refl

-- a sector that is read back is on its form
pub read_back : (j : JournalSector) → journal_fields (journal_bytes j) ≡ j → is_journal_sector j ≡ true → journal_of (journal_bytes j) ≡ Some j
read_back j back form = spelled-spelling journal_fields journal_bytes is_journal_sector j back form

pub commit_form : (epoch txn count number : ℕ) → 1 ≤ txn → is_journal_sector (record { epoch = epoch; txn = txn; index = count; content = HasCommit number }) ≡ true
commit_form epoch txn count number some = λ i. (le-leb 1 txn some i && true) && true

pub records_form : (epoch txn index : ℕ) (rs : List LogRecord) → 1 ≤ txn → length (records_bytes rs) ≤ 488 → list_all is_record rs ≡ true → is_journal_sector (record { epoch = epoch; txn = txn; index = index; content = HasRecords rs }) ≡ true
records_form epoch txn index rs some fits form = λ i. (le-leb 1 txn some i && le-leb (length (records_bytes rs)) 488 fits i) && form i

-- what is read has the epoch that stands in the bytes
pub read_epoch : (bytes : List ℕ) (j : JournalSector) → journal_of bytes ≡ Some j → (epoch_in bytes == j.epoch) ≡ true
read_epoch bytes j is = eq-eqb (epoch_in bytes) j.epoch (ap (λ (k : JournalSector). k.epoch) (some_if-some _ (journal_fields bytes) j is).1)
