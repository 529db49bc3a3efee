-- Records are read back from their spelling, and a content is read record by record.
use Rattle.std.proofs.Common.{ℕ, zero, suc, ◌≡◌, ◌+◌, ◌*◌, ◌<◌, ◌≤◌, ◌^◌, List, [], ◌∷◌, ◌++◌, length, drop, Some, refl, ap, ◌∙◌, arith}
use Rattle.std.specs.Prelude.{IsTrue}
use Rattle.std.specs.List.{list_all, AllByRecursion}
use Rattle.std.proofs.lemmas.List.{drop_at, take_at, length-append}
use Rattle.ufs_layout.specs.InodeForm.{FitsExtent}
use Rattle.ufs_layout.specs.DentryForm.{DentryForm, dentry_bytes, dentry_fields}
use Rattle.ufs_layout.specs.Records.{FitsRecord, record_bytes, records_bytes, first_record, and_more, record_fields, is_record, records_of}
use Rattle.ufs_layout.specs.declared.inode.Extent.{Extent}
use Rattle.ufs_layout.specs.declared.records.LogRecord.{LogRecord}
use Rattle.ufs_layout.specs.declared.records.LogRecord.TheVariants.{Delta, Place, Free}
use Rattle.ufs_layout.proofs.Compared.{number-back}
use Rattle.ufs_layout.proofs.Spelled.{spelled-spelling}
use Rattle.ufs_layout.proofs.Extents.{extents-back}
use Rattle.ufs_layout.proofs.DentryForms.{dentry-back}
use Rattle.ufs_layout.proofs.RecordForms.{length-delta, length-dentry, length-place}

-- ---- one record

free_back : (inode : ℕ) (rest : List ℕ) → inode < 2 ^ 32 → first_record (record_bytes (Free inode) ++ rest) ≡ Some (Free inode, rest)
free_back inode rest fits = λ i. Some (Free (number-back 4 inode fits i), rest)

delta_back : (inode kind size keep : ℕ) (es : List Extent) (rest : List ℕ) → (inode < 2 ^ 32) × (size < 2 ^ 64) × AllByRecursion FitsExtent es
    → first_record (record_bytes (Delta inode kind size keep es) ++ rest) ≡ Some (Delta inode kind size keep es, rest)
delta_back inode kind size keep es rest fits = λ i. Some (Delta (number-back 4 inode fits.0 i) kind (number-back 8 size fits.1 i) keep (extents-back es rest fits.2 i), behind i)
  where
    behind : drop (16 + 8 * length es) (record_bytes (Delta inode kind size keep es) ++ rest) ≡ rest
    behind = drop_at (record_bytes (Delta inode kind size keep es)) rest (16 + 8 * length es) (length-delta inode kind size keep es)

place_back : (sector slot : ℕ) (d : DentryForm) (rest : List ℕ) → (sector < 2 ^ 32) × (d.inode < 2 ^ 32) × (length d.name ≤ 58)
    → first_record (record_bytes (Place sector slot d) ++ rest) ≡ Some (Place sector slot d, rest)
place_back sector slot d rest fits =
    (λ i. Some (Place (number-back 4 sector fits.0 i) slot (dentry_fields (take_at (dentry_bytes d) rest 64 (length-dentry d fits.2) i)), drop_at (record_bytes (Place sector slot d)) rest 70 (length-place sector slot d fits.2) i))
    ∙ (λ i. Some (Place sector slot (dentry-back d fits.1 i), rest))

-- Each record is read back, whatever stands behind it.
pub record_back : (r : LogRecord) (rest : List ℕ) → FitsRecord r → first_record (record_bytes r ++ rest) ≡ Some (r, rest)
record_back (Delta inode kind size keep es) rest fits = delta_back inode kind size keep es rest fits
record_back (Place sector slot d) rest fits = place_back sector slot d rest fits
record_back (Free inode) rest fits = free_back inode rest fits

-- ---- all of them

-- enough for a list of records
record_fields_back : (rs : List LogRecord) (most : ℕ) → length rs ≤ most → AllByRecursion FitsRecord rs → record_fields most (records_bytes rs) ≡ rs
record_fields_back [] zero enough fits = refl
record_fields_back [] (suc most) enough fits = refl
record_fields_back (r ∷ rs) zero enough fits = absurd (omega arith)
record_fields_back (r ∷ rs) (suc most) enough fits = ap (and_more (record_fields most)) (record_back r (records_bytes rs) fits.0) ∙ ap (λ behind. r ∷ behind) (record_fields_back rs most (omega arith) fits.1)

some_bytes : (r : LogRecord) → 1 ≤ length (record_bytes r)
some_bytes (Delta inode kind size keep es) = omega arith
some_bytes (Place sector slot d) = omega arith
some_bytes (Free inode) = omega arith

enough_bytes : (rs : List LogRecord) → length rs ≤ length (records_bytes rs)
enough_bytes [] = omega arith
enough_bytes (r ∷ rs) = omega (arith, enough_bytes rs, some_bytes r, length-append (record_bytes r) (records_bytes rs))

-- The records are read back from their spelling.
pub records_of-records_bytes : (rs : List LogRecord) → AllByRecursion FitsRecord rs → IsTrue (list_all is_record rs) → records_of (records_bytes rs) ≡ Some rs
records_of-records_bytes rs fits are =
    spelled-spelling (record_fields (length (records_bytes rs))) records_bytes (list_all is_record) rs (record_fields_back rs (length (records_bytes rs)) (enough_bytes rs) fits) are
