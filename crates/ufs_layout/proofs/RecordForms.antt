-- Records: how long they are, and how they are put one after the other.
use Rattle.std.proofs.Common.{ℕ, ◌≡◌, ◌+◌, ◌-◌, ◌*◌, ◌≤◌, List, [], ◌∷◌, ◌++◌, length, take, drop, replicate, flat_map, sym, ap, ◌∙◌, subst, arith}
use Rattle.std.proofs.lemmas.List.{drop-drop, drop_at, take_at, flat_map_more, length-append, length-replicate}
use Rattle.byteorder.specs.Endian.{little_bytes}
use Rattle.ufs_layout.specs.DentryForm.{DentryForm, dentry_bytes}
use Rattle.ufs_layout.specs.InodeForm.{extent_bytes}
use Rattle.ufs_layout.specs.Records.{record_bytes, records_bytes}
use Rattle.ufs_layout.specs.declared.inode.Extent.{Extent}
use Rattle.ufs_layout.specs.declared.records.LogRecord.{LogRecord}
use Rattle.ufs_layout.specs.declared.records.LogRecord.TheVariants.{Delta, Place, Free}
use Rattle.ufs_layout.proofs.Extents.{length-extents, put-next}

pub length-delta : (inode kind size keep : ℕ) (es : List Extent) → length (record_bytes (Delta inode kind size keep es)) ≡ 16 + 8 * length es
length-delta inode kind size keep es = omega (arith, length-extents es)

-- A piece is put, and another behind it.
pub two-pieces : (a k p : ℕ) (old area new done piece : List ℕ) → a + (k + p) ≤ length old → length done ≡ k
    → area ≡ take a old ++ done ++ drop (a + length done) old → new ≡ take (a + k) area ++ piece ++ drop (a + k + p) area
    → new ≡ take a old ++ (done ++ piece) ++ drop (a + (k + p)) old
two-pieces a k p old area new done piece room is_k is_area is_new =
    let end : a + k + p ≡ a + (k + p) = omega arith in
    put-next a k p old area new done piece (omega arith) is_k (is_area ∙ ap (λ n. take a old ++ done ++ drop (a + n) old) is_k) is_new
    ∙ ap (λ n. take a old ++ (done ++ piece) ++ drop n old) end

pub length-dentry : (d : DentryForm) → length d.name ≤ 58 → length (dentry_bytes d) ≡ 64
length-dentry d fits = omega (arith, length-append d.name (replicate (58 - length d.name) 0), length-replicate {A = ℕ} (58 - length d.name) 0)

pub length-place : (sector slot : ℕ) (d : DentryForm) → length d.name ≤ 58 → length (record_bytes (Place sector slot d)) ≡ 70
length-place sector slot d fits = omega (arith, length-append d.name (replicate (58 - length d.name) 0), length-replicate {A = ℕ} (58 - length d.name) 0)

-- A record stands at this place, all else being as before.
abbrev pub StandsAt : ℕ → List ℕ → List ℕ → LogRecord → Type 0
StandsAt at old new r = new ≡ take at old ++ record_bytes r ++ drop (at + length (record_bytes r)) old

pub stands-delta : (at inode kind size keep : ℕ) (old new : List ℕ) (r : LogRecord) (es xs : List Extent) → r ≡ Delta inode kind size keep es → xs ≡ es
    → new ≡ take at old ++ (1 ∷ little_bytes 4 inode ++ kind ∷ little_bytes 8 size ++ keep ∷ length xs ∷ flat_map extent_bytes xs) ++ drop (at + (16 + 8 * length xs)) old → StandsAt at old new r
stands-delta at inode kind size keep old new r es xs is_r is_xs there =
    subst (StandsAt at old new) (sym is_r)
    (subst (λ ys. StandsAt at old new (Delta inode kind size keep ys)) is_xs (there ∙ ap (λ n. take at old ++ record_bytes (Delta inode kind size keep xs) ++ drop (at + n) old) (sym (length-delta inode kind size keep xs))))

pub stands-place : (at sector slot : ℕ) (old new : List ℕ) (r : LogRecord) (d : DentryForm) → r ≡ Place sector slot d → length d.name ≤ 58
    → new ≡ take at old ++ (2 ∷ little_bytes 4 sector ++ slot ∷ dentry_bytes d) ++ drop (at + 70) old → StandsAt at old new r
stands-place at sector slot old new r d is_r fits there =
    subst (StandsAt at old new) (sym is_r) (there ∙ ap (λ n. take at old ++ record_bytes (Place sector slot d) ++ drop (at + n) old) (sym (length-place sector slot d fits)))

pub stands-free : (at inode : ℕ) (old new : List ℕ) (r : LogRecord) → r ≡ Free inode → new ≡ take at old ++ (3 ∷ little_bytes 4 inode) ++ drop (at + 5) old → StandsAt at old new r
stands-free at inode old new r is_r there = subst (StandsAt at old new) (sym is_r) there

-- One record more stands behind those that were put.
pub next-record : (at : ℕ) (old area new : List ℕ) (rs : List LogRecord) (r : LogRecord) → at ≡ length (records_bytes rs)
    → area ≡ records_bytes rs ++ drop at old → StandsAt at area new r → new ≡ records_bytes (rs ++ r ∷ []) ++ drop (at + length (record_bytes r)) old
next-record at old area new rs r is_at is_area there =
    there ∙ (λ i. front i ++ record_bytes r ++ rest i) ∙ ap (λ xs. xs ++ drop (at + length (record_bytes r)) old) (flat_map_more record_bytes [] rs r)
  where
    front : take at area ≡ records_bytes rs
    front = ap (take at) is_area ∙ take_at (records_bytes rs) (drop at old) at (sym is_at)

    behind : drop at area ≡ drop at old
    behind = ap (drop at) is_area ∙ drop_at (records_bytes rs) (drop at old) at (sym is_at)

    rest : drop (at + length (record_bytes r)) area ≡ drop (at + length (record_bytes r)) old
    rest = sym (drop-drop (length (record_bytes r)) at area) ∙ ap (drop (length (record_bytes r))) behind ∙ drop-drop (length (record_bytes r)) at old

pub length-more : (rs : List LogRecord) (r : LogRecord) → length (records_bytes (rs ++ r ∷ [])) ≡ length (records_bytes rs) + length (record_bytes r)
length-more rs r = ap length (sym (flat_map_more record_bytes [] rs r)) ∙ length-append (records_bytes rs) (record_bytes r)
