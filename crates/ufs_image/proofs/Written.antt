-- A catalog and the bytes that are written for it.
use Rattle.std.proofs.Common.{◌≡◌, ℕ, zero, suc, ◌+◌, ◌*◌, ◌-◌, ◌<◌, ◌≤◌, List, [], ◌∷◌, ◌++◌, length, take, drop, Some, map, ap, sym, refl, ◌∙◌, arith, append_assoc, length-drop}
use Rattle.std.specs.Prelude.{flat_map, nat_le}
use Rattle.std.specs.List.{range_with_len, AllByRecursion}
use Rattle.std.proofs.lemmas.Bool.{and_parts}
use Rattle.std.proofs.lemmas.Bool.Decides.{nat_tests}
use Rattle.std.proofs.lemmas.List.{take_at, drop_at, map-append, take-append-drop, length-take-le}
use Rattle.ufs_layout.specs.Words.{pieces}
use Rattle.ufs_layout.specs.InodeForm.{inode_of}
use Rattle.ufs_layout.specs.DentryForm.{DentryForm, dentry_bytes, dentry_of}
use Rattle.ufs_base.specs.Images.{Image}
use Rattle.ufs_image.specs.Images.{block_at}
use Rattle.ufs_layout.specs.declared.geometry.Geometry.{Geometry}
use Rattle.ufs_image.specs.Catalog.{Catalog, IsCatalogOf}
use Rattle.ufs_image.specs.Nodes.{read_block}
use Rattle.ufs_image.specs.Agree.{IsOfBlock}
use Rattle.ufs_image.specs.Written.{FitsDentryForm, IsWritten}
use Rattle.ufs_image.proofs.SlotBytes.{dentry-read}
use Rattle.ufs_layout.proofs.RecordForms.{length-dentry}
use Rattle.ufs_image.proofs.Steps.{inode-read}

short_name : (d : DentryForm) → FitsDentryForm d → length d.name ≤ 58
short_name d fits = let t = (and_parts (nat_le (length d.name) 58) _ fits.spelled).0 in grind (arith, nat_tests, t)

-- pieces of a list that is put together
pieces-append : (m n : ℕ) (xs ys : List ℕ) → length xs ≡ 64 * m → pieces (m + n) 64 (xs ++ ys) ≡ pieces m 64 xs ++ pieces n 64 ys
pieces-append zero n [] ys sized = let at : 0 + n ≡ n = omega arith in ap (λ k. pieces k 64 ys) at
pieces-append zero n (x ∷ xs) ys sized = absurd (omega (arith, sized))
pieces-append (suc m) n xs ys sized =
    let at : suc m + n ≡ suc (m + n) = omega arith in
    let front : length (take 64 xs) ≡ 64 = length-take-le 64 xs (omega (arith, sized)) in
    let back : length (drop 64 xs) ≡ 64 * m = let left = length-drop 64 xs in omega (arith, left, sized) in
    let cut : xs ++ ys ≡ take 64 xs ++ (drop 64 xs ++ ys) = ap (λ zs. zs ++ ys) (sym (take-append-drop 64 xs)) ∙ append_assoc (take 64 xs) (drop 64 xs) ys in
    ap (λ k. pieces k 64 (xs ++ ys)) at ∙ ap (pieces (suc (m + n)) 64) cut
    ∙ (λ i. take_at (take 64 xs) (drop 64 xs ++ ys) 64 front i ∷ pieces (m + n) 64 (drop_at (take 64 xs) (drop 64 xs ++ ys) 64 front i))
    ∙ ap (λ ps. take 64 xs ∷ ps) (pieces-append m n (drop 64 xs) ys back)

-- the slots of so many sectors in a row
pub rows : (image : Image) (a n : ℕ) → ((s : ℕ) → a ≤ s → s < a + n → length (image s) ≡ 512) → flat_map (λ s. map dentry_of (pieces 8 64 (image s))) (range_with_len a n) ≡ map dentry_of (pieces (8 * n) 64 (flat_map image (range_with_len a n)))
rows image a zero sized = refl
rows image a (suc n) sized =
    let at : 8 * suc n ≡ 8 + 8 * n = omega arith in
    let first : length (image a) ≡ 512 = sized a (omega arith) (omega arith) in
    let rest = rows image (a + 1) n (λ s from under. sized s (omega (arith, from)) (omega (arith, under))) in
    ap (λ zs. map dentry_of (pieces 8 64 (image a)) ++ zs) rest
    ∙ sym (map-append dentry_of (pieces 8 64 (image a)) (pieces (8 * n) 64 (flat_map image (range_with_len (a + 1) n))))
    ∙ ap (map dentry_of) (sym (pieces-append 8 (8 * n) (image a) (flat_map image (range_with_len (a + 1) n)) first))
    ∙ ap (λ k. map dentry_of (pieces k 64 (image a ++ flat_map image (range_with_len (a + 1) n)))) (sym at)

dentries_read : (ds : List DentryForm) → AllByRecursion FitsDentryForm ds → map dentry_of (pieces (length ds) 64 (flat_map dentry_bytes ds)) ≡ map Some ds
dentries_read [] all = refl
dentries_read (d ∷ ds) all =
    let size = length-dentry d (short_name d all.0) in
    (λ i. dentry_of (take_at (dentry_bytes d) (flat_map dentry_bytes ds) 64 size i) ∷ map dentry_of (pieces (length ds) 64 (drop_at (dentry_bytes d) (flat_map dentry_bytes ds) 64 size i)))
    ∙ (λ i. dentry-read d all.0.inode all.0.spelled i ∷ dentries_read ds all.1 i)

pub block_read : (image : Image) (block : ℕ) (ds : List DentryForm) → ((s : ℕ) → IsOfBlock block s → length (image s) ≡ 512) → length ds ≡ 64 → AllByRecursion FitsDentryForm ds → block_at image block ≡ flat_map dentry_bytes ds
    → read_block image block ≡ map Some ds
block_read image block ds sized count all e =
    rows image (8 * block) 8 (λ s from under. sized s (record { slot = s - 8 * block; in_block = omega (arith, from, under); same = omega (arith, from) }))
    ∙ ap (λ bytes. map dentry_of (pieces 64 64 bytes)) e ∙ ap (λ k. map dentry_of (pieces k 64 (flat_map dentry_bytes ds))) (sym count) ∙ dentries_read ds all

-- An image that was written for a catalog has it.
pub written_catalog : (g : Geometry) (image : Image) (c : Catalog) → IsWritten g image c → IsCatalogOf g image c
written_catalog g image c is = record {
  forms = λ inode in_range. ap inode_of (is.inodes inode in_range) ∙ inode-read (c.forms inode) (is.fit inode in_range);
  slots = λ block dir. let at = is.dirs block dir in block_read image block (c.slots block) at.sized at.counted at.fit at.bytes;
}
