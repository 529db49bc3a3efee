-- A catalog's image has the bytes that are written for it.
use Rattle.std.proofs.Common.{◌≡◌, ℕ, zero, suc, ◌+◌, ◌*◌, ◌-◌, ◌<◌, ◌≤◌, List, [], ◌∷◌, ◌++◌, length, take, drop, Some, Bool, map, ap, sym, refl, ◌∙◌, arith, length-append, length-drop}
use Rattle.std.specs.Prelude.{flat_map}
use Rattle.std.specs.List.{range_with_len}
use Rattle.std.proofs.lemmas.List.{take-append-drop}
use Rattle.ufs_layout.specs.Words.{pieces, spelled}
use Rattle.ufs_layout.specs.Areas.{sector_of_inode}
use Rattle.ufs_layout.specs.InodeForm.{inode_fields, inode_bytes, is_inode}
use Rattle.ufs_layout.specs.DentryForm.{DentryForm, dentry_bytes, dentry_fields, dentry_of, is_dentry}
use Rattle.ufs_base.specs.Images.{Image}
use Rattle.ufs_image.specs.Images.{block_at}
use Rattle.ufs_layout.specs.declared.geometry.Geometry.{Geometry}
use Rattle.ufs_image.specs.Catalog.{Catalog, IsInode, IsCatalogOf}
use Rattle.ufs_image.specs.Nodes.{read_block}
use Rattle.ufs_image.specs.Agree.{IsOfBlock}
use Rattle.ufs_layout.proofs.Spelled.{spelled-some}
use Rattle.ufs_image.proofs.Written.{rows}

-- what is read has these bytes
bytes_of : {X : Type 0} (fields : List ℕ → X) (spelling : X → List ℕ) (is_form : X → Bool) (bytes : List ℕ) (v : X) → spelled fields spelling is_form bytes ≡ Some v → bytes ≡ spelling v
bytes_of fields spelling is_form bytes v e = (spelled-some fields spelling is_form bytes v e).0

pub glued : (n : ℕ) (xs : List ℕ) → length xs ≡ 64 * n → flat_map (λ p. p) (pieces n 64 xs) ≡ xs
glued zero [] sized = refl
glued zero (x ∷ xs) sized = absurd (omega (arith, sized))
glued (suc n) xs sized = ap (λ zs. take 64 xs ++ zs) (glued n (drop 64 xs) (let left = length-drop 64 xs in omega (arith, left, sized))) ∙ take-append-drop 64 xs

all_spelled : (ps : List (List ℕ)) (ds : List DentryForm) → map dentry_of ps ≡ map Some ds → flat_map (λ p. p) ps ≡ flat_map dentry_bytes ds
all_spelled [] [] e = refl
all_spelled [] (d ∷ ds) e = let no = e in cc
all_spelled (p ∷ ps) [] e = let no = e in cc
all_spelled (p ∷ ps) (d ∷ ds) e =
    let first : dentry_of p ≡ Some d = let is = e in cc in
    let rest : map dentry_of ps ≡ map Some ds = let is = e in cc in
    let here = bytes_of dentry_fields dentry_bytes is_dentry p d first in
    let more = all_spelled ps ds rest in
    λ i. here i ++ more i

sectors_length : (image : Image) (a n : ℕ) → ((s : ℕ) → a ≤ s → s < a + n → length (image s) ≡ 512) → length (flat_map image (range_with_len a n)) ≡ 512 * n
sectors_length image a zero sized = omega arith
sectors_length image a (suc n) sized =
    let first = sized a (omega arith) (omega arith) in
    let rest = sectors_length image (a + 1) n (λ s from under. sized s (omega (arith, from)) (omega (arith, under))) in
    let whole = length-append (image a) (flat_map image (range_with_len (a + 1) n)) in
    omega (arith, first, rest, whole)

pub block_bytes : (image : Image) (block : ℕ) (ds : List DentryForm) → ((s : ℕ) → IsOfBlock block s → length (image s) ≡ 512) → read_block image block ≡ map Some ds → block_at image block ≡ flat_map dentry_bytes ds
block_bytes image block ds sized e =
    let at : (s : ℕ) → 8 * block ≤ s → s < 8 * block + 8 → length (image s) ≡ 512 = λ s from under. sized s (record { slot = s - 8 * block; in_block = omega (arith, from, under); same = omega (arith, from) }) in
    let size = sectors_length image (8 * block) 8 at in
    sym (glued 64 (block_at image block) (omega (arith, size))) ∙ all_spelled (pieces 64 64 (block_at image block)) ds (sym (rows image (8 * block) 8 at) ∙ e)

pub inode_bytes_are : (g : Geometry) (image : Image) (c : Catalog) → IsCatalogOf g image c → (inode : ℕ) → IsInode g inode → image (sector_of_inode g inode) ≡ inode_bytes (c.forms inode)
inode_bytes_are g image c is inode in_range = bytes_of inode_fields inode_bytes is_inode (image (sector_of_inode g inode)) (c.forms inode) (is.forms inode in_range)
