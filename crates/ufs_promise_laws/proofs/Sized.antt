-- The blocks that an image spells have 64 slots each.
use Rattle.std.proofs.Common.{◌≡◌, ℕ, zero, suc, ◌+◌, ◌*◌, List, length, Option, Some, Bool, ap, sym, refl, ◌∙◌, arith, length-append}
use Rattle.std.specs.Prelude.{flat_map, IsTrue}
use Rattle.std.specs.List.{range_with_len}
use Rattle.std.proofs.lemmas.List.{length-map}
use Rattle.ufs_base.specs.Images.{Image}
use Rattle.ufs_layout.specs.DentryForm.{DentryForm}
use Rattle.ufs_layout.specs.declared.geometry.Geometry.{Geometry}
use Rattle.ufs_image.specs.Nodes.{read_sector}
use Rattle.ufs_image.specs.Catalog.{Catalog, HasDirBlocks, HasSlots}
use Rattle.ufs_image.specs.Folding.{Spells}

rows : (image : Image) (first n : ℕ) → length (flat_map (λ s. read_sector (image s)) (range_with_len first n)) ≡ 8 * n
rows image first zero = refl
rows image first (suc n) =
    let here : length (read_sector (image first)) ≡ 8 = refl in
    let rest = rows image (first + 1) n in
    let whole = length-append (read_sector (image first)) (flat_map (λ s. read_sector (image s)) (range_with_len (first + 1) n)) in
    omega (arith, here, rest, whole)

pub spelled_slots : (g : Geometry) (whole : Bool) (these : ℕ → Bool) (image : Image) (c : Catalog) → Spells g whole these image c → HasDirBlocks g c these → (dir : ℕ) → (c.forms dir).kind ≡ 2 → HasSlots g c dir
spelled_slots g whole these image c spells covers dir is block place has =
    let there : IsTrue (these block) = covers block (record { inode = dir; place = place; has = has; dir = is }) in
    sym (length-map (c.slots block) Some) ∙ ap (λ (xs : List (Option DentryForm)). length xs) (sym (spells.slots block there)) ∙ rows image (8 * block) 8
