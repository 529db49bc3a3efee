-- The directories of a sound catalog's table are whole.
use Rattle.std.proofs.Common.{◌≡◌, ◌≢◌, ℕ, zero, suc, ◌+◌, ◌*◌, ◌≤◌, ◌<◌, ◌⊎◌, inl, inr, List, [], ◌∷◌, Bool, true, false, length, Option, Some, get_or, ap, sym, refl, ◌∙◌, subst, arith, length-append}
use Rattle.std.specs.Prelude.{◌==◌, flat_map, if◌then◌else◌, All, IsTrue, nat_eq}
use Rattle.std.specs.List.{range_with_len, slice_get, IsDistinct}
use Rattle.std.proofs.lemmas.Bool.{ne_eqb}
use Rattle.std.proofs.lemmas.Bool.Decides.{nat_tests}
use Rattle.std.proofs.lemmas.List.{length-map}
use Rattle.std.proofs.lemmas.List.Elements.{All-from_get_or}
use Rattle.std.proofs.lemmas.Map.Keys.{IsDistinct-from_apart}
use Rattle.std.proofs.lemmas.Option.{slice_get-get_or}
use Rattle.ufs_base.specs.Images.{Image}
use Rattle.ufs_layout.specs.DentryForm.{DentryForm, free_slot, is_dentry, is_named}
use Rattle.ufs_layout.specs.declared.geometry.Geometry.{Geometry}
use Rattle.ufs_dirs.specs.Directory.{Directory, IsDirectory, NamesOnce}
use Rattle.ufs_image.specs.Nodes.{blocks_of, read_sector}
use Rattle.ufs_image.specs.Catalog.{Catalog, IsInode, IsCatalogOf, slots_in}
use Rattle.ufs_image.specs.Sound.{IsSoundCatalog, HasDentry}
use Rattle.ufs_image.proofs.Holders.{block_in_data}
use Rattle.ufs_image.proofs.Listed.{in_at_place}
use Rattle.ufs_dir_tree.specs.DirTable.{DirTable, no_dir, dir_at}
use Rattle.ufs_dir_tree.proofs.WalkedTables.{whole_none}
use Rattle.ufs_dir_laws.specs.Tables.{IsTableOf, dir_blocks}
use Rattle.ufs_dir_laws.proofs.Tables.{inside_or_none, slot_form}

rows : (image : Image) (first n : ℕ) → length (flat_map (λ s. read_sector (image s)) (range_with_len first n)) ≡ 8 * n
rows image first zero = refl
rows image first (suc n) =
    let here : length (read_sector (image first)) ≡ 8 = refl in
    let rest = rows image (first + 1) n in
    let whole = length-append (read_sector (image first)) (flat_map (λ s. read_sector (image s)) (range_with_len (first + 1) n)) in
    omega (arith, here, rest, whole)

-- so many slots for each block
slots_for : (slots : ℕ → List DentryForm) (blocks : List ℕ) → ((place b : ℕ) → slice_get blocks place ≡ Some b → length (slots b) ≡ 64) → length (flat_map slots blocks) ≡ 64 * length blocks
slots_for slots [] each = refl
slots_for slots (b ∷ blocks) each =
    let here = each 0 b refl in
    let rest = slots_for slots blocks (λ place c at. each (suc place) c at) in
    let whole = length-append (slots b) (flat_map slots blocks) in
    omega (arith, here, rest, whole)

module _ (g : Geometry) (image : Image) (c : Catalog) (most : g.blocks ≤ 65536) (is : IsCatalogOf g image c) (sound : IsSoundCatalog g c) (i : ℕ) (inside : IsInode g i) where
  abbrev has : List ℕ
  has = blocks_of (c.forms i)

  at_place : (place : ℕ) → place < length has → slice_get has place ≡ Some (get_or has place 0)
  at_place place within = slice_get-get_or has place 0 within

  below : (place : ℕ) → place < length has → get_or has place 0 < 65536
  below place within =
      let ends = block_in_data g (c.forms i).extents (get_or has place 0) (sound.in_data i inside) (in_at_place (get_or has place 0) has place (at_place place within)) in
      let last = ends.1 in
      omega (arith, last, most)

  distinct : IsDistinct nat_eq has
  distinct = IsDistinct-from_apart nat_eq has (λ j k d less within.
      let first = slice_get-get_or has j d (omega (arith, less, within)) in
      let second = slice_get-get_or has k d within in
      ne_eqb (get_or has j d) (get_or has k d) (λ same.
      let place = (sound.blocks_once i i j k (get_or has k d) (record { in_range = inside; there = first ∙ ap (λ (b : ℕ). Some b) same }) (record { in_range = inside; there = second })).1 in
      omega (arith, less, place)))

  module _ (kind : ((c.forms i).kind == 2) ≡ true) where
    dir : (c.forms i).kind ≡ 2
    dir = grind (arith, nat_tests, kind)

    block_slots : (place b : ℕ) → slice_get has place ≡ Some b → length (c.slots b) ≡ 64
    block_slots place b at =
        let read = is.slots b (record { inode = i; place = place; has = record { in_range = inside; there = at }; dir = dir }) in
        sym (length-map (c.slots b) Some) ∙ ap (λ (xs : List (Option DentryForm)). length xs) (sym read) ∙ rows image (8 * b) 8

  sized_by : (v : Bool) → ((c.forms i).kind == 2) ≡ v → length (if v then flat_map c.slots has else []) ≡ 64 * length (if v then has else [])
  sized_by true kind = slots_for c.slots has (block_slots kind)
  sized_by false kind = refl

  distinct_by : (v : Bool) → IsDistinct nat_eq (if v then has else [])
  distinct_by true = distinct
  distinct_by false = let none = whole_none in none.blocks_once

  below_by : (v : Bool) → All (λ b. b < 65536) (if v then has else [])
  below_by true = All-from_get_or (λ b. b < 65536) has 0 below
  below_by false = let none = whole_none in none.blocks_below

  slot_at : (place : ℕ) → place < length (slots_in c i) → slice_get (slots_in c i) place ≡ Some (get_or (slots_in c i) place free_slot)
  slot_at place within = slice_get-get_or (slots_in c i) place free_slot within

  names_once : NamesOnce (slots_in c i)
  names_once p q less within named same =
      let d = get_or (slots_in c i) p free_slot in
      let e = get_or (slots_in c i) q free_slot in
      let first : is_named d ≡ true = ap (λ (name : List ℕ). is_named (record d { name = name })) same ∙ named in
      let place = sound.names_once i p q d e (record { in_range = inside; there = slot_at p (omega (arith, less, within)); named = first }) (record { in_range = inside; there = slot_at q within; named = named }) same in
      omega (arith, less, place)

  catalog_dir : IsDirectory (record { blocks = dir_blocks c i; slots = slots_in c i })
  catalog_dir = record {
    sized = sized_by ((c.forms i).kind == 2) refl;
    blocks_once = distinct_by ((c.forms i).kind == 2);
    blocks_below = below_by ((c.forms i).kind == 2);
    forms = All-from_get_or (λ (e : DentryForm). IsTrue (is_dentry e)) (slots_in c i) free_slot (λ place within. slot_form g image c is sound i place (get_or (slots_in c i) place free_slot) inside (slot_at place within));
    names_once = names_once;
  }

module _ (g : Geometry) (image : Image) (c : Catalog) (t : DirTable) (some : 1 ≤ g.inodes) (most : g.blocks ≤ 65536) (is : IsCatalogOf g image c) (sound : IsSoundCatalog g c) (of : IsTableOf g c t) where
  pub whole_dirs : (i : ℕ) → IsDirectory (dir_at t i)
  whole_dirs i = by (inside_or_none g image c t some is sound of i)
    where
      by : IsInode g i ⊎ (dir_at t i ≡ no_dir) → IsDirectory (dir_at t i)
      by (inl inside) =
          let same : dir_at t i ≡ record { blocks = dir_blocks c i; slots = slots_in c i } = λ k. record { blocks = of.blocks i inside k; slots = of.slots i inside k } in
          subst (λ (d : Directory). IsDirectory d) (sym same) (catalog_dir g image c most is sound i inside)
      by (inr none) = subst (λ (d : Directory). IsDirectory d) (sym none) whole_none
