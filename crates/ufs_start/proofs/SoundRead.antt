-- What was read of a sound image is sound.
use Rattle.std.proofs.Common.{◌≡◌, ℕ, zero, suc, ◌<◌, ◌≤◌, List, [], ◌∷◌, Bool, true, length, Some, get_or, map as mapped, refl, ap, sym, ◌∙◌, subst, arith}
use Rattle.std.specs.Prelude.{flat_map, ◌==◌, nat_eq, nat_le, if◌then◌else◌}
use Rattle.std.specs.List.{slice_get, list_all, AllByRecursion, IsDistinct}
use Rattle.std.proofs.lemmas.Bool.{and_parts, eqb-true, ne_eqb}
use Rattle.std.proofs.lemmas.Bool.Decides.{nat_tests}
use Rattle.std.proofs.lemmas.List.Elements.{All-from_get_or}
use Rattle.std.proofs.lemmas.Map.Keys.{IsDistinct-from_apart}
use Rattle.std.proofs.lemmas.Option.{slice_get-get_or}
use Rattle.ufs_base.specs.Images.{Image}
use Rattle.ufs_damage.specs.Findings.{CatalogRead}
use Rattle.ufs_dir_laws.specs.Tables.{IsTableOf}
use Rattle.ufs_dir_laws.proofs.WholeDirs.{whole_dirs}
use Rattle.ufs_dir_tree.specs.DirTable.{DirTable, dir_at}
use Rattle.ufs_dirs.specs.Directory.{Directory, IsDirectory}
use Rattle.ufs_dirs.proofs.BlockLemmas.{length-distinct}
use Rattle.ufs_image.specs.Catalog.{Catalog, IsInode, IsCatalogOf, catalog_at}
use Rattle.ufs_image.specs.Nodes.{Dir, blocks_of, slots_of}
use Rattle.ufs_image.specs.Sound.{IsInData, IsSoundCatalog}
use Rattle.ufs_image.proofs.Depth.{has_root}
use Rattle.ufs_image.proofs.Holders.{block_in_data, on_form}
use Rattle.ufs_image.proofs.Listed.{in_at_place, slots_are}
use Rattle.ufs_layout.specs.Areas.{IsGeometry, sector_of_inode}
use Rattle.ufs_layout.specs.InodeForm.{inode_bytes, inode_fields, is_extent, is_inode}
use Rattle.ufs_layout.specs.declared.geometry.Geometry.{Geometry}
use Rattle.ufs_layout.specs.declared.inode.Extent.{Extent}
use Rattle.ufs_extent.specs.Runs.{IsRun}
use Rattle.ufs_walk.proofs.Told.{IsDirOf, from_dirs}
use Rattle.ufs_image.proofs.Lists.{IsIn}
use Rattle.ufs_start.specs.Extents.{HasRuns, run_of}
use Rattle.ufs_start.specs.Starts.{IsUndamaged}
use Rattle.ufs_start.specs.Tables.{AreSoundDirs, IsSoundDir, form_in}
use Rattle.ufs_start.proofs.Joined.{form_there}
use Rattle.ufs_start.proofs.Rising.{dirs_rise}
use Rattle.ufs_start.proofs.Unnumbered.{forms_counted}

-- ---- extents

module _ (g : Geometry) (most : g.blocks ≤ 65536) where
  one_run : (e : Extent) → is_extent e ≡ true → IsInData g e → IsRun (run_of e)
  one_run e some lies = let end = lies.end in (grind (arith, nat_tests, some), omega (arith, end, most))

  run_at : (es : List Extent) → list_all is_extent es ≡ true → AllByRecursion (IsInData g) es → (place : ℕ) (e : Extent) → slice_get es place ≡ Some e → IsRun (run_of e)
  run_at [] some lie place e there = let no = there in cc
  run_at (x ∷ es) some lie zero e there =
      let same : x ≡ e = cc in
      subst (λ y. IsRun (run_of y)) same (one_run x (and_parts (is_extent x) (list_all is_extent es) some).0 lie.0)
  run_at (x ∷ es) some lie (suc place) e there = run_at es (and_parts (is_extent x) (list_all is_extent es) some).1 lie.1 place e there

module _ (g : Geometry) (image : Image) (geometry : IsGeometry g) (is : IsCatalogOf g image (catalog_at g image)) (sound : IsSoundCatalog g (catalog_at g image)) where
  abbrev c : Catalog
  c = catalog_at g image

  module _ (i : ℕ) (inside : IsInode g i) where
    inode_is : is_inode (c.forms i) ≡ true
    inode_is = on_form inode_fields inode_bytes is_inode (image (sector_of_inode g i)) (c.forms i) (is.forms i inside)

    pub kind_most : (c.forms i).kind ≤ 2
    kind_most = let kind = (and_parts (nat_le (c.forms i).kind 2) _ inode_is).0 in grind (arith, nat_tests, kind)

    pub has_runs : HasRuns (c.forms i)
    has_runs =
        let rest = (and_parts (nat_le (c.forms i).kind 2) _ inode_is).1 in
        let few = (and_parts (nat_le (length (c.forms i).extents) 56) _ rest).0 in
        let some = (and_parts (list_all is_extent (c.forms i).extents) _ (and_parts (nat_le (length (c.forms i).extents) 56) _ rest).1).0 in
        record { few = grind (arith, nat_tests, few); each = run_at g geometry.most_blocks (c.forms i).extents some (sound.in_data i inside) }

    -- ---- blocks

    abbrev has : List ℕ
    has = blocks_of (c.forms i)

    at_place : (place : ℕ) → place < length has → slice_get has place ≡ Some (get_or has place 0)
    at_place place within = slice_get-get_or has place 0 within

    below : (place : ℕ) → place < length has → get_or has place 0 < 65536
    below place within =
        let last = (block_in_data g (c.forms i).extents (get_or has place 0) (sound.in_data i inside) (in_at_place (get_or has place 0) has place (at_place place within))).1 in
        let most = geometry.most_blocks in
        omega (arith, last, most)

    distinct : IsDistinct nat_eq has
    distinct = IsDistinct-from_apart nat_eq has (λ j k d less within.
        let first = slice_get-get_or has j d (omega (arith, less, within)) in
        let second = slice_get-get_or has k d within in
        ne_eqb (get_or has j d) (get_or has k d) (λ same.
        let place = (sound.blocks_once i i j k (get_or has k d) (record { in_range = inside; there = first ∙ ap (λ (b : ℕ). Some b) same }) (record { in_range = inside; there = second })).1 in
        omega (arith, less, place)))

    pub few_blocks : length has ≤ 65536
    few_blocks = length-distinct 65536 has distinct (All-from_get_or (λ b. b < 65536) has 0 below)

-- ---- directories

module _ (g : Geometry) (image : Image) (f : CatalogRead) (geometry : IsGeometry g) (u : IsUndamaged g image f) (is : IsCatalogOf g image (catalog_at g image)) (sound : IsSoundCatalog g (catalog_at g image))
    (t : DirTable) (of : IsTableOf g (catalog_at g image) t) where
  abbrev cat : Catalog
  cat = catalog_at g image

  module _ (i : ℕ) (inside : IsInode g i) (dir : ((cat.forms i).kind == 2) ≡ true) where
    abbrev at : Directory
    at = record { blocks = blocks_of (cat.forms i); slots = flat_map cat.slots (blocks_of (cat.forms i)) }

    dir_is : dir_at t i ≡ at
    dir_is = λ k. record {
      blocks = (of.blocks i inside ∙ ap (λ (b : Bool). if b then blocks_of (cat.forms i) else []) dir) k;
      slots = (of.slots i inside ∙ ap (λ (b : Bool). if b then flat_map cat.slots (blocks_of (cat.forms i)) else []) dir) k;
    }

    whole : IsDirectory at
    whole = subst (λ (d : Directory). IsDirectory d) dir_is (whole_dirs g image cat t (has_root g geometry) geometry.most_blocks is sound of i)

    sound_dir : IsSoundDir (form_in f.forms i) (slots_of image (cat.forms i))
    sound_dir = record {
      node = cat.forms i;
      there = form_there g image f geometry u is sound i inside;
      runs = has_runs g image geometry is sound i inside;
      slots = mapped Some (flat_map cat.slots (blocks_of (cat.forms i)));
      placed = slots_are g image cat is i inside (eqb-true (cat.forms i).kind 2 dir);
      whole = record { slots = flat_map cat.slots (blocks_of (cat.forms i)); all = refl; whole = whole };
    }

  pub sound_dirs : AreSoundDirs f.forms f.dirs
  sound_dirs = record {
    each = λ p d there. let from = read p d there in
        subst (λ (x : Dir). IsSoundDir (form_in f.forms x.inode) x.slots) (sym from.same) (sound_dir from.inode from.in_range from.dir);
    from_one = λ p d there. let from = read p d there in
        subst (λ (x : Dir). 1 ≤ x.inode) (sym from.same) from.in_range.from_one;
    within = λ p d there. let from = read p d there in
        let most = from.in_range.within in
        let long = forms_counted g image f u.found in
        subst (λ (x : Dir). x.inode ≤ length f.forms) (sym from.same) (omega (arith, most, long));
    rising = dirs_rise g image f.dirs u.found.dirs;
  }
    where
      read : (p : ℕ) (d : Dir) → slice_get f.dirs p ≡ Some d → IsDirOf g image d
      read p d there = from_dirs g image d (subst (IsIn d) u.found.dirs (in_at_place d f.dirs p there))
