-- The files of a sound image are sound, each with a number of its own.
use Rattle.std.proofs.Common.{◌≡◌, ℕ, ◌≤◌, List, Bool, true, false, Option, Some, None, get_or, ap, sym, ◌∙◌, refl, subst, arith}
use Rattle.std.specs.Prelude.{◌&&◌, ◌==◌, not}
use Rattle.std.specs.Option.{option_map}
use Rattle.std.specs.FinSet as set
use Rattle.std.proofs.lemmas.Bool.Decides.{nat_tests}
use Rattle.ufs_base.specs.Images.{Image}
use Rattle.ufs_damage.specs.Findings.{CatalogRead}
use Rattle.ufs_dir_laws.specs.Meets.{found_in}
use Rattle.ufs_dir_laws.specs.Tables.{IsTableOf}
use Rattle.ufs_dir_laws.proofs.Tables as tables
use Rattle.ufs_dir_laws.proofs.Walked.{meets}
use Rattle.ufs_dir_tree.specs.DirTable.{DirTable, found_at}
use Rattle.ufs_image.specs.Catalog.{Catalog, IsInode, IsCatalogOf, catalog_at}
use Rattle.ufs_image.specs.Sound.{IsSoundCatalog}
use Rattle.ufs_image.specs.Walks.{path_text}
use Rattle.ufs_image.proofs.Depth.{has_root, root_in_range}
use Rattle.ufs_image.proofs.Found.{reached}
use Rattle.ufs_layout.specs.Areas.{IsGeometry, is_inode_number}
use Rattle.ufs_layout.specs.InodeForm.{is_used}
use Rattle.ufs_layout.specs.declared.geometry.Geometry.{Geometry}
use Rattle.ufs_ledger.specs.Kept.{paths_of}
use Rattle.ufs_model.proofs.ContentLemmas.{start_is_numbered}
use Rattle.ufs_promise_laws.specs.Numbered.{IsFileAt}
use Rattle.ufs_promise_laws.specs.Starts.{image_start}
use Rattle.ufs_promise_laws.proofs.TreeNamed.{named_once}
use Rattle.ufs_walk.proofs.Reached.{IsMetAtPlace}
use Rattle.ufs_start.specs.Files.{AreSoundFiles, IsSoundFile}
use Rattle.ufs_start.specs.Starts.{AreNumbersOf, IsUndamaged, tree_in}
use Rattle.ufs_start.proofs.Joined.{form_there}
use Rattle.ufs_start.proofs.Places.{one_inode}
use Rattle.ufs_start.proofs.SoundRead.{few_blocks, has_runs, kind_most}
use Rattle.ufs_start.proofs.Unnumbered.{numbered_file}

used_by : (used : Bool) → (not used && true) ≡ false → used ≡ true
used_by true e = refl
used_by false e = cc

module _ (g : Geometry) (image : Image) (f : CatalogRead) (geometry : IsGeometry g) (u : IsUndamaged g image f) (is : IsCatalogOf g image (catalog_at g image)) (sound : IsSoundCatalog g (catalog_at g image))
    (t : DirTable) (of : IsTableOf g (catalog_at g image) t) (numbers : List (Option ℕ)) (are : AreNumbersOf g image numbers) where
  abbrev c : Catalog
  c = catalog_at g image

  some : 1 ≤ g.inodes
  some = has_root g geometry

  root : IsInode g 1
  root = root_in_range g c sound some

  at : (i file : ℕ) → get_or numbers i None ≡ Some file → IsFileAt c (image_start (tree_in g image)).paths i file
  at i file number = are.only i file number

  inside : (i file : ℕ) → get_or numbers i None ≡ Some file → IsInode g i
  inside i file number = (reached g c sound 1 (at i file number).names i root (at i file number).met).0

  placed : (i file : ℕ) (number : get_or numbers i None ≡ Some file) → IsMetAtPlace c (path_text (at i file number).names, i)
  placed i file number =
      let here = at i file number in
      record { names = here.names; text = refl; pieces = (reached g c sound 1 here.names i root here.met).1; met = here.met }

  used : (i file : ℕ) → get_or numbers i None ≡ Some file → is_used (c.forms i) ≡ true
  used i file number =
      let here = at i file number in
      let there : found_at t here.names ≡ Some (found_in c i) = meets g c t sound of.slots root here.names ∙ ap (option_map (found_in c)) here.met in
      let met = tables.met g image c t some is sound of here.names (found_in c i) there in
      let free : set.contains t.free i ≡ false = subst (λ (k : ℕ). set.contains t.free k ≡ false) (tables.found_number g image c t some is sound of i) met.used in
      let in_range = inside i file number in
      let from = in_range.from_one in
      let most = in_range.within in
      let number_is : is_inode_number g i ≡ true = grind (arith, nat_tests, from, most) in
      used_by (is_used (c.forms i)) (ap (λ (b : Bool). not (is_used (c.forms i)) && b) (sym number_is) ∙ sym (of.free i) ∙ free)

  sound_file : (i file : ℕ) → get_or numbers i None ≡ Some file → IsSoundFile (c.forms i)
  sound_file i file number =
      let in_range = inside i file number in
      let most = kind_most g image geometry is sound i in_range in
      let some_kind : not ((c.forms i).kind == 0) ≡ true = used i file number in
      let no_dir : ((c.forms i).kind == 2) ≡ false = numbered_file g image f geometry u is sound numbers are i file number in
      let room = sound.room i in_range in
      let few = few_blocks g image geometry is sound i in_range in
      record {
        kind = grind (arith, nat_tests, most, some_kind, no_dir);
        runs = has_runs g image geometry is sound i in_range;
        room = room;
        small = omega (arith, room, few);
      }

  pub sound_files : AreSoundFiles f.forms numbers
  sound_files = record {
    each = λ i file from number. (c.forms i, form_there g image f geometry u is sound i (inside i file number), sound_file i file number);
    once = λ i j file first second.
        let text = named_once (image_start (tree_in g image)) (start_is_numbered (paths_of (tree_in g image))) (path_text (at i file first).names) (path_text (at j file second).names) file (at i file first).stands (at j file second).stands in
        one_inode g c sound some (path_text (at i file first).names, i) (path_text (at j file second).names, j) (placed i file first) (placed j file second) text;
  }
