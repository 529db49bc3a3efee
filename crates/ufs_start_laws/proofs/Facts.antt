-- What a server begins with, and what each inode of its image is.
use Rattle.std.proofs.Common.{◌≡◌, ◌≢◌, ℕ, zero, suc, ◌≤◌, List, [], Bool, true, false, Option, Some, None, ap, sym, refl, ◌∙◌, arith}
use Rattle.std.specs.Prelude.{◌==◌, ◌&&◌, not, nat_le, flat_map, IsSome, if◌then◌else◌}
use Rattle.std.specs.List.{range_with_len, slice_get}
use Rattle.std.specs.Option.{option_map}
use Rattle.std.specs.FinMap.{from_entries}
use Rattle.std.proofs.lemmas.Bool.{and_parts}
use Rattle.std.proofs.lemmas.Bool.Decides.{nat_tests}
use Rattle.ufs_base.specs.Images.{Image}
use Rattle.ufs_bitmap.specs.Blocks.{BlockSet}
use Rattle.ufs_dir_laws.specs.Meets.{found_in}
use Rattle.ufs_dir_laws.proofs.Tables.{found_number, met_inode}
use Rattle.ufs_dir_laws.proofs.Walked.{meets}
use Rattle.ufs_dir_tree.specs.declared.found.Found.TheVariants.{Dir, File}
use Rattle.ufs_dir_tree.specs.DirTable.{inode_of}
use Rattle.ufs_files.specs.Files.{Files}
use Rattle.ufs_image.specs.Catalog.{Catalog, HasBlock, IsCatalogOf, IsInode, catalog_at}
use Rattle.ufs_image.specs.Nodes.{blocks_of}
use Rattle.ufs_image.specs.Opens.{walked}
use Rattle.ufs_image.specs.Volume.{Volume}
use Rattle.ufs_image.proofs.Depth.{has_root, root_in_range}
use Rattle.ufs_image.proofs.Found.{reached}
use Rattle.ufs_image.proofs.Holders.{on_form, unused_form}
use Rattle.ufs_image.proofs.Opening.{has_geometry}
use Rattle.ufs_layout.specs.Areas.{IsGeometry, is_inode_number, sector_count, sector_of_inode}
use Rattle.ufs_layout.specs.InodeForm.{inode_bytes, inode_fields, is_inode, is_used}
use Rattle.ufs_layout.specs.Superblock.{geometry_of}
use Rattle.ufs_layout.specs.declared.inode.Extent.{Extent}
use Rattle.ufs_layout.specs.declared.geometry.Geometry.{Geometry}
use Rattle.ufs_layout.specs.declared.superblock.Super.{Super}
use Rattle.ufs_ledger.specs.Kept.{path_node_of, paths_of}
use Rattle.ufs_model.specs.PosixTree.{PosixTree}
use Rattle.ufs_model.proofs.ContentLemmas.{start_has_contents}
use Rattle.ufs_model.proofs.Facts.Orders.{path_total}
use Rattle.ufs_name_tree.specs.NameTable.{IsNameTable, file_at}
use Rattle.ufs_name_tree.specs.Notes.{AreKindsOf}
use Rattle.ufs_names.specs.NamesPart.{NamesPart}
use Rattle.ufs_promise_laws.specs.Numbered.{HasImage}
use Rattle.ufs_promise_laws.proofs.TreeNamed.{is_name_table}
use Rattle.ufs_crash_laws.proofs.Facts.Mapped.{get-mapped}
use Rattle.ufs_start_laws.specs.Parts.{AreOrphaned, IsOpened, start_in}

-- what is opened, by its parts
pub record Begins (sectors : ℕ) (disk : Image) (superblock : Super) (n : NamesPart) (files : Files) (free orphaned : BlockSet) (image : Image) (g : Geometry) : Type 0 where
  pub opened : IsOpened sectors disk (record { superblock = superblock; geometry = g; image = image }) n files free
  pub orphans : AreOrphaned (record { superblock = superblock; geometry = g; image = image }) n orphaned

pub some_is : {X : Type 0} (o : Option X) → IsSome o → (x : X) × (o ≡ Some x)
some_is None is = absurd cc
some_is (Some x) is = (x, refl)

-- a kind is 0, 1 or 2
one_left : (kind : ℕ) → kind ≤ 2 → kind ≢ 0 → (kind == 2) ≡ false → kind ≡ 1
one_left kind few used off = by kind few used (λ e. (let clash : true ≡ false = sym (ap (λ k. k == 2) e) ∙ off in cc))
  where
    by : (kind : ℕ) → kind ≤ 2 → kind ≢ 0 → kind ≢ 2 → kind ≡ 1
    by zero few used two = absurd (used refl)
    by (suc zero) few used two = refl
    by (suc (suc zero)) few used two = absurd (two refl)
    by (suc (suc (suc k))) few used two = absurd (omega (arith, few))

few_kinds : (g : Geometry) (image : Image) (c : Catalog) → IsCatalogOf g image c → (i : ℕ) → IsInode g i → (c.forms i).kind ≤ 2
few_kinds g image c is i inside =
    let form = on_form inode_fields inode_bytes is_inode (image (sector_of_inode g i)) (c.forms i) (is.forms i inside) in
    let low = (and_parts (nat_le (c.forms i).kind 2) _ form).0 in
    grind (arith, nat_tests, low)

-- what has a block and is no directory is a file
pub file_by : (g : Geometry) (image : Image) (c : Catalog) → IsCatalogOf g image c → (i place block : ℕ) → HasBlock g c i place block → ((c.forms i).kind == 2) ≡ false → (c.forms i).kind ≡ 1
file_by g image c is i place block at off = one_left (c.forms i).kind (few_kinds g image c is i at.in_range) used off
  where
    used : (c.forms i).kind ≢ 0
    used none =
        let bare : blocks_of (c.forms i) ≡ [] = ap (flat_map (λ (e : Extent). range_with_len e.start e.length)) (unused_form g image c is i at.in_range (ap (λ k. not (k == 0)) none)).0 in
        let clash = sym (ap (λ (xs : List ℕ). slice_get xs place) bare) ∙ at.there in
        cc

module _ (sectors : ℕ) (disk : Image) (superblock : Super) (n : NamesPart) (files : Files) (free orphaned : BlockSet) (image : Image) (b : Begins sectors disk superblock n files free orphaned image (geometry_of superblock)) where
  abbrev pub g : Geometry
  g = geometry_of superblock

  abbrev pub v : Volume
  v = record { superblock = superblock; geometry = g; image = image }

  abbrev pub c : Catalog
  c = catalog_at g image

  abbrev pub t : PosixTree
  t = start_in v

  pub formed : IsGeometry g × (sector_count g ≤ sectors)
  formed = has_geometry sectors disk v b.opened.standing.taken

  pub some : 1 ≤ g.inodes
  some = has_root g formed.0

  pub root_inside : IsInode g 1
  root_inside = root_in_range g c b.opened.standing.sound some

  pub contents : HasImage t (from_entries (walked v))
  contents path = start_has_contents (paths_of (from_entries (walked v))) path ∙ get-mapped path_total path_node_of (from_entries (walked v)) path

  pub named : IsNameTable n.tree
  named = is_name_table sectors disk v c n.tree t b.opened.standing b.opened.names.tree contents b.opened.names.once b.opened.table.dirs b.opened.table.numbers b.opened.reached

  -- ---- inodes

  pub inside : (i f : ℕ) → file_at n.tree i ≡ Some f → IsInode g i
  inside i f e = let at = b.opened.table.numbers.only i f e in (reached g c b.opened.standing.sound 1 at.names i root_inside at.met).0

  pub inode_number : (i : ℕ) → IsInode g i → is_inode_number g i ≡ true
  inode_number i is = let from = is.from_one in let most = is.within in grind (arith, nat_tests, from, most)

  pub is_no_dir : (i f : ℕ) → file_at n.tree i ≡ Some f → ((c.forms i).kind == 2) ≡ false
  is_no_dir i f e = by ((c.forms i).kind == 2) refl
    where
      by : (x : Bool) → ((c.forms i).kind == 2) ≡ x → x ≡ false
      by true dir =
          let at = b.opened.table.numbers.only i f e in
          absurd (named.no_dir i f at.names e (meets g c n.tree.dirs b.opened.standing.sound b.opened.table.dirs.slots root_inside at.names ∙ ap (option_map (found_in c)) at.met ∙ ap (λ x. Some (if x then Dir i else File i)) dir))
      by false off = refl

  is_in_use : (i f : ℕ) → file_at n.tree i ≡ Some f → (c.forms i).kind ≢ 0
  is_in_use i f e none =
      let off : not (is_used (c.forms i)) ≡ true = ap (λ k. not (not (k == 0))) none in
      let free : (not (is_used (c.forms i)) && is_inode_number g i) ≡ true = ap (λ x. x && is_inode_number g i) off ∙ inode_number i (inside i f e) in
      let clash = sym free ∙ sym (b.opened.table.dirs.free i) ∙ (named.used i f e).used in
      cc

  pub is_file : (i f : ℕ) → file_at n.tree i ≡ Some f → (c.forms i).kind ≡ 1
  is_file i f e = one_left (c.forms i).kind (few_kinds g image c b.opened.standing.catalog i (inside i f e)) (is_in_use i f e) (is_no_dir i f e)

  found_dir : (i j : ℕ) → found_in c j ≡ Dir i → (c.forms j).kind ≡ 2
  found_dir i j = by ((c.forms j).kind == 2) refl
    where
      by : (x : Bool) → ((c.forms j).kind == 2) ≡ x → (if x then Dir j else File j) ≡ Dir i → (c.forms j).kind ≡ 2
      by true t e = grind (arith, nat_tests, t)
      by false t e = cc

  pub kinds : AreKindsOf n.tree (λ inode. (c.forms inode).kind)
  kinds = record {
    dir = λ i names found.
        let at = met_inode g image c n.tree.dirs some b.opened.standing.catalog b.opened.standing.sound b.opened.table.dirs names (Dir i) found in
        let same : at.0 ≡ i = sym (found_number g image c n.tree.dirs some b.opened.standing.catalog b.opened.standing.sound b.opened.table.dirs at.0) ∙ ap inode_of at.2 in
        ap (λ k. (c.forms k).kind) (sym same) ∙ found_dir i at.0 at.2;
    file = is_file;
    free = λ i there.
        let parts = and_parts (not (is_used (c.forms i))) (is_inode_number g i) (sym (b.opened.table.dirs.free i) ∙ there) in
        let off = parts.0 in
        grind (arith, nat_tests, off);
  }
