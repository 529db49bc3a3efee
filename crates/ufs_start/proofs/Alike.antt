-- Images that agree on what the names of one of them use have the same inodes, directories and damage.
use Rattle.std.proofs.Common.{◌≡◌, ℕ, ◌<◌, inl, inr, List, [], ◌∷◌, ◌++◌, Bool, true, false, Option, map, unwrap_or, ap, sym, refl, ◌∙◌, subst, arith}
use Rattle.std.specs.Prelude.{flat_map, filter, ◌==◌, ◌&&◌, ◌||◌, not, nat_le, if◌then◌else◌}
use Rattle.std.specs.List.{filter_map, cons_option, list_any, enumerate_from, AllByRecursion}
use Rattle.std.proofs.lemmas.Bool.{and_parts}
use Rattle.std.proofs.lemmas.Bool.Decides.{nat_tests}
use Rattle.ufs_base.specs.Choices.{some_if}
use Rattle.ufs_base.specs.Images.{Image}
use Rattle.ufs_layout.specs.Areas.{IsGeometry, all_inodes, is_inode_number, sector_count, sector_of_inode}
use Rattle.ufs_layout.specs.InodeForm.{InodeForm, free_inode, inode_of, is_used}
use Rattle.ufs_layout.specs.DentryForm.{DentryForm, free_slot}
use Rattle.ufs_layout.specs.declared.geometry.Geometry.{Geometry}
use Rattle.ufs_layout.proofs.Spelled.{some_if-some}
use Rattle.ufs_image.specs.Agree.{AgreeOn, IsMetadata, IsOfBlock}
use Rattle.ufs_image.specs.Catalog.{IsDirBlock, IsInode, catalog_at, slots_in}
use Rattle.ufs_image.specs.Damage.{Damage, BadInode, BadExtent, BadDentry, FreeInode, NameTwice, TwoNames, bad_tree, block_damage, has_two_names, inode_damage, is_bad_dentry, is_name_twice, lowest_blamed, name_damage, names_no_inode, tree_damage}
use Rattle.ufs_image.specs.Images.{form_at, inode_at}
use Rattle.ufs_image.specs.Nodes.{Dir, NamedSlot, Node, ReadSlot, blocks_of, dirs_of, is_bad_extent, is_bad_form, is_bad_inode, kind_at, leaves_data, names_of, read_block, slots_of, sound_node, sound_nodes}
use Rattle.ufs_image.specs.Sound.{IsInData, IsSoundCatalog}
use Rattle.ufs_image.specs.Walks.{inode_of as met_at}
use Rattle.ufs_image.proofs.Blocks.{read_same}
use Rattle.ufs_image.proofs.Changed.{walks_same}
use Rattle.ufs_image.proofs.Depth.{has_root, root_in_range}
use Rattle.ufs_image.proofs.Found.{reached}
use Rattle.ufs_image.proofs.Holders.{all_stay, block_in_data, inode_in}
use Rattle.ufs_image.proofs.Journals.{filter-same, inode_metadata, map-same}
use Rattle.ufs_image.proofs.Listed.{place_of_in}
use Rattle.ufs_image.proofs.Lists.{IsIn, flat_map-same, from_filter, from_filter_map}
use Rattle.ufs_start.specs.Copies.{IsUsedIn}

filter_map-same : {X Y : Type 0} (f h : X → Option Y) (xs : List X) → ((x : X) → IsIn x xs → f x ≡ h x) → filter_map f xs ≡ filter_map h xs
filter_map-same f h [] same = refl
filter_map-same f h (x ∷ xs) same = let head = same x (inl refl) in let rest = filter_map-same f h xs (λ y is. same y (inr is)) in λ i. cons_option (head i) (rest i)

pub is_number : (g : Geometry) (inode : ℕ) → IsInode g inode → is_inode_number g inode ≡ true
is_number g inode is = let from = is.from_one in let most = is.within in grind (arith, nat_tests, from, most)

pub number_is : (g : Geometry) (inode : ℕ) → is_inode_number g inode ≡ true → IsInode g inode
number_is g inode e =
    let parts = and_parts (nat_le 1 inode) (nat_le inode g.inodes) e in
    let low = parts.0 in
    let high = parts.1 in
    record { from_one = grind (arith, nat_tests, low); within = grind (arith, nat_tests, high) }

two : (kind : ℕ) → (kind == 2) ≡ true → kind ≡ 2
two kind e = grind (arith, nat_tests, e)

-- of a sound node
none_leave : (bad leave used : Bool) → (not bad && (not (not bad && leave) && used)) ≡ true → leave ≡ false
none_leave true leave used e = let no = e in cc
none_leave false true used e = let no = e in cc
none_leave false false used e = refl

abbrev dir_with : ℕ → List ReadSlot → Dir
dir_with inode slots = record { inode = inode; slots = slots }

abbrev dir_in : Image → Node → Dir
dir_in image n = dir_with n.0 (slots_of image n.1)

-- by the test of names that stand for no inode
abbrev name_damage_by : Geometry → List Dir → (NamedSlot → Bool) → List Damage
name_damage_by g dirs none =
    flat_map (λ (d : Dir). map (λ (s : ReadSlot). BadDentry d.inode s.0) (filter is_bad_dentry d.slots)) dirs
    ++ flat_map (λ (d : Dir). map (λ (n : NamedSlot). FreeInode d.inode n.0 n.1.inode) (filter none (names_of d))) dirs
    ++ flat_map (λ (d : Dir). map (λ (n : NamedSlot). NameTwice d.inode n.0) (filter (is_name_twice d) (names_of d))) dirs
    ++ map TwoNames (filter (has_two_names dirs) (all_inodes g))

abbrev dentries : Image → ℕ → List DentryForm
dentries image block = map (λ o. unwrap_or o free_slot) (read_block image block)

abbrev slots_by : Image → InodeForm → List DentryForm
slots_by image form = if form.kind == 2 then flat_map (dentries image) (blocks_of form) else []

-- of the sectors of the geometry, those that the image's names use
abbrev pub IsUsedHere : Geometry → Image → ℕ → Type 0
IsUsedHere g image sector = (sector < sector_count g) × IsUsedIn g image sector

pub metadata_here : (g : Geometry) → IsGeometry g → (image : Image) (sector : ℕ) → IsMetadata g sector → IsUsedHere g image sector
metadata_here g geometry image sector before = let left = geometry.data_left in (omega (arith, before, left), inl before)

module _ (g : Geometry) (geometry : IsGeometry g) (one other : Image) (agree : AgreeOn (IsUsedHere g one) one other) where
  -- ---- inodes

  pub inode_same : (inode : ℕ) → IsInode g inode → inode_at g one inode ≡ inode_at g other inode
  inode_same inode in_range = ap inode_of (agree (sector_of_inode g inode) (metadata_here g geometry one (sector_of_inode g inode) (inode_metadata g inode (is_number g inode in_range))))

  pub form_same : (inode : ℕ) → IsInode g inode → form_at g one inode ≡ form_at g other inode
  form_same inode in_range = ap (λ (o : Option InodeForm). unwrap_or o (free_inode 0)) (inode_same inode in_range)

  bad_inode_same : (inode : ℕ) → IsInode g inode → is_bad_inode g one inode ≡ is_bad_inode g other inode
  bad_inode_same inode in_range = ap (is_bad_form inode) (inode_same inode in_range)

  bad_extent_same : (inode : ℕ) → IsInode g inode → is_bad_extent g one inode ≡ is_bad_extent g other inode
  bad_extent_same inode in_range = let bad = bad_inode_same inode in_range in let form = form_same inode in_range in λ i. not (bad i) && list_any (leaves_data g) (form i).extents

  node_same : (inode : ℕ) → IsInode g inode → sound_node g one inode ≡ sound_node g other inode
  node_same inode in_range =
      let bad = bad_inode_same inode in_range in
      let leaves = bad_extent_same inode in_range in
      let form = form_same inode in_range in
      λ i. some_if (not (bad i) && (not (leaves i) && is_used (form i))) (inode, form i)

  pub nodes_same : sound_nodes g one ≡ sound_nodes g other
  nodes_same = filter_map-same (sound_node g one) (sound_node g other) (all_inodes g) (λ k is. node_same k (inode_in g k is))

  -- ---- blocks

  module _ (inode : ℕ) (in_range : IsInode g inode) (stay : AllByRecursion (IsInData g) (form_at g one inode).extents) (dir : (form_at g one inode).kind ≡ 2) where
    sectors_same : (block : ℕ) → IsIn block (blocks_of (form_at g one inode)) → AgreeOn (IsOfBlock block) one other
    sectors_same block is sector of =
        let within = (block_in_data g (form_at g one inode).extents block stay is).1 in
        let slot = of.in_block in
        let at = of.same in
        let place = place_of_in block (blocks_of (form_at g one inode)) is in
        let has : IsDirBlock g (catalog_at g one) block = record { inode = inode; place = place.0; has = record { in_range = in_range; there = place.1 }; dir = dir } in
        agree sector (omega (arith, slot, at, within), inr (record { block = block; dir_block = has; of_block = of }))

    pub read_there : (block : ℕ) → IsIn block (blocks_of (form_at g one inode)) → read_block one block ≡ read_block other block
    read_there block is = read_same one other block (sectors_same block is)

    slots_there : slots_of one (form_at g one inode) ≡ slots_of other (form_at g one inode)
    slots_there = ap (enumerate_from 0) (flat_map-same (read_block one) (read_block other) (blocks_of (form_at g one inode)) read_there)

  node_slots : (n : Node) → IsIn n (sound_nodes g one) → (n.1.kind == 2) ≡ true → slots_of one n.1 ≡ slots_of other n.1
  node_slots n is dir =
      let from = from_filter_map (sound_node g one) (all_inodes g) n is in
      let both = some_if-some (not (is_bad_inode g one from.0) && (not (is_bad_extent g one from.0) && is_used (form_at g one from.0))) (from.0, form_at g one from.0) n from.2 in
      let stay = all_stay g (form_at g one from.0).extents (none_leave (is_bad_inode g one from.0) (list_any (leaves_data g) (form_at g one from.0).extents) (is_used (form_at g one from.0)) both.0) in
      let kind = two (form_at g one from.0).kind (ap (λ (m : Node). m.1.kind == 2) both.1 ∙ dir) in
      subst (λ (m : Node). slots_of one m.1 ≡ slots_of other m.1) both.1 (slots_there from.0 (inode_in g from.0 from.1) stay kind)

  -- ---- damage

  dirs_same : dirs_of one (sound_nodes g one) ≡ dirs_of other (sound_nodes g other)
  dirs_same =
      map-same (λ (n : Node). dir_in one n) (λ (n : Node). dir_in other n) (filter (λ (n : Node). n.1.kind == 2) (sound_nodes g one))
      (λ n is. let from = from_filter (λ (n : Node). n.1.kind == 2) (sound_nodes g one) n is in ap (λ (slots : List ReadSlot). dir_with n.0 slots) (node_slots n from.0 from.1))
      ∙ ap (dirs_of other) nodes_same

  kind_same : (inode : ℕ) → kind_at g one inode ≡ kind_at g other inode
  kind_same inode = by (is_inode_number g inode) refl
    where
      by : (b : Bool) → is_inode_number g inode ≡ b → (if b then (form_at g one inode).kind else 0) ≡ (if b then (form_at g other inode).kind else 0)
      by true e = ap (λ (f : InodeForm). f.kind) (form_same inode (number_is g inode e))
      by false e = refl

  no_inode_same : (n : NamedSlot) → names_no_inode g one n ≡ names_no_inode g other n
  no_inode_same n = ap (λ kind. kind == 0 || not (kind == n.1.kind)) (kind_same n.1.inode)

  inode_damage_same : inode_damage g one ≡ inode_damage g other
  inode_damage_same =
      let bad = filter-same (is_bad_inode g one) (is_bad_inode g other) (all_inodes g) (λ k is. bad_inode_same k (inode_in g k is)) in
      let leave = filter-same (is_bad_extent g one) (is_bad_extent g other) (all_inodes g) (λ k is. bad_extent_same k (inode_in g k is)) in
      λ i. map BadInode (bad i) ++ map BadExtent (leave i)

  name_damage_same : (dirs : List Dir) → name_damage g one dirs ≡ name_damage g other dirs
  name_damage_same dirs = ap (name_damage_by g dirs) (λ i n. no_inode_same n i)

  pub tree_damage_same : tree_damage g one ≡ tree_damage g other
  tree_damage_same =
      let inodes = inode_damage_same in
      let nodes = nodes_same in
      let names = ap (name_damage g one) dirs_same ∙ name_damage_same (dirs_of other (sound_nodes g other)) in
      λ i. inodes i ++ (block_damage g (nodes i) ++ names i)

  pub bad_same : bad_tree g one ≡ bad_tree g other
  bad_same = ap (lowest_blamed g) tree_damage_same

  -- ---- catalogs

  module _ (sound : IsSoundCatalog g (catalog_at g one)) where
    pub slots_in_same : (inode : ℕ) → IsInode g inode → slots_in (catalog_at g other) inode ≡ slots_in (catalog_at g one) inode
    slots_in_same inode in_range = ap (λ (f : InodeForm). slots_by other f) (sym (form_same inode in_range)) ∙ sym (by ((form_at g one inode).kind == 2) refl)
      where
        blocks : List ℕ
        blocks = blocks_of (form_at g one inode)

        by : (b : Bool) → ((form_at g one inode).kind == 2) ≡ b → (if b then flat_map (dentries one) blocks else []) ≡ (if b then flat_map (dentries other) blocks else [])
        by true e = flat_map-same (dentries one) (dentries other) blocks (λ b is. ap (map (λ o. unwrap_or o free_slot)) (read_there inode in_range (sound.in_data inode in_range) (two (form_at g one inode).kind e) b is))
        by false e = refl

    pub met_same : (names : List (List ℕ)) → met_at (catalog_at g other) names ≡ met_at (catalog_at g one) names
    met_same = walks_same (catalog_at g one) (catalog_at g other) (λ k is. slots_in_same k (reached g (catalog_at g one) sound 1 is.names k (root_in_range g (catalog_at g one) sound (has_root g geometry)) is.met).0)
