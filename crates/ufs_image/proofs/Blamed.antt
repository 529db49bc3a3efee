-- Each damage of the tree is told of an inode, so no such inode means no damage.
use Rattle.std.proofs.Common.{◌≡◌, ℕ, ◌⊎◌, inl, inr, List, [], ◌∷◌, ◌++◌, Bool, true, false, cond, Some, None, map, ap, sym, refl, ◌∙◌, subst, arith}
use Rattle.std.specs.Prelude.{flat_map, filter, ◌==◌, ◌&&◌, not}
use Rattle.std.specs.List.{filter_map, find, list_any}
use Rattle.std.proofs.lemmas.Bool.Decides.{nat_tests}
use Rattle.ufs_layout.specs.Areas.{all_inodes, data_blocks}
use Rattle.ufs_layout.specs.InodeForm.{is_used}
use Rattle.ufs_base.specs.Images.{Image}
use Rattle.ufs_image.specs.Images.{form_at}
use Rattle.ufs_image.specs.Nodes.{Node, is_bad_inode, is_bad_extent, sound_node, sound_nodes, blocks_of, ReadSlot, Dir, slots_of, dirs_of, NamedSlot, names_of}
use Rattle.ufs_image.specs.Damage.{Damage, BadInode, BadExtent, SharedBlock, ShortExtents, BadDentry, FreeInode, NameTwice, TwoNames, holders, shared_block, is_short, is_bad_dentry, names_no_inode, is_name_twice, has_two_names, inode_damage, block_damage, name_damage, node_damage, tree_damage, blamed, lowest_blamed, bad_tree}
use Rattle.ufs_layout.specs.declared.geometry.Geometry.{Geometry}
use Rattle.ufs_image.specs.Catalog.{IsInode}
use Rattle.ufs_image.proofs.Lists.{IsIn, in_one, from_flat_map, from_filter, from_map, in_filter_map, from_filter_map}
use Rattle.ufs_image.proofs.Found.{same_some}
use Rattle.ufs_image.proofs.Empty.{empty, not_both, list_any_false}
use Rattle.ufs_image.proofs.Holders.{inode_in, in_inodes}
use Rattle.ufs_layout.proofs.Spelled.{some_if-some}

pub find_none : (p : ℕ → Bool) (xs : List ℕ) → find p xs ≡ None → (x : ℕ) → IsIn x xs → p x ≡ false
find_none p [] e x is = absurd is
find_none p (y ∷ xs) e x is = by (p y) refl e is (λ h there. find_none p xs h x there)
  where
    by : (b : Bool) → p y ≡ b → cond b (Some y) (find p xs) ≡ None → IsIn x (y ∷ xs) → (find p xs ≡ None → IsIn x xs → p x ≡ false) → p x ≡ false
    by true t e there more = let no = e in cc
    by false t e (inl same) more = ap p same ∙ t
    by false t e (inr there) more = more e there

pub none_find : (p : ℕ → Bool) (xs : List ℕ) → ((x : ℕ) → IsIn x xs → p x ≡ false) → find p xs ≡ None
none_find p [] none = refl
none_find p (x ∷ xs) none = ap (λ b. cond b (Some x) (find p xs)) (none x (inl refl)) ∙ none_find p xs (λ y is. none y (inr is))

-- the four kinds of names
abbrev bad_dentries : Geometry → Image → List Damage
bad_dentries g image = flat_map (λ (x : Dir). map (λ (s : ReadSlot). BadDentry x.inode s.0) (filter is_bad_dentry x.slots)) (dirs_of image (sound_nodes g image))

abbrev free_inodes : Geometry → Image → List Damage
free_inodes g image = flat_map (λ (x : Dir). map (λ (n : NamedSlot). FreeInode x.inode n.0 n.1.inode) (filter (names_no_inode g image) (names_of x))) (dirs_of image (sound_nodes g image))

abbrev names_twice : Geometry → Image → List Damage
names_twice g image = flat_map (λ (x : Dir). map (λ (n : NamedSlot). NameTwice x.inode n.0) (filter (is_name_twice x) (names_of x))) (dirs_of image (sound_nodes g image))

abbrev two_names : Geometry → Image → List Damage
two_names g image = map TwoNames (filter (has_two_names (dirs_of image (sound_nodes g image))) (all_inodes g))

module _ (g : Geometry) (image : Image) where
  -- a damage that is told of an inode in range
  abbrev pub Blames : Damage → Type 0
  Blames d = (inode : ℕ) × IsInode g inode × (blamed d ≡ Some inode)

  node_number : (n : Node) → IsIn n (sound_nodes g image) → IsInode g n.0
  node_number n there =
      let from = from_filter_map (sound_node g image) (all_inodes g) n there in
      let parts = some_if-some (not (is_bad_inode g image from.0) && (not (is_bad_extent g image from.0) && is_used (form_at g image from.0))) (from.0, form_at g image from.0) n from.2 in
      subst (IsInode g) (ap (λ (m : Node). m.0) parts.1) (inode_in g from.0 from.1)

  dir_number : (d : Dir) → IsIn d (dirs_of image (sound_nodes g image)) → IsInode g d.inode
  dir_number d there =
      let from = from_map (λ (n : Node). record { inode = n.0; slots = slots_of image n.1 }) (filter (λ (n : Node). n.1.kind == 2) (sound_nodes g image)) d there in
      let kept = from_filter (λ (n : Node). n.1.kind == 2) (sound_nodes g image) from.0 from.1 in
      subst (IsInode g) (sym (ap (λ (x : Dir). x.inode) from.2)) (node_number from.0 kept.0)

  holder_number : (block k : ℕ) → IsIn k (holders (sound_nodes g image) block) → IsInode g k
  holder_number block k there =
      let from = from_flat_map (λ (n : Node). map (λ b. n.0) (filter (λ b. b == block) (blocks_of n.1))) (sound_nodes g image) k there in
      let at = from_map (λ b. from.0.0) (filter (λ b. b == block) (blocks_of from.0.1)) k from.2 in
      subst (IsInode g) (sym at.2) (node_number from.0 from.1)

  shared_number : (block : ℕ) (d : Damage) → shared_block (sound_nodes g image) block ≡ Some d → Blames d
  shared_number block d e = by (holders (sound_nodes g image) block) refl
    where
      by : (hs : List ℕ) → holders (sound_nodes g image) block ≡ hs → Blames d
      by [] is = let none : shared_block (sound_nodes g image) block ≡ None = rw (is, shared_block) refl in let no : None ≡ Some d = sym none ∙ e in absurd cc
      by (h ∷ []) is = let none : shared_block (sound_nodes g image) block ≡ None = rw (is, shared_block) refl in let no : None ≡ Some d = sym none ∙ e in absurd cc
      by (h ∷ k ∷ hs) is =
          let some : shared_block (sound_nodes g image) block ≡ Some (SharedBlock block h k) = rw (is, shared_block) refl in
          let same : SharedBlock block h k ≡ d = same_some (SharedBlock block h k) d (sym some ∙ e) in
          (h, holder_number block h (subst (IsIn h) (sym is) (inl refl)), ap blamed (sym same))

  of_number : (d : Damage) (inode : ℕ) → IsInode g inode → (made : Damage) → d ≡ made → blamed made ≡ Some inode → Blames d
  of_number d inode in_range made is e = (inode, in_range, ap blamed is ∙ e)

  pub blames : (d : Damage) → IsIn d (tree_damage g image) → Blames d
  blames d there = tree (in_one d (inode_damage g image) (node_damage g image (sound_nodes g image)) there)
    where
      inodes : IsIn d (inode_damage g image) → Blames d
      inodes is = by (in_one d (map BadInode (filter (is_bad_inode g image) (all_inodes g))) (map BadExtent (filter (is_bad_extent g image) (all_inodes g))) is)
        where
          by : IsIn d (map BadInode (filter (is_bad_inode g image) (all_inodes g))) ⊎ IsIn d (map BadExtent (filter (is_bad_extent g image) (all_inodes g))) → Blames d
          by (inl a) = let from = from_map BadInode (filter (is_bad_inode g image) (all_inodes g)) d a in of_number d from.0 (inode_in g from.0 (from_filter (is_bad_inode g image) (all_inodes g) from.0 from.1).0) (BadInode from.0) from.2 refl
          by (inr a) = let from = from_map BadExtent (filter (is_bad_extent g image) (all_inodes g)) d a in of_number d from.0 (inode_in g from.0 (from_filter (is_bad_extent g image) (all_inodes g) from.0 from.1).0) (BadExtent from.0) from.2 refl

      blocks : IsIn d (block_damage g (sound_nodes g image)) → Blames d
      blocks is = by (in_one d (filter_map (shared_block (sound_nodes g image)) (data_blocks g)) (map (λ (n : Node). ShortExtents n.0) (filter (λ (n : Node). is_short n.1) (sound_nodes g image))) is)
        where
          by : IsIn d (filter_map (shared_block (sound_nodes g image)) (data_blocks g)) ⊎ IsIn d (map (λ (n : Node). ShortExtents n.0) (filter (λ (n : Node). is_short n.1) (sound_nodes g image))) → Blames d
          by (inl a) = let from = from_filter_map (shared_block (sound_nodes g image)) (data_blocks g) d a in shared_number from.0 d from.2
          by (inr a) =
              let from = from_map (λ (n : Node). ShortExtents n.0) (filter (λ (n : Node). is_short n.1) (sound_nodes g image)) d a in
              of_number d from.0.0 (node_number from.0 (from_filter (λ (n : Node). is_short n.1) (sound_nodes g image) from.0 from.1).0) (ShortExtents from.0.0) from.2 refl

      of_dir : {X : Type 0} (made : Dir → X → Damage) (each : Dir → List X) → ((x : Dir) (y : X) → blamed (made x y) ≡ Some x.inode) → IsIn d (flat_map (λ (x : Dir). map (made x) (each x)) (dirs_of image (sound_nodes g image))) → Blames d
      of_dir made each told is =
          let from = from_flat_map (λ (x : Dir). map (made x) (each x)) (dirs_of image (sound_nodes g image)) d is in
          let at = from_map (made from.0) (each from.0) d from.2 in
          of_number d from.0.inode (dir_number from.0 from.1) (made from.0 at.0) at.2 (told from.0 at.0)

      names : IsIn d (name_damage g image (dirs_of image (sound_nodes g image))) → Blames d
      names is = first (in_one d (bad_dentries g image ++ free_inodes g image ++ names_twice g image) (two_names g image) is)
        where
          third : IsIn d (bad_dentries g image) ⊎ IsIn d (free_inodes g image) → Blames d
          third (inl a) = of_dir {X = ReadSlot} (λ (x : Dir) s. BadDentry x.inode s.0) (λ (x : Dir). filter is_bad_dentry x.slots) (λ x y. refl) a
          third (inr a) = of_dir {X = NamedSlot} (λ (x : Dir) n. FreeInode x.inode n.0 n.1.inode) (λ (x : Dir). filter (names_no_inode g image) (names_of x)) (λ x y. refl) a

          second : IsIn d (bad_dentries g image ++ free_inodes g image) ⊎ IsIn d (names_twice g image) → Blames d
          second (inl a) = third (in_one d (bad_dentries g image) (free_inodes g image) a)
          second (inr a) = of_dir {X = NamedSlot} (λ (x : Dir) n. NameTwice x.inode n.0) (λ (x : Dir). filter (is_name_twice x) (names_of x)) (λ x y. refl) a

          first : IsIn d (bad_dentries g image ++ free_inodes g image ++ names_twice g image) ⊎ IsIn d (two_names g image) → Blames d
          first (inl a) = second (in_one d (bad_dentries g image ++ free_inodes g image) (names_twice g image) a)
          first (inr a) =
              let from = from_map TwoNames (filter (has_two_names (dirs_of image (sound_nodes g image))) (all_inodes g)) d a in
              of_number d from.0 (inode_in g from.0 (from_filter (has_two_names (dirs_of image (sound_nodes g image))) (all_inodes g) from.0 from.1).0) (TwoNames from.0) from.2 refl

      tree : IsIn d (inode_damage g image) ⊎ IsIn d (node_damage g image (sound_nodes g image)) → Blames d
      tree (inl a) = inodes a
      tree (inr a) = by (in_one d (block_damage g (sound_nodes g image)) (name_damage g image (dirs_of image (sound_nodes g image))) a)
        where
          by : IsIn d (block_damage g (sound_nodes g image)) ⊎ IsIn d (name_damage g image (dirs_of image (sound_nodes g image))) → Blames d
          by (inl b) = blocks b
          by (inr b) = names b

  pub undamaged : bad_tree g image ≡ None → tree_damage g image ≡ []
  undamaged none = empty (tree_damage g image) (λ d there.
      let told = blames d there in
      let off = find_none (λ inode. list_any (λ b. b == inode) (filter_map blamed (tree_damage g image))) (all_inodes g) none told.0 (in_inodes g told.0 told.1) in
      let other = list_any_false (λ b. b == told.0) (filter_map blamed (tree_damage g image)) off told.0 (in_filter_map blamed (tree_damage g image) d told.0 there told.2) in
      not_both (told.0 == told.0) other (grind (arith, nat_tests)))

  pub not_bad : tree_damage g image ≡ [] → bad_tree g image ≡ None
  not_bad none = ap (lowest_blamed g) none ∙ none_find (λ inode. false) (all_inodes g) (λ x is. refl)
