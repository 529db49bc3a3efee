-- What is told from findings is the damage of the image whose findings they are.
use Rattle.std.proofs.Common.{◌≡◌, ℕ, ◌-◌, ◌≤◌, List, [], ◌++◌, Bool, true, false, Option, Some, None, length, map, ap, sym, refl, ◌∙◌, arith, append_assoc}
use Rattle.std.specs.Prelude.{filter, flat_map, ◌==◌, ◌&&◌, ◌||◌, not, nat_le, if◌then◌else◌, slice_index_or}
use Rattle.std.specs.List.{filter_map, enumerate_from, range_with_len}
use Rattle.std.proofs.lemmas.Bool.{and_parts}
use Rattle.std.proofs.lemmas.Bool.Decides.{nat_tests}
use Rattle.std.proofs.lemmas.List.FromFn.{length-map-range_with_len, get_or-map-range_with_len}
use Rattle.ufs_base.specs.Choices.{some_if}
use Rattle.ufs_base.specs.Images.{Image}
use Rattle.ufs_layout.specs.Areas.{all_inodes, data_blocks, is_inode_number}
use Rattle.ufs_layout.specs.InodeForm.{InodeForm}
use Rattle.ufs_layout.specs.DentryForm.{DentryForm, is_named}
use Rattle.ufs_layout.specs.declared.geometry.Geometry.{Geometry}
use Rattle.ufs_image.specs.Images.{inode_at, form_at}
use Rattle.ufs_image.specs.Nodes.{Node, is_bad_inode, is_bad_extent, sound_nodes, ReadSlot, Dir, NamedSlot, names_of, dirs_of, kind_at}
use Rattle.ufs_image.specs.Damage.{Damage, BadInode, BadExtent, ShortExtents, BadDentry, FreeInode, NameTwice, TwoNames, shared_block, is_short, is_bad_dentry, names_no_inode, is_name_twice, has_two_names, tree_damage}
use Rattle.ufs_damage.specs.declared.forms.FormKind.TheVariants.{Sector, Extents, Size}
use Rattle.ufs_damage.specs.declared.slots.SlotKind.TheVariants.{Spelling, Target}
use Rattle.ufs_damage.specs.Findings.{CatalogRead, AreFindingsOf}
use Rattle.ufs_damage.specs.Told.{form_of, is_sound_form}
use Rattle.ufs_damage.specs.Kinds.{ReadForm, numbered, node_of, nodes_in, form_damage, kind_in, names_none, target_damage, slot_damage, slots_damage}
use Rattle.ufs_damage.proofs.Lists.{map_filter, then_map, then_if, if_both, filter_map_twice, filter_map_of_map, filter_map_same, numbered_map}
use Rattle.ufs_damage.proofs.NamesTwice.{named_in, names_are}

-- what is told of the inodes one by one
by_number : {Y : Type 0} (look : ℕ → Option InodeForm) (h : ReadForm → Option Y) (a n : ℕ) → filter_map h (enumerate_from a (map look (range_with_len a n))) ≡ filter_map (λ i. h (i, look i)) (range_with_len a n)
by_number look h a n = ap (filter_map h) (numbered_map look a n) ∙ filter_map_of_map h (λ i. (i, look i)) (range_with_len a n)

module _ (g : Geometry) (image : Image) (forms : List (Option InodeForm)) (are : forms ≡ map (inode_at g image) (all_inodes g)) where
  of_forms : {Y : Type 0} (h : ReadForm → Option Y) → filter_map h (numbered forms) ≡ filter_map (λ i. h (i, inode_at g image i)) (all_inodes g)
  of_forms h = ap (λ fs. filter_map h (numbered fs)) are ∙ by_number (inode_at g image) h 1 g.inodes

  pub nodes_are : nodes_in g forms ≡ sound_nodes g image
  nodes_are = of_forms (node_of g)

  pub sectors_are : filter_map (form_damage Sector g) (numbered forms) ≡ map BadInode (filter (is_bad_inode g image) (all_inodes g))
  sectors_are = of_forms (form_damage Sector g) ∙ sym (map_filter BadInode (is_bad_inode g image) (all_inodes g))

  pub extents_are : filter_map (form_damage Extents g) (numbered forms) ≡ map BadExtent (filter (is_bad_extent g image) (all_inodes g))
  extents_are = of_forms (form_damage Extents g) ∙ sym (map_filter BadExtent (is_bad_extent g image) (all_inodes g))

  pub sizes_are : filter_map (form_damage Size g) (numbered forms) ≡ map (λ (n : Node). ShortExtents n.0) (filter (λ (n : Node). is_short n.1) (sound_nodes g image))
  sizes_are =
      filter_map_same (form_damage Size g) (λ (n : ReadForm). then_map tell (node_of g n)) (numbered forms) (λ n. sym (then_if tell (is_sound_form g n.0 n.1) (n.0, form_of n.1) ∙ if_both (is_sound_form g n.0 n.1) (is_short (form_of n.1)) (ShortExtents n.0)))
      ∙ sym (filter_map_twice tell (node_of g) (numbered forms))
      ∙ ap (filter_map tell) nodes_are
      ∙ sym (map_filter (λ (n : Node). ShortExtents n.0) (λ (n : Node). is_short n.1) (sound_nodes g image))
    where
      tell : Node → Option Damage
      tell n = some_if (is_short n.1) (ShortExtents n.0)

  -- ---- slots

  pub kind_is : (inode : ℕ) → kind_in forms inode ≡ kind_at g image inode
  kind_is inode = ap (λ n. if nat_le 1 inode && nat_le inode n then (form_of (slice_index_or forms (inode - 1) None)).kind else 0) count ∙ by (is_inode_number g inode) refl
    where
      count : length forms ≡ g.inodes
      count = ap length are ∙ length-map-range_with_len (inode_at g image) 1 g.inodes

      read : is_inode_number g inode ≡ true → slice_index_or forms (inode - 1) None ≡ inode_at g image inode
      read e =
          let parts = and_parts (nat_le 1 inode) (nat_le inode g.inodes) e in
          let low : 1 ≤ inode = grind (arith, nat_tests, parts.0) in
          let high : inode ≤ g.inodes = grind (arith, nat_tests, parts.1) in
          ap (λ fs. slice_index_or fs (inode - 1) None) are ∙ get_or-map-range_with_len (inode_at g image) 1 g.inodes (inode - 1) inode None (omega (arith, low, high)) (omega (arith, low))

      by : (b : Bool) → is_inode_number g inode ≡ b → (if b then (form_of (slice_index_or forms (inode - 1) None)).kind else 0) ≡ (if b then (form_at g image inode).kind else 0)
      by true e = ap (λ o. (form_of o).kind) (read e)
      by false e = refl

  pub spellings_are : (dirs : List Dir) → flat_map (slots_damage Spelling forms) dirs ≡ flat_map (λ (d : Dir). map (λ (s : ReadSlot). BadDentry d.inode s.0) (filter is_bad_dentry d.slots)) dirs
  spellings_are dirs = ap (λ (f : Dir → List Damage). flat_map f dirs) (λ i d. each d i)
    where
      each : (d : Dir) → slots_damage Spelling forms d ≡ map (λ (s : ReadSlot). BadDentry d.inode s.0) (filter is_bad_dentry d.slots)
      each d = sym (map_filter (λ (s : ReadSlot). BadDentry d.inode s.0) is_bad_dentry d.slots)

  pub targets_are : (dirs : List Dir) → flat_map (slots_damage Target forms) dirs ≡ flat_map (λ (d : Dir). map (λ (n : NamedSlot). FreeInode d.inode n.0 n.1.inode) (filter (names_no_inode g image) (names_of d))) dirs
  targets_are dirs = ap (λ (f : Dir → List Damage). flat_map f dirs) (λ i d. each d i)
    where
      tell : ℕ → NamedSlot → Option Damage
      tell dir n = some_if (names_no_inode g image n) (FreeInode dir n.0 n.1.inode)

      of_kind : (d : DentryForm) → names_none forms d ≡ names_no_inode g image (0, d)
      of_kind d = ap (λ kind. kind == 0 || not (kind == d.kind)) (kind_is d.inode)

      one : (dir place : ℕ) (o : Option DentryForm) → target_damage forms dir place o ≡ then_map (tell dir) (named_in place o)
      one dir place None = refl
      one dir place (Some d) =
          ap (λ b. some_if (is_named d && b) (FreeInode dir place d.inode)) (of_kind d)
          ∙ sym (then_if (tell dir) (is_named d) (place, d) ∙ if_both (is_named d) (names_no_inode g image (place, d)) (FreeInode dir place d.inode))

      each : (d : Dir) → slots_damage Target forms d ≡ map (λ (n : NamedSlot). FreeInode d.inode n.0 n.1.inode) (filter (names_no_inode g image) (names_of d))
      each d =
          filter_map_same (slot_damage Target forms d.inode) (λ (s : ReadSlot). then_map (tell d.inode) (named_in s.0 s.1)) d.slots (λ s. one d.inode s.0 s.1)
          ∙ sym (filter_map_twice (tell d.inode) (λ (s : ReadSlot). named_in s.0 s.1) d.slots)
          ∙ ap (filter_map (tell d.inode)) (sym (names_are d.inode d.slots))
          ∙ sym (map_filter (λ (n : NamedSlot). FreeInode d.inode n.0 n.1.inode) (names_no_inode g image) (names_of d))

-- the eight kinds, one behind the other
pub eight : {X : Type 0} (a b c d e f h i : List X) → ((((((((([] ++ a) ++ b) ++ c) ++ d) ++ e) ++ f) ++ h) ++ i) ≡ (a ++ b) ++ ((c ++ d) ++ (((e ++ f) ++ h) ++ i)))
eight a b c d e f h i = simp append_assoc

-- each kind put behind those before it
pub all_told : (g : Geometry) (image : Image) (f : CatalogRead) → AreFindingsOf g image f → (forms : List (Option InodeForm)) (dirs : List Dir) → forms ≡ f.forms → dirs ≡ f.dirs
    → (l a b c d e s h i : List Damage) → l ≡ []
    → a ≡ l ++ filter_map (form_damage Sector g) (numbered forms) → b ≡ a ++ filter_map (form_damage Extents g) (numbered forms)
    → c ≡ b ++ filter_map (shared_block (nodes_in g forms)) (data_blocks g) → d ≡ c ++ filter_map (form_damage Size g) (numbered forms)
    → e ≡ d ++ flat_map (slots_damage Spelling f.forms) f.dirs → s ≡ e ++ flat_map (slots_damage Target f.forms) f.dirs
    → h ≡ s ++ flat_map (λ (x : Dir). map (λ (n : NamedSlot). NameTwice x.inode n.0) (filter (is_name_twice x) (names_of x))) dirs
    → i ≡ h ++ map TwoNames (filter (has_two_names dirs) (all_inodes g))
    → i ≡ tree_damage g image
all_told g image f are forms dirs same_forms same_dirs l a b c d e s h i is_l is_a is_b is_c is_d is_e is_s is_h is_i =
    is_i ∙ ap (λ x. x ++ eighth) (is_h ∙ ap (λ x. x ++ seventh) (is_s ∙ ap (λ x. x ++ sixth) (is_e ∙ ap (λ x. x ++ fifth) (is_d ∙ ap (λ x. x ++ fourth) (is_c ∙ ap (λ x. x ++ third) (is_b ∙ ap (λ x. x ++ second) (is_a ∙ ap (λ x. x ++ first) is_l)))))))
    ∙ eight first second third fourth fifth sixth seventh eighth
    ∙ (λ k. (first_is k ++ second_is k) ++ ((third_is k ++ fourth_is k) ++ (((fifth_is k ++ sixth_is k) ++ seventh_is k) ++ eighth_is k)))
  where
    there : List Dir
    there = dirs_of image (sound_nodes g image)

    found : forms ≡ map (inode_at g image) (all_inodes g)
    found = same_forms ∙ are.forms

    listed : dirs ≡ there
    listed = same_dirs ∙ are.dirs

    first : List Damage
    first = filter_map (form_damage Sector g) (numbered forms)

    second : List Damage
    second = filter_map (form_damage Extents g) (numbered forms)

    third : List Damage
    third = filter_map (shared_block (nodes_in g forms)) (data_blocks g)

    fourth : List Damage
    fourth = filter_map (form_damage Size g) (numbered forms)

    fifth : List Damage
    fifth = flat_map (slots_damage Spelling f.forms) f.dirs

    sixth : List Damage
    sixth = flat_map (slots_damage Target f.forms) f.dirs

    seventh : List Damage
    seventh = flat_map (λ (x : Dir). map (λ (n : NamedSlot). NameTwice x.inode n.0) (filter (is_name_twice x) (names_of x))) dirs

    eighth : List Damage
    eighth = map TwoNames (filter (has_two_names dirs) (all_inodes g))

    first_is : filter_map (form_damage Sector g) (numbered forms) ≡ map BadInode (filter (is_bad_inode g image) (all_inodes g))
    first_is = sectors_are g image forms found

    second_is : filter_map (form_damage Extents g) (numbered forms) ≡ map BadExtent (filter (is_bad_extent g image) (all_inodes g))
    second_is = extents_are g image forms found

    third_is : filter_map (shared_block (nodes_in g forms)) (data_blocks g) ≡ filter_map (shared_block (sound_nodes g image)) (data_blocks g)
    third_is = ap (λ ns. filter_map (shared_block ns) (data_blocks g)) (nodes_are g image forms found)

    fourth_is : filter_map (form_damage Size g) (numbered forms) ≡ map (λ (n : Node). ShortExtents n.0) (filter (λ (n : Node). is_short n.1) (sound_nodes g image))
    fourth_is = sizes_are g image forms found

    fifth_is : flat_map (slots_damage Spelling f.forms) f.dirs ≡ flat_map (λ (x : Dir). map (λ (t : ReadSlot). BadDentry x.inode t.0) (filter is_bad_dentry x.slots)) there
    fifth_is = spellings_are g image f.forms are.forms f.dirs ∙ ap (flat_map (λ (x : Dir). map (λ (t : ReadSlot). BadDentry x.inode t.0) (filter is_bad_dentry x.slots))) are.dirs

    sixth_is : flat_map (slots_damage Target f.forms) f.dirs ≡ flat_map (λ (x : Dir). map (λ (n : NamedSlot). FreeInode x.inode n.0 n.1.inode) (filter (names_no_inode g image) (names_of x))) there
    sixth_is = targets_are g image f.forms are.forms f.dirs ∙ ap (flat_map (λ (x : Dir). map (λ (n : NamedSlot). FreeInode x.inode n.0 n.1.inode) (filter (names_no_inode g image) (names_of x)))) are.dirs

    seventh_is : flat_map (λ (x : Dir). map (λ (n : NamedSlot). NameTwice x.inode n.0) (filter (is_name_twice x) (names_of x))) dirs ≡ flat_map (λ (x : Dir). map (λ (n : NamedSlot). NameTwice x.inode n.0) (filter (is_name_twice x) (names_of x))) there
    seventh_is = ap (flat_map (λ (x : Dir). map (λ (n : NamedSlot). NameTwice x.inode n.0) (filter (is_name_twice x) (names_of x)))) listed

    eighth_is : map TwoNames (filter (has_two_names dirs) (all_inodes g)) ≡ map TwoNames (filter (has_two_names there) (all_inodes g))
    eighth_is = ap (λ ds. map TwoNames (filter (has_two_names ds) (all_inodes g))) listed
