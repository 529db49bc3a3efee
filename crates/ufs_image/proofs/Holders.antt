-- Inodes, extents and blocks of an undamaged image, and of a sound catalog.
use Rattle.std.proofs.Common.{◌≡◌, ℕ, ◌+◌, ◌*◌, ◌<◌, ◌≤◌, inl, inr, List, [], ◌∷◌, Bool, true, false, length, Some, None, map, ap, sym, refl, ◌∙◌, subst, arith}
use Rattle.std.specs.Prelude.{flat_map, filter, ◌==◌, ◌&&◌, ◌||◌, not, nat_le, nat_lt, if◌then◌else◌}
use Rattle.std.specs.List.{slice_get, list_any, list_all, range_with_len, AllByRecursion}
use Rattle.std.proofs.lemmas.Bool.{and_parts}
use Rattle.std.proofs.lemmas.Bool.Decides.{nat_tests}
use Rattle.std.proofs.lemmas.List.{length-map}
use Rattle.ufs_base.specs.Choices.{some_if}
use Rattle.ufs_layout.specs.Words.{spelled}
use Rattle.ufs_layout.specs.Areas.{all_inodes, first_of_data}
use Rattle.ufs_layout.specs.InodeForm.{InodeForm, inode_fields, inode_bytes, is_inode, is_used, is_extent}
use Rattle.ufs_base.specs.Images.{Image}
use Rattle.ufs_image.specs.Nodes.{Node, is_bad_form, is_bad_inode, is_bad_extent, leaves_data, sound_node, sound_nodes, blocks_of}
use Rattle.ufs_image.specs.Damage.{SharedBlock, holders, shared_block, is_short}
use Rattle.ufs_layout.specs.declared.geometry.Geometry.{Geometry}
use Rattle.ufs_layout.specs.declared.inode.Extent.{Extent}
use Rattle.ufs_image.specs.Catalog.{Catalog, IsInode, HasBlock, IsCatalogOf}
use Rattle.ufs_image.specs.Sound.{IsInData}
use Rattle.ufs_layout.proofs.Spelled.{some_if-some, spelled-some}
use Rattle.ufs_image.proofs.Lists.{IsIn, from_flat_map, in_filter, from_filter, in_map, from_map, flat_map-same, in_filter_map, from_filter_map}
use Rattle.ufs_image.proofs.Listed.{form_is, place_of_in, in_at_place}
use Rattle.ufs_image.proofs.Empty.{empty_filter, filter_empty, list_any_false, false_list_any, in_range, from_range, flat_map-filter_map, by_option}
use Rattle.ufs_image.proofs.Few.{few_filter, filter_few, few_flat_map, flat_map_each, flat_map_one}

-- ---- forms

-- what is read is on its form
pub on_form : {X : Type 0} (fields : List ℕ → X) (spelling : X → List ℕ) (is_form : X → Bool) (bytes : List ℕ) (v : X) → spelled fields spelling is_form bytes ≡ Some v → is_form v ≡ true
on_form fields spelling is_form bytes v e = (spelled-some fields spelling is_form bytes v e).1

is_zero : (n : ℕ) → (n == 0) ≡ true → n ≡ 0
is_zero n e = grind (arith, nat_tests, e)

no_length : {X : Type 0} (xs : List X) → length xs ≡ 0 → xs ≡ []
no_length [] e = refl
no_length (x ∷ xs) e = absurd (omega (arith, e))

right_part : (a b : Bool) → a ≡ false → (a || b) ≡ true → b ≡ true
right_part a b is e = ap (λ t. t || b) (sym is) ∙ e

-- a free inode has nothing
pub free_form : (form : InodeForm) → is_inode form ≡ true → form.kind ≡ 0 → (form.extents ≡ []) × (form.size ≡ 0)
free_form form e free =
    let last = (and_parts (list_all is_extent form.extents) _ (and_parts (nat_le (length form.extents) 56) _ (and_parts (nat_le form.kind 2) _ e).1).1).1 in
    let unused : is_used form ≡ false = ap (λ k. not (k == 0)) free in
    let both = and_parts _ _ (right_part (is_used form) (length form.extents == 0 && form.size == 0) unused last) in
    (no_length form.extents (is_zero (length form.extents) both.0), is_zero form.size both.1)

-- ---- extents

leaves_not : (g : Geometry) (e : Extent) → IsInData g e → leaves_data g e ≡ false
leaves_not g e is = let start = is.start in let end = is.end in grind (arith, nat_tests, start, end)

not_leaves : (g : Geometry) (e : Extent) → leaves_data g e ≡ false → IsInData g e
not_leaves g e is = record { start = grind (arith, nat_tests, is); end = grind (arith, nat_tests, is) }

pub none_leaves : (g : Geometry) (es : List Extent) → AllByRecursion (IsInData g) es → list_any (leaves_data g) es ≡ false
none_leaves g [] all = refl
none_leaves g (e ∷ es) all = ap (λ b. b || list_any (leaves_data g) es) (leaves_not g e all.0) ∙ none_leaves g es all.1

pub all_stay : (g : Geometry) (es : List Extent) → list_any (leaves_data g) es ≡ false → AllByRecursion (IsInData g) es
all_stay g [] none = tt
all_stay g (e ∷ es) none =
    (not_leaves g e (list_any_false (leaves_data g) (e ∷ es) none e (inl refl)), all_stay g es (false_list_any (leaves_data g) es (λ x is. list_any_false (leaves_data g) (e ∷ es) none x (inr is))))

-- a block of such extents is a data block
pub block_in_data : (g : Geometry) (es : List Extent) (b : ℕ) → AllByRecursion (IsInData g) es → IsIn b (flat_map (λ (e : Extent). range_with_len e.start e.length) es) → (first_of_data g ≤ b) × (b < g.blocks)
block_in_data g es b all is = let from = from_flat_map (λ (e : Extent). range_with_len e.start e.length) es b is in of es all from.0 from.1 (from_range from.0.start from.0.length b from.2)
  where
    of : (es : List Extent) → AllByRecursion (IsInData g) es → (e : Extent) → IsIn e es → (e.start ≤ b) × (b < e.start + e.length) → (first_of_data g ≤ b) × (b < g.blocks)
    of [] all e is at = absurd is
    of (x ∷ es) all e (inl same) at =
        let lies : IsInData g e = subst (IsInData g) (sym same) all.0 in
        let start = lies.start in
        let end = lies.end in
        (omega (arith, start, at.0), omega (arith, end, at.1))
    of (x ∷ es) all e (inr is) at = of es all.1 e is at

-- ---- inodes

pub inode_in : (g : Geometry) (k : ℕ) → IsIn k (all_inodes g) → IsInode g k
inode_in g k is = let at = from_range 1 g.inodes k is in record { from_one = at.0; within = omega (arith, at.1) }

pub in_inodes : (g : Geometry) (k : ℕ) → IsInode g k → IsIn k (all_inodes g)
in_inodes g k is = let from = is.from_one in let most = is.within in in_range 1 g.inodes k from (omega (arith, most))

pub bad_root : (k kind : ℕ) → ((k ≡ 1) → kind ≡ 2) → (k == 1 && not (kind == 2)) ≡ false
bad_root k kind root = by (k == 1) refl
  where
    by : (b : Bool) → (k == 1) ≡ b → (b && not (kind == 2)) ≡ false
    by true e = let same : k ≡ 1 = grind (arith, nat_tests, e) in ap (λ n. not (n == 2)) (root same)
    by false e = refl

pub two_blocks : (nodes : List Node) (block : ℕ) (hs : List ℕ) → holders nodes block ≡ hs → length hs ≤ 1 → shared_block nodes block ≡ None
two_blocks nodes block [] e few = rw (e, shared_block) refl
two_blocks nodes block (h ∷ []) e few = rw (e, shared_block) refl
two_blocks nodes block (h ∷ k ∷ hs) e few = absurd (omega (arith, few))

pub blocks_two : (nodes : List Node) (block : ℕ) (hs : List ℕ) → holders nodes block ≡ hs → shared_block nodes block ≡ None → length hs ≤ 1
blocks_two nodes block [] e none = omega arith
blocks_two nodes block (h ∷ []) e none = omega arith
blocks_two nodes block (h ∷ k ∷ hs) e none =
    let some : shared_block nodes block ≡ Some (SharedBlock block h k) = rw (e, shared_block) refl in
    let no : None ≡ Some (SharedBlock block h k) = sym none ∙ some in
    cc

-- no inode has damage of the first two kinds
pub record AreRead (g : Geometry) (image : Image) : Type 0 where
  pub forms : (k : ℕ) → IsInode g k → is_bad_inode g image k ≡ false
  pub extents : (k : ℕ) → IsInode g k → is_bad_extent g image k ≡ false

module _ (g : Geometry) (image : Image) (c : Catalog) (is : IsCatalogOf g image c) where
  inode_form : (k : ℕ) → IsInode g k → is_inode (c.forms k) ≡ true
  inode_form k in_range = on_form inode_fields inode_bytes is_inode (image _) (c.forms k) (is.forms k in_range)

  pub bad_inode_is : (k : ℕ) → IsInode g k → is_bad_inode g image k ≡ (k == 1 && not ((c.forms k).kind == 2))
  bad_inode_is k in_range = ap (is_bad_form k) (is.forms k in_range)

  pub forms_read : (c.forms 1).kind ≡ 2 → (k : ℕ) → IsInode g k → is_bad_inode g image k ≡ false
  forms_read root k in_range = bad_inode_is k in_range ∙ bad_root k (c.forms k).kind (λ e. ap (λ n. (c.forms n).kind) e ∙ root)

  pub root_read : IsInode g 1 → is_bad_inode g image 1 ≡ false → (c.forms 1).kind ≡ 2
  root_read in_range e = let t : not ((c.forms 1).kind == 2) ≡ false = sym (bad_inode_is 1 in_range) ∙ e in grind (arith, nat_tests, t)

  extents_part : (k : ℕ) → IsInode g k → is_bad_inode g image k ≡ false → is_bad_extent g image k ≡ list_any (leaves_data g) (c.forms k).extents
  extents_part k in_range good = (λ i. not (good i) && list_any (leaves_data g) (form_is g image c is k in_range i).extents)

  pub extents_read : (k : ℕ) → IsInode g k → is_bad_inode g image k ≡ false → AllByRecursion (IsInData g) (c.forms k).extents → is_bad_extent g image k ≡ false
  extents_read k in_range good all = extents_part k in_range good ∙ none_leaves g (c.forms k).extents all

  pub extents_stay : (k : ℕ) → IsInode g k → is_bad_inode g image k ≡ false → is_bad_extent g image k ≡ false → AllByRecursion (IsInData g) (c.forms k).extents
  extents_stay k in_range good none = all_stay g (c.forms k).extents (sym (extents_part k in_range good) ∙ none)

  pub unused_form : (k : ℕ) → IsInode g k → is_used (c.forms k) ≡ false → ((c.forms k).extents ≡ []) × ((c.forms k).size ≡ 0)
  unused_form k in_range free = free_form (c.forms k) (inode_form k in_range) (grind (arith, nat_tests, free))

  module _ (read : AreRead g image) where
    pub node_is : (k : ℕ) → IsInode g k → sound_node g image k ≡ some_if (is_used (c.forms k)) (k, c.forms k)
    node_is k in_range = λ i. some_if (not (read.forms k in_range i) && (not (read.extents k in_range i) && is_used (form_is g image c is k in_range i))) (k, form_is g image c is k in_range i)

    -- ---- who holds a block

    abbrev holds : ℕ → ℕ → List ℕ
    holds block k = map (λ b. k) (filter (λ b. b == block) (blocks_of (c.forms k)))

    holders_are : (block : ℕ) → holders (sound_nodes g image) block ≡ flat_map (holds block) (all_inodes g)
    holders_are block = flat_map-filter_map each (sound_node g image) (all_inodes g) ∙ flat_map-same (λ k. by_option each (sound_node g image k)) (holds block) (all_inodes g) (λ k there. one k (inode_in g k there))
      where
        each : Node → List ℕ
        each n = map (λ b. n.0) (filter (λ b. b == block) (blocks_of n.1))

        one : (k : ℕ) → IsInode g k → by_option each (sound_node g image k) ≡ holds block k
        one k in_range = ap (by_option each) (node_is k in_range) ∙ by (is_used (c.forms k)) refl
          where
            by : (b : Bool) → is_used (c.forms k) ≡ b → by_option each (some_if b (k, c.forms k)) ≡ holds block k
            by true e = refl
            by false e = let none : blocks_of (c.forms k) ≡ [] = ap (flat_map (λ (x : Extent). range_with_len x.start x.length)) (unused_form k in_range e).0 in sym (ap (λ bs. map (λ b. k) (filter (λ b. b == block) bs)) none)

    same_block : (b block : ℕ) → (b == block) ≡ true → b ≡ block
    same_block b block e = grind (arith, nat_tests, e)

    test_block : (b block : ℕ) → b ≡ block → (b == block) ≡ true
    test_block b block e = grind (arith, nat_tests, e)

    from_holds : (block k x : ℕ) → IsInode g k → IsIn x (holds block k) → (p : ℕ) × HasBlock g c k p block
    from_holds block k x in_range is_in =
        let from = from_map (λ b. k) (filter (λ b. b == block) (blocks_of (c.forms k))) x is_in in
        let kept = from_filter (λ b. b == block) (blocks_of (c.forms k)) from.0 from.1 in
        let at = place_of_in from.0 (blocks_of (c.forms k)) kept.0 in
        (at.0, record { in_range = in_range; there = at.1 ∙ ap Some (same_block from.0 block kept.1) })

    pub few_holders : (block : ℕ) → ((i j p q : ℕ) → HasBlock g c i p block → HasBlock g c j q block → (i ≡ j) × (p ≡ q)) → length (holders (sound_nodes g image) block) ≤ 1
    few_holders block once = subst (λ hs. length hs ≤ 1) (sym (holders_are block)) (few_flat_map (holds block) 1 g.inodes each one)
      where
        within : (k : ℕ) → 1 ≤ k → k < 1 + g.inodes → IsInode g k
        within k from under = record { from_one = from; within = omega (arith, under) }

        each : (k : ℕ) → 1 ≤ k → k < 1 + g.inodes → length (holds block k) ≤ 1
        each k from under =
            let few : length (filter (λ b. b == block) (blocks_of (c.forms k))) ≤ 1 = few_filter (λ b. b == block) (blocks_of (c.forms k)) (λ p q x y at there is_x is_y.
            (once k k p q (record { in_range = within k from under; there = at ∙ ap Some (same_block x block is_x) }) (record { in_range = within k from under; there = there ∙ ap Some (same_block y block is_y) })).1) in
            let size : length (holds block k) ≡ length (filter (λ b. b == block) (blocks_of (c.forms k))) = length-map (filter (λ b. b == block) (blocks_of (c.forms k))) (λ b. k) in
            omega (arith, few, size)

        one : (k l x y : ℕ) → 1 ≤ k → k < 1 + g.inodes → 1 ≤ l → l < 1 + g.inodes → IsIn x (holds block k) → IsIn y (holds block l) → k ≡ l
        one k l x y fk uk fl ul here there =
            let a = from_holds block k x (within k fk uk) here in
            let b = from_holds block l y (within l fl ul) there in
            (once k l a.0 b.0 a.1 b.1).0

    in_holds : (block k p : ℕ) → HasBlock g c k p block → IsIn k (holds block k)
    in_holds block k p has = in_map (λ b. k) (filter (λ b. b == block) (blocks_of (c.forms k))) block (in_filter (λ b. b == block) (blocks_of (c.forms k)) block (in_at_place block (blocks_of (c.forms k)) p has.there) (test_block block block refl))

    pub holders_few : (block : ℕ) → length (holders (sound_nodes g image) block) ≤ 1 → (i j p q : ℕ) → HasBlock g c i p block → HasBlock g c j q block → (i ≡ j) × (p ≡ q)
    holders_few block few i j p q a b =
        let here : length (flat_map (holds block) (all_inodes g)) ≤ 1 = subst (λ hs. length hs ≤ 1) (holders_are block) few in
        let same : i ≡ j = flat_map_one (holds block) 1 g.inodes here i j i j (in_inodes g i a.in_range) (in_inodes g j b.in_range) (in_holds block i p a) (in_holds block j q b) in
        let most = flat_map_each (holds block) 1 g.inodes here i (in_inodes g i a.in_range) in
        let size : length (holds block i) ≡ length (filter (λ n. n == block) (blocks_of (c.forms i))) = length-map (filter (λ n. n == block) (blocks_of (c.forms i))) (λ n. i) in
        (same, filter_few (λ n. n == block) (blocks_of (c.forms i)) (omega (arith, most, size)) p q block block a.there (ap (λ k. slice_get (blocks_of (c.forms k)) q) same ∙ b.there) (test_block block block refl) (test_block block block refl))

    -- ---- sizes

    -- the used inodes are the nodes
    pub in_nodes : (k : ℕ) → IsInode g k → is_used (c.forms k) ≡ true → IsIn {X = Node} (k, c.forms k) (sound_nodes g image)
    in_nodes k in_range used = in_filter_map (sound_node g image) (all_inodes g) k (k, c.forms k) (in_inodes g k in_range) (node_is k in_range ∙ ap (λ b. some_if b (k, c.forms k)) used)

    pub from_nodes : (n : Node) → IsIn n (sound_nodes g image) → IsInode g n.0 × (n.1 ≡ c.forms n.0) × (is_used (c.forms n.0) ≡ true)
    from_nodes n there =
        let from = from_filter_map (sound_node g image) (all_inodes g) n there in
        let in_range = inode_in g from.0 from.1 in
        let parts = some_if-some (is_used (c.forms from.0)) (from.0, c.forms from.0) n (sym (node_is from.0 in_range) ∙ from.2) in
        let number : from.0 ≡ n.0 = ap (λ (m : Node). m.0) parts.1 in
        (subst (IsInode g) number in_range, sym (ap (λ (m : Node). m.1) parts.1) ∙ ap c.forms number, sym (ap (λ k. is_used (c.forms k)) number) ∙ parts.0)

    not_short : (form : InodeForm) → form.size ≤ 4096 * length (blocks_of form) → (form.kind ≡ 2 → form.size ≡ 4096 * length (blocks_of form)) → is_short form ≡ false
    not_short form room whole = by (form.kind == 2) refl
      where
        by : (b : Bool) → (form.kind == 2) ≡ b → (if b then not (form.size == 4096 * length (blocks_of form)) else nat_lt (4096 * length (blocks_of form)) form.size) ≡ false
        by true e = let size = whole (grind (arith, nat_tests, e)) in grind (arith, nat_tests, size)
        by false e = grind (arith, nat_tests, room)

    short_not : (form : InodeForm) → is_short form ≡ false → (form.size ≤ 4096 * length (blocks_of form)) × (form.kind ≡ 2 → form.size ≡ 4096 * length (blocks_of form))
    short_not form none = by (form.kind == 2) refl none
      where
        by : (b : Bool) → (form.kind == 2) ≡ b → (if b then not (form.size == 4096 * length (blocks_of form)) else nat_lt (4096 * length (blocks_of form)) form.size) ≡ false
            → (form.size ≤ 4096 * length (blocks_of form)) × (form.kind ≡ 2 → form.size ≡ 4096 * length (blocks_of form))
        by true e t = let size : form.size ≡ 4096 * length (blocks_of form) = grind (arith, nat_tests, t) in (omega (arith, size), λ dir. size)
        by false e t = (grind (arith, nat_tests, t), λ dir. absurd (let yes : (form.kind == 2) ≡ true = ap (λ k. k == 2) dir in let no = sym e ∙ yes in cc))

    pub none_short : ((k : ℕ) → IsInode g k → (c.forms k).size ≤ 4096 * length (blocks_of (c.forms k)))
        → ((k : ℕ) → IsInode g k → (c.forms k).kind ≡ 2 → (c.forms k).size ≡ 4096 * length (blocks_of (c.forms k)))
        → filter (λ (n : Node). is_short n.1) (sound_nodes g image) ≡ []
    none_short room whole = empty_filter (λ (n : Node). is_short n.1) (sound_nodes g image) (λ n there. let from = from_nodes n there in ap is_short from.1 ∙ not_short (c.forms n.0) (room n.0 from.0) (whole n.0 from.0))

    pub short_none : filter (λ (n : Node). is_short n.1) (sound_nodes g image) ≡ [] → (k : ℕ) → IsInode g k
        → ((c.forms k).size ≤ 4096 * length (blocks_of (c.forms k))) × ((c.forms k).kind ≡ 2 → (c.forms k).size ≡ 4096 * length (blocks_of (c.forms k)))
    short_none none k in_range = by (is_used (c.forms k)) refl
      where
        by : (b : Bool) → is_used (c.forms k) ≡ b → ((c.forms k).size ≤ 4096 * length (blocks_of (c.forms k))) × ((c.forms k).kind ≡ 2 → (c.forms k).size ≡ 4096 * length (blocks_of (c.forms k)))
        by true e = short_not (c.forms k) (filter_empty (λ (n : Node). is_short n.1) (sound_nodes g image) none (k, c.forms k) (in_nodes k in_range e))
        by false e = let size = (unused_form k in_range e).1 in (omega (arith, size), λ dir. absurd (let yes : is_used (c.forms k) ≡ true = ap (λ n. not (n == 0)) dir in let no = sym e ∙ yes in cc))
