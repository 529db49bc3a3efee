-- The bitmap of a clean image, by its catalog.
use Rattle.std.proofs.Common.{◌≡◌, ℕ, ◌*◌, ◌<◌, inl, inr, List, [], ◌∷◌, Bool, true, false, Some, map, ap, sym, refl, ◌∙◌, arith}
use Rattle.std.specs.Prelude.{flat_map, nat_lt, not, ◌==◌, ◌||◌, if◌then◌else◌}
use Rattle.std.specs.List.{list_any, range_with_len, slice_get}
use Rattle.std.proofs.lemmas.Bool.Decides.{nat_tests}
use Rattle.ufs_layout.specs.Areas.{first_of_data, bitmap_blocks}
use Rattle.ufs_layout.specs.InodeForm.{is_used}
use Rattle.ufs_base.specs.Images.{Image}
use Rattle.ufs_image.specs.Nodes.{Node, sound_nodes, blocks_of, is_taken}
use Rattle.ufs_image.specs.Damage.{BitmapDiffers, tree_damage, damage, is_marked, same_bool, all_bits, differing}
use Rattle.ufs_layout.specs.declared.geometry.Geometry.{Geometry}
use Rattle.ufs_layout.specs.declared.inode.Extent.{Extent}
use Rattle.ufs_image.specs.Catalog.{Catalog, HasBlock, IsCatalogOf}
use Rattle.ufs_image.specs.Sound.{IsSoundCatalog}
use Rattle.ufs_image.specs.Changes.{IsTakenBlock}
use Rattle.ufs_image.proofs.Lists.{IsIn}
use Rattle.ufs_image.proofs.Listed.{place_of_in, in_at_place}
use Rattle.ufs_image.proofs.Empty.{empty_filter, from_range, append_empty}
use Rattle.ufs_image.proofs.Holders.{in_nodes, from_nodes, unused_form}
use Rattle.ufs_image.proofs.Whole.{sound_read, sound_whole}

some_passes : {X : Type 0} (p : X → Bool) (xs : List X) (x : X) → IsIn x xs → p x ≡ true → list_any p xs ≡ true
some_passes p [] x is e = absurd is
some_passes p (y ∷ xs) x (inl same) e = ap (λ b. b || list_any p xs) (ap p (sym same) ∙ e)
some_passes {X} p (y ∷ xs) x (inr is) e = by (p y) (some_passes p xs x is e)
  where
    by : (b : Bool) → list_any p xs ≡ true → (b || list_any p xs) ≡ true
    by true more = refl
    by false more = more

one_passes : {X : Type 0} (p : X → Bool) (xs : List X) → list_any p xs ≡ true → (x : X) × IsIn x xs × (p x ≡ true)
one_passes p [] e = let no = e in cc
one_passes {X} p (y ∷ xs) e = by (p y) refl e (one_passes p xs)
  where
    by : (b : Bool) → p y ≡ b → (b || list_any p xs) ≡ true → (list_any p xs ≡ true → (x : X) × IsIn x xs × (p x ≡ true)) → (x : X) × IsIn x (y ∷ xs) × (p x ≡ true)
    by true t e more = (y, inl refl, t)
    by false t e more = let rest = more e in (rest.0, inr rest.1, rest.2)

module _ (g : Geometry) (image : Image) (c : Catalog) (is : IsCatalogOf g image c) (sound : IsSoundCatalog g c) where
  -- who holds a block is used
  used : (k p b : ℕ) → HasBlock g c k p b → is_used (c.forms k) ≡ true
  used k p b has = by (is_used (c.forms k)) refl
    where
      by : (t : Bool) → is_used (c.forms k) ≡ t → is_used (c.forms k) ≡ true
      by true e = e
      by false e = let none : blocks_of (c.forms k) ≡ [] = ap (flat_map (λ (e : Extent). range_with_len e.start e.length)) (unused_form g image c is k has.in_range e).0 in let no = sym (ap (λ bs. slice_get bs p) none) ∙ has.there in absurd cc

  pub taken_is : (b : ℕ) → is_taken g (sound_nodes g image) b ≡ true → IsTakenBlock g c b
  taken_is b = by (nat_lt b (first_of_data g)) refl
    where
      by : (t : Bool) → nat_lt b (first_of_data g) ≡ t → (if t then true else list_any (λ (n : Node). list_any (λ k. k == b) (blocks_of n.1)) (sound_nodes g image)) ≡ true → IsTakenBlock g c b
      by true t e = inl (grind (arith, nat_tests, t))
      by false t e =
          let node = one_passes (λ (n : Node). list_any (λ k. k == b) (blocks_of n.1)) (sound_nodes g image) e in
          let at = one_passes (λ k. k == b) (blocks_of node.0.1) node.2 in
          let from = from_nodes g image c is (sound_read g image c is sound) node.0 node.1 in
          let same : at.0 ≡ b = let t = at.2 in grind (arith, nat_tests, t) in
          let place = place_of_in at.0 (blocks_of node.0.1) at.1 in
          inr (node.0.0, place.0, record { in_range = from.0; there = ap (λ f. slice_get (blocks_of f) place.0) (sym from.1) ∙ place.1 ∙ ap Some same })

  pub is_taken_block : (b : ℕ) → IsTakenBlock g c b → is_taken g (sound_nodes g image) b ≡ true
  is_taken_block b (inl low) = let t : nat_lt b (first_of_data g) ≡ true = grind (arith, nat_tests, low) in ap (λ t. if t then true else list_any (λ (n : Node). list_any (λ k. k == b) (blocks_of n.1)) (sound_nodes g image)) t
  is_taken_block b (inr held) = by (nat_lt b (first_of_data g))
    where
      node : list_any (λ (n : Node). list_any (λ k. k == b) (blocks_of n.1)) (sound_nodes g image) ≡ true
      node = some_passes (λ (n : Node). list_any (λ k. k == b) (blocks_of n.1)) (sound_nodes g image) (held.0, c.forms held.0) (in_nodes g image c is (sound_read g image c is sound) held.0 held.2.in_range (used held.0 held.1 b held.2))
          (some_passes (λ k. k == b) (blocks_of (c.forms held.0)) b (in_at_place b (blocks_of (c.forms held.0)) held.1 held.2.there) (grind (arith, nat_tests)))

      by : (t : Bool) → (if t then true else list_any (λ (n : Node). list_any (λ k. k == b) (blocks_of n.1)) (sound_nodes g image)) ≡ true
      by true = refl
      by false = node

  same_bits : (x y : Bool) → (x ≡ true → y ≡ true) → (y ≡ true → x ≡ true) → not (same_bool x y) ≡ false
  same_bits true true f h = refl
  same_bits true false f h = let no = f refl in cc
  same_bits false true f h = let no = h refl in cc
  same_bits false false f h = refl

  pub marks_whole : ((b : ℕ) → b < 32768 * bitmap_blocks g → is_marked image b ≡ true → IsTakenBlock g c b) → ((b : ℕ) → b < 32768 * bitmap_blocks g → IsTakenBlock g c b → is_marked image b ≡ true) → damage true g image ≡ []
  marks_whole marked taken = append_empty (tree_damage g image) (map BitmapDiffers (differing g image (sound_nodes g image) (all_bits g))) (sound_whole g image c is sound)
      (ap (map BitmapDiffers) (empty_filter (λ b. not (same_bool (is_marked image b) (is_taken g (sound_nodes g image) b))) (all_bits g) (λ b there.
      let under = (from_range 0 (32768 * bitmap_blocks g) b there).1 in
      let less : b < 32768 * bitmap_blocks g = omega (arith, under) in
      same_bits (is_marked image b) (is_taken g (sound_nodes g image) b) (λ e. is_taken_block b (marked b less e)) (λ e. taken b less (taken_is b e)))))
