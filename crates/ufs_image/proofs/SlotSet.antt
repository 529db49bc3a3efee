-- A dentry is set: what stands then in the slots of each inode.
use Rattle.std.proofs.Common.{◌≡◌, ◌≢◌, ℕ, zero, suc, ◌+◌, ◌*◌, ◌-◌, ◌/◌, ◌%◌, ◌<◌, inl, inr, List, [], ◌∷◌, ◌++◌, length, set, Some, true, false, ap, sym, refl, ◌∙◌, arith}
use Rattle.std.specs.Prelude.{flat_map, ◌==◌, if◌then◌else◌, slice_set}
use Rattle.std.specs.List.{slice_get}
use Rattle.std.proofs.lemmas.List.{set-append_left, set-append_right}
use Rattle.std.proofs.lemmas.Bool.Decides.{nat_tests}
use Rattle.ufs_layout.specs.DentryForm.{DentryForm}
use Rattle.ufs_image.specs.Nodes.{blocks_of}
use Rattle.ufs_layout.specs.declared.geometry.Geometry.{Geometry}
use Rattle.ufs_image.specs.Catalog.{Catalog, IsInode, HasBlock, slots_in}
use Rattle.ufs_image.specs.Sound.{IsSoundCatalog}
use Rattle.ufs_image.specs.Folding.{with_dentry}
use Rattle.ufs_image.proofs.Lists.{IsIn, flat_map-same}
use Rattle.ufs_image.proofs.Listed.{place_of_in}
use Rattle.ufs_image.proofs.Empty.{false_if_not}

module _ {X : Type 0} (f : ℕ → List X) (block k : ℕ) (v : X) where
  abbrev changed : ℕ → List X
  changed b = if b == block then set (f b) k v else f b

  other_block : (b : ℕ) → b ≢ block → changed b ≡ f b
  other_block b apart = let t : (b == block) ≡ false = false_if_not (b == block) (λ e. apart (grind (arith, nat_tests, e))) in ap (λ c. if c then set (f b) k v else f b) t

  pub untouched : (bs : List ℕ) → ((p : ℕ) → slice_get bs p ≢ Some block) → flat_map changed bs ≡ flat_map f bs
  untouched bs none = flat_map-same changed f bs (λ b is. other_block b (λ e. let at = place_of_in b bs is in none at.0 (at.1 ∙ ap Some e)))

  pub touched : (bs : List ℕ) (i : ℕ) → slice_get bs i ≡ Some block → ((p : ℕ) → slice_get bs p ≡ Some block → p ≡ i) → ((b : ℕ) → IsIn b bs → length (f b) ≡ 64) → k < 64 → flat_map changed bs ≡ set (flat_map f bs) (64 * i + k) v
  touched [] i at only each less = let no = at in cc
  touched (b ∷ bs) zero at only each less =
      let same : b ≡ block = cc in
      let size = each b (inl refl) in
      let t : (b == block) ≡ true = grind (arith, nat_tests, same) in
      let first : changed b ≡ set (f b) k v = ap (λ c. if c then set (f b) k v else f b) t in
      let rest : flat_map changed bs ≡ flat_map f bs = untouched bs (λ p e. let no = only (suc p) e in omega (arith, no)) in
      let place : 64 * 0 + k ≡ k = omega arith in
      (λ j. first j ++ rest j) ∙ sym (set-append_left (f b) (flat_map f bs) k v (omega (arith, size, less))) ∙ ap (λ m. set (f b ++ flat_map f bs) m v) (sym place)
  touched (b ∷ bs) (suc i) at only each less =
      let first : changed b ≡ f b = other_block b (λ e. let no = only 0 (ap Some e) in omega (arith, no)) in
      let rest : flat_map changed bs ≡ set (flat_map f bs) (64 * i + k) v = touched bs i at (λ p e. let more = only (suc p) e in omega (arith, more)) (λ x is. each x (inr is)) less in
      let place : 64 * suc i + k - 64 ≡ 64 * i + k = omega arith in
      (λ j. first j ++ rest j) ∙ ap (λ m. f b ++ set (flat_map f bs) m v) (sym place) ∙ sym (set-append_right (f b) (flat_map f bs) 64 (64 * suc i + k) v (each b (inl refl)) (omega arith))

module _ (g : Geometry) (c : Catalog) (sound : IsSoundCatalog g c) (sector slot : ℕ) (d : DentryForm) (less : slot < 8) where
  -- the directory of the slot
  pub set_here : (dir i : ℕ) → HasBlock g c dir i (sector / 8) → (c.forms dir).kind ≡ 2 → ((b p : ℕ) → HasBlock g c dir p b → length (c.slots b) ≡ 64)
      → slots_in (with_dentry sector slot d c) dir ≡ slice_set (slots_in c dir) (64 * i + 8 * (sector % 8) + slot) d
  set_here dir i has kind sized =
      let t : ((c.forms dir).kind == 2) ≡ true = grind (arith, nat_tests, kind) in
      let place : 64 * i + (8 * (sector % 8) + slot) ≡ 64 * i + 8 * (sector % 8) + slot = omega arith in
      let rows = touched c.slots (sector / 8) (8 * (sector % 8) + slot) d (blocks_of (c.forms dir)) i has.there
      (λ p e. (sound.blocks_once dir dir p i (sector / 8) (record { in_range = has.in_range; there = e }) has).1)
      (λ b is. let at = place_of_in b (blocks_of (c.forms dir)) is in sized b at.0 (record { in_range = has.in_range; there = at.1 })) (omega (arith, less)) in
      ap (λ b. if b then flat_map (changed c.slots (sector / 8) (8 * (sector % 8) + slot) d) (blocks_of (c.forms dir)) else []) t
      ∙ rows ∙ ap (λ m. set (flat_map c.slots (blocks_of (c.forms dir))) m d) place
      ∙ ap (λ b. set (if b then flat_map c.slots (blocks_of (c.forms dir)) else []) (64 * i + 8 * (sector % 8) + slot) d) (sym t)

  -- all others
  pub set_else : (dir : ℕ) → ((p : ℕ) → slice_get (blocks_of (c.forms dir)) p ≢ Some (sector / 8)) → slots_in (with_dentry sector slot d c) dir ≡ slots_in c dir
  set_else dir none = ap (λ ys. if (c.forms dir).kind == 2 then ys else []) (untouched c.slots (sector / 8) (8 * (sector % 8) + slot) d (blocks_of (c.forms dir)) none)

  pub set_other : (dir i : ℕ) → HasBlock g c dir i (sector / 8) → (other : ℕ) → IsInode g other → other ≢ dir → slots_in (with_dentry sector slot d c) other ≡ slots_in c other
  set_other dir i has other ranged apart = set_else other (λ p e. apart (sound.blocks_once other dir p i (sector / 8) (record { in_range = ranged; there = e }) has).0)
