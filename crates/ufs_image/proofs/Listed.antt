-- The names that the walk of an image lists are those of its catalog.
use Rattle.std.proofs.Common.{◌≡◌, ℕ, zero, suc, ◌+◌, inl, inr, List, [], ◌∷◌, ◌++◌, Bool, true, false, cond, Some, map, unwrap_or, ap, sym, refl, ◌∙◌, subst, arith}
use Rattle.std.specs.Prelude.{flat_map, filter, ◌==◌, if◌then◌else◌}
use Rattle.std.specs.List.{slice_get, enumerate_from, cons_option}
use Rattle.std.proofs.lemmas.Bool.Decides.{nat_tests}
use Rattle.std.proofs.lemmas.List.{map-append}
use Rattle.ufs_base.specs.Choices.{some_if}
use Rattle.ufs_layout.specs.InodeForm.{free_inode}
use Rattle.ufs_layout.specs.DentryForm.{DentryForm, is_named}
use Rattle.ufs_base.specs.Images.{Image}
use Rattle.ufs_image.specs.Images.{form_at}
use Rattle.ufs_image.specs.Nodes.{NamedSlot, blocks_of, slots_of, names_of}
use Rattle.ufs_image.specs.Opens.{names_in}
use Rattle.ufs_layout.specs.declared.geometry.Geometry.{Geometry}
use Rattle.ufs_image.specs.Catalog.{Catalog, IsInode, IsCatalogOf, slots_in}
use Rattle.ufs_image.specs.Nodes.{read_block}
use Rattle.ufs_image.specs.Sound.{HasDentry}
use Rattle.ufs_image.proofs.Lists.{IsIn, flat_map-same, in_filter, from_filter, in_enumerated, from_enumerated}

-- what is in a list stands at a place
pub place_of_in : {X : Type 0} (x : X) (xs : List X) → IsIn x xs → (place : ℕ) × (slice_get xs place ≡ Some x)
place_of_in x [] is = absurd is
place_of_in x (y ∷ xs) (inl e) = (0, ap Some (sym e))
place_of_in x (y ∷ xs) (inr is) = let rest = place_of_in x xs is in (suc rest.0, rest.1)

pub in_at_place : {X : Type 0} (x : X) (xs : List X) (place : ℕ) → slice_get xs place ≡ Some x → IsIn x xs
in_at_place x [] place e = cc
in_at_place x (y ∷ xs) zero e = inl cc
in_at_place x (y ∷ xs) (suc place) e = inr (in_at_place x xs place e)

pub map-flat_map : {X Y Z : Type 0} (f : Y → Z) (h : X → List Y) (xs : List X) → flat_map (λ x. map f (h x)) xs ≡ map f (flat_map h xs)
map-flat_map f h [] = refl
map-flat_map f h (x ∷ xs) = ap (λ zs. map f (h x) ++ zs) (map-flat_map f h xs) ∙ sym (map-append f (h x) (flat_map h xs))

-- the used ones of these slots, each with its place
abbrev pub used : ℕ → List DentryForm → List NamedSlot
used n ds = filter (λ (s : NamedSlot). is_named s.1) (enumerate_from n ds)

pub names_of-used : (inode n : ℕ) (ds : List DentryForm) → names_of (record { inode = inode; slots = enumerate_from n (map Some ds) }) ≡ used n ds
names_of-used inode n [] = refl
names_of-used inode n (d ∷ ds) = by (is_named d) ∙ ap (λ rest. cond (is_named d) ((n, d) ∷ rest) rest) (names_of-used inode (n + 1) ds)
  where
    by : (b : Bool) → cons_option (some_if b (n, d)) (names_of (record { inode = inode; slots = enumerate_from (n + 1) (map Some ds) })) ≡ cond b ((n, d) ∷ names_of (record { inode = inode; slots = enumerate_from (n + 1) (map Some ds) })) (names_of (record { inode = inode; slots = enumerate_from (n + 1) (map Some ds) }))
    by true = refl
    by false = refl

module _ (g : Geometry) (c : Catalog) where
  pub in_used : (inode place : ℕ) (d : DentryForm) → HasDentry g c inode place d → IsIn (place, d) (used 0 (slots_in c inode))
  in_used inode place d has =
      let there : IsIn (0 + place, d) (enumerate_from 0 (slots_in c inode)) = in_enumerated 0 (slots_in c inode) place d has.there in
      let zero_on : 0 + place ≡ place = omega arith in
      in_filter (λ (s : NamedSlot). is_named s.1) (enumerate_from 0 (slots_in c inode)) (place, d) (subst (λ k. IsIn (k, d) (enumerate_from 0 (slots_in c inode))) zero_on there) has.named

  pub from_used : (inode place : ℕ) (d : DentryForm) → IsInode g inode → IsIn (place, d) (used 0 (slots_in c inode)) → HasDentry g c inode place d
  from_used inode place d in_range there =
      let kept = from_filter (λ (s : NamedSlot). is_named s.1) (enumerate_from 0 (slots_in c inode)) (place, d) there in
      let at = from_enumerated 0 (slots_in c inode) place d kept.0 in
      let same : at.0 ≡ place = omega (arith, at.1) in
      record { in_range = in_range; there = subst (λ k. slice_get (slots_in c inode) k ≡ Some d) same at.2; named = kept.1 }

module _ (g : Geometry) (image : Image) (c : Catalog) (is : IsCatalogOf g image c) where
  pub form_is : (inode : ℕ) → IsInode g inode → form_at g image inode ≡ c.forms inode
  form_is inode in_range = ap (λ o. unwrap_or o (free_inode 0)) (is.forms inode in_range)

  pub slots_are : (inode : ℕ) → IsInode g inode → (c.forms inode).kind ≡ 2 → slots_of image (c.forms inode) ≡ enumerate_from 0 (map Some (flat_map c.slots (blocks_of (c.forms inode))))
  slots_are inode in_range dir = ap (enumerate_from 0) (flat_map-same (read_block image) (λ b. map Some (c.slots b)) (blocks_of (c.forms inode)) each ∙ map-flat_map Some c.slots (blocks_of (c.forms inode)))
    where
      each : (b : ℕ) → IsIn b (blocks_of (c.forms inode)) → read_block image b ≡ map Some (c.slots b)
      each b there = let at = place_of_in b (blocks_of (c.forms inode)) there in is.slots b (record { inode = inode; place = at.0; has = record { in_range = in_range; there = at.1 }; dir = dir })

  -- the names that are listed
  pub names_are : (inode : ℕ) → IsInode g inode → names_in image inode (form_at g image inode) ≡ used 0 (slots_in c inode)
  names_are inode in_range = ap (names_in image inode) (form_is inode in_range) ∙ by ((c.forms inode).kind == 2) refl
    where
      by : (b : Bool) → ((c.forms inode).kind == 2) ≡ b
          → names_of (record { inode = inode; slots = if b then slots_of image (c.forms inode) else [] }) ≡ used 0 (if b then flat_map c.slots (blocks_of (c.forms inode)) else [])
      by true e = ap (λ slots. names_of (record { inode = inode; slots = slots })) (slots_are inode in_range (grind (arith, nat_tests, e))) ∙ names_of-used inode 0 (flat_map c.slots (blocks_of (c.forms inode)))
      by false e = refl

  pub listed : (inode place : ℕ) (d : DentryForm) → HasDentry g c inode place d → IsIn (place, d) (names_in image inode (form_at g image inode))
  listed inode place d has = subst (IsIn (place, d)) (sym (names_are inode has.in_range)) (in_used g c inode place d has)

  pub is_listed : (inode place : ℕ) (d : DentryForm) → IsInode g inode → IsIn (place, d) (names_in image inode (form_at g image inode)) → HasDentry g c inode place d
  is_listed inode place d in_range there = from_used g c inode place d in_range (subst (IsIn (place, d)) (names_are inode in_range) there)
