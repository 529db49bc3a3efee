-- Names in the directories of a sound catalog, and walks through them.
use Rattle.std.proofs.Common.{◌≡◌, ℕ, ◌+◌, List, [], ◌∷◌, ◌++◌, true, length, Option, Some, None, ap, sym, refl, ◌∙◌, subst, arith}
use Rattle.std.specs.Option.{option_map}
use Rattle.std.specs.List.{find, slice_get}
use Rattle.std.specs.Str.{bytes_eq}
use Rattle.std.proofs.lemmas.Bool.{and_parts}
use Rattle.std.proofs.lemmas.Slice.Eq.{bytes_eq-Decides}
use Rattle.ufs_layout.specs.DentryForm.{DentryForm, is_named}
use Rattle.ufs_layout.specs.declared.geometry.Geometry.{Geometry}
use Rattle.ufs_image.specs.Catalog.{Catalog, IsInode, slots_in}
use Rattle.ufs_image.specs.Sound.{IsSoundCatalog, HasDentry}
use Rattle.ufs_image.specs.Walks.{has_name, child_of, step, walk_from, is_piece, ArePieces}
use Rattle.ufs_image.proofs.Lists.{found-some, find-only}
use Rattle.ufs_image.proofs.Texts.{plain-piece}

pub option_map-some : {A B : Type 0} (f : A → B) (o : Option A) (y : B) → option_map f o ≡ Some y → (x : A) × (o ≡ Some x) × (f x ≡ y)
option_map-some f None y e = cc
option_map-some f (Some x) y e = (x, refl, cc)

pub same_some : {A : Type 0} (x y : A) → Some x ≡ Some y → x ≡ y
same_some x y e = cc

-- a dentry that stands for a name
pub record Names (g : Geometry) (c : Catalog) (dir : ℕ) (name : List ℕ) (inode : ℕ) : Type 0 where
  pub place : ℕ
  pub dentry : DentryForm
  pub has : HasDentry g c dir place dentry
  pub name_is : dentry.name ≡ name
  pub inode_is : dentry.inode ≡ inode

has-name : (name : List ℕ) (d : DentryForm) → has_name name d ≡ true → (is_named d ≡ true) × (d.name ≡ name)
has-name name d e = let parts = and_parts (is_named d) (bytes_eq d.name name) e in (parts.0, (bytes_eq-Decides d.name name).0 parts.1)

name-has : (name : List ℕ) (d : DentryForm) → is_named d ≡ true → d.name ≡ name → has_name name d ≡ true
name-has name d is e = let same = (bytes_eq-Decides d.name name).1 e in rw (is, same) refl

module _ (c : Catalog) where
  pub walk_none : (names : List (List ℕ)) → walk_from c None names ≡ None
  walk_none [] = refl
  walk_none (name ∷ names) = walk_none names

  pub walk-append : (at : Option ℕ) (xs ys : List (List ℕ)) → walk_from c at (xs ++ ys) ≡ walk_from c (walk_from c at xs) ys
  walk-append at [] ys = refl
  walk-append at (x ∷ xs) ys = walk-append (step c at x) xs ys

  pub step-some : (o : Option ℕ) (name : List ℕ) (i : ℕ) → step c o name ≡ Some i → (p : ℕ) × (o ≡ Some p) × (child_of c p name ≡ Some i)
  step-some None name i e = cc
  step-some (Some p) name i e = (p, refl, e)

  -- a walk that meets something took each step
  pub first_step : (o : Option ℕ) (names : List (List ℕ)) (i : ℕ) → walk_from c o names ≡ Some i → (p : ℕ) × (o ≡ Some p)
  first_step None names i e = let none = walk_none names in let no : None ≡ Some i = sym none ∙ e in cc
  first_step (Some p) names i e = (p, refl)

  -- what a walk along names meets that are given last first
  abbrev pub back : List (List ℕ) → Option ℕ
  back [] = Some 1
  back (name ∷ names) = step c (back names) name

  abbrev pub turned : List (List ℕ) → List (List ℕ) → List (List ℕ)
  turned [] onto = onto
  turned (name ∷ names) onto = turned names (name ∷ onto)

  pub walk-back : (names onto : List (List ℕ)) → walk_from c (back onto) names ≡ back (turned names onto)
  walk-back [] onto = refl
  walk-back (name ∷ names) onto = walk-back names (name ∷ onto)

  pub length-turned : (names onto : List (List ℕ)) → length (turned names onto) ≡ length names + length onto
  length-turned [] onto = omega arith
  length-turned (name ∷ names) onto = let rest = length-turned names (name ∷ onto) in omega (arith, rest)

  -- turned lists are one where the lists are
  pub same_turned : (xs ys onto over : List (List ℕ)) → length xs ≡ length ys → turned xs onto ≡ turned ys over → (xs ≡ ys) × (onto ≡ over)
  same_turned [] [] onto over l e = (refl, e)
  same_turned [] (y ∷ ys) onto over l e = absurd (omega (arith, l))
  same_turned (x ∷ xs) [] onto over l e = absurd (omega (arith, l))
  same_turned (x ∷ xs) (y ∷ ys) onto over l e =
      let rest = same_turned xs ys (x ∷ onto) (y ∷ over) (omega (arith, l)) e in
      let head : x ≡ y = let is = rest.1 in cc in
      let tail : onto ≡ over = let is = rest.1 in cc in
      ((λ i. head i ∷ rest.0 i), tail)

module _ (g : Geometry) (c : Catalog) (sound : IsSoundCatalog g c) where
  -- ---- one name

  pub child-some : (dir : ℕ) (name : List ℕ) (inode : ℕ) → IsInode g dir → child_of c dir name ≡ Some inode → Names g c dir name inode
  child-some dir name inode in_range e =
      let there = option_map-some (λ (d : DentryForm). d.inode) (find (has_name name) (slots_in c dir)) inode e in
      let at = found-some (has_name name) (slots_in c dir) there.0 there.1 in
      let is = has-name name there.0 at.2 in
      record { place = at.0; dentry = there.0; has = record { in_range = in_range; there = at.1; named = is.0 }; name_is = is.1; inode_is = there.2 }

  pub found : (dir place : ℕ) (d : DentryForm) → HasDentry g c dir place d → find (has_name d.name) (slots_in c dir) ≡ Some d
  found dir place d has = find-only (has_name d.name) (slots_in c dir) place d has.there (name-has d.name d has.named refl) only
    where
      only : (k : ℕ) (e : DentryForm) → slice_get (slots_in c dir) k ≡ Some e → has_name d.name e ≡ true → k ≡ place
      only k e at is = let parts = has-name d.name e is in sound.names_once dir k place e d (record { in_range = has.in_range; there = at; named = parts.0 }) has parts.1

  pub child_is : (dir place : ℕ) (d : DentryForm) → HasDentry g c dir place d → child_of c dir d.name ≡ Some d.inode
  child_is dir place d has = ap (option_map (λ (e : DentryForm). e.inode)) (found dir place d has)

  -- what a name names is an inode
  pub names_inode : (dir : ℕ) (name : List ℕ) (inode : ℕ) → Names g c dir name inode → IsInode g inode
  names_inode dir name inode names = subst (IsInode g) names.inode_is (sound.fit dir names.place names.dentry names.has).in_range

  -- the name is a piece of a path
  pub names_piece : (dir : ℕ) (name : List ℕ) (inode : ℕ) → Names g c dir name inode → is_piece name ≡ true
  names_piece dir name inode names = subst (λ n. is_piece n ≡ true) names.name_is (plain-piece names.dentry.name names.has.named (sound.fit dir names.place names.dentry names.has).plain)

  -- ---- walks

  pub reached : (at : ℕ) (names : List (List ℕ)) (i : ℕ) → IsInode g at → walk_from c (Some at) names ≡ Some i → IsInode g i × ArePieces names
  reached at [] i in_range e = (subst (IsInode g) (same_some at i e) in_range, tt)
  reached at (name ∷ names) i in_range e =
      let next = first_step c (child_of c at name) names i e in
      let named = child-some at name next.0 in_range next.1 in
      let rest = reached next.0 names i (names_inode at name next.0 named) (ap (λ o. walk_from c o names) (sym next.1) ∙ e) in
      (rest.0, (names_piece at name next.0 named, rest.1))
