-- Each inode is met by one walk, so no walk is longer than there are inodes.
use Rattle.std.proofs.Common.{◌≡◌, ℕ, ◌+◌, ◌<◌, ◌≤◌, inl, inr, List, [], ◌∷◌, Bool, true, false, length, eqb, Option, Some, None, ap, sym, refl, ◌∙◌, subst, arith}
use Rattle.std.specs.Prelude.{◌||◌}
use Rattle.std.specs.List.{slice_get, list_any, AllByRecursion, IsDistinct}
use Rattle.std.proofs.lemmas.Bool.Decides.{nat_tests}
use Rattle.std.proofs.lemmas.Map.Steps.{length-le_from_distinct_below}
use Rattle.ufs_layout.specs.Areas.{IsGeometry}
use Rattle.ufs_layout.specs.DentryForm.{DentryForm}
use Rattle.ufs_layout.specs.declared.geometry.Geometry.{Geometry}
use Rattle.ufs_image.specs.Catalog.{Catalog, IsInode, slots_in}
use Rattle.ufs_image.specs.Sound.{IsSoundCatalog}
use Rattle.ufs_image.specs.Walks.{inode_of}
use Rattle.ufs_image.proofs.Lists.{IsIn}
use Rattle.ufs_image.proofs.Found.{Names, same_some, step-some, back, turned, walk-back, length-turned, same_turned, child-some, names_inode}

-- ---- different numbers

other_number : (k m : ℕ) → (k ≡ m → ⊥) → eqb k m ≡ false
other_number k m not = by (eqb k m) refl
  where
    by : (b : Bool) → eqb k m ≡ b → eqb k m ≡ false
    by true e = absurd (not (grind (arith, nat_tests, e)))
    by false e = e

all_apart : (k : ℕ) (ks : List ℕ) → ((m : ℕ) → IsIn m ks → k ≡ m → ⊥) → AllByRecursion (λ m. eqb k m ≡ false) ks
all_apart k [] apart = tt
all_apart k (m ∷ ks) apart = (other_number k m (apart m (inl refl)), all_apart k ks (λ n is. apart n (inr is)))

number_in : (q : ℕ) (ks : List ℕ) → list_any (eqb q) ks ≡ true → IsIn q ks
number_in q [] e = cc
number_in q (k ∷ ks) e = by (eqb q k) refl e (number_in q ks)
  where
    by : (b : Bool) → eqb q k ≡ b → list_any (eqb q) (k ∷ ks) ≡ true → (list_any (eqb q) ks ≡ true → IsIn q ks) → IsIn q (k ∷ ks)
    by true is e more = inl (grind (arith, nat_tests, is))
    by false is e more = inr (more (ap (λ b. b || list_any (eqb q) ks) (sym is) ∙ e))

-- A geometry has inode 1.
pub has_root : (g : Geometry) → IsGeometry g → 1 ≤ g.inodes
has_root g is = let least = is.least_inodes in omega (arith, least)

module _ (g : Geometry) (c : Catalog) (sound : IsSoundCatalog g c) (some : 1 ≤ g.inodes) where
  pub root_in_range : IsInode g 1
  root_in_range = record { from_one = omega arith; within = some }

  pub met_in_range : (xs : List (List ℕ)) (i : ℕ) → back c xs ≡ Some i → IsInode g i
  met_in_range [] i e = subst (IsInode g) (same_some 1 i e) root_in_range
  met_in_range (x ∷ xs) i e =
      let from = step-some c (back c xs) x i e in
      names_inode g c sound from.0 x i (child-some g c sound from.0 x i (met_in_range xs from.0 from.1) from.2)

  -- the last step of a walk
  last_step : (x : List ℕ) (xs : List (List ℕ)) (i : ℕ) → back c (x ∷ xs) ≡ Some i → (p : ℕ) × (back c xs ≡ Some p) × Names g c p x i
  last_step x xs i e =
      let from = step-some c (back c xs) x i e in
      (from.0, from.1, child-some g c sound from.0 x i (met_in_range xs from.0 from.1) from.2)

  -- no name names the root
  not_root : (x : List ℕ) (xs : List (List ℕ)) (i : ℕ) → 1 ≡ i → back c (x ∷ xs) ≡ Some i → ⊥
  not_root x xs i is e =
      let from = last_step x xs i e in
      (sound.fit from.0 from.2.place from.2.dentry from.2.has).no_root (from.2.inode_is ∙ sym is)

  same_place : (p q i : ℕ) (x y : List ℕ) → Names g c p x i → Names g c q y i → (p ≡ q) × (x ≡ y)
  same_place p q i x y a b =
      let one = sound.inodes_once p q a.place b.place a.dentry b.dentry a.has b.has (a.inode_is ∙ sym b.inode_is) in
      let there : Some a.dentry ≡ Some b.dentry = sym a.has.there ∙ (λ i. slice_get (slots_in c (one.0 i)) (one.1 i)) ∙ b.has.there in
      (one.0, sym a.name_is ∙ ap (λ (d : DentryForm). d.name) (same_some a.dentry b.dentry there) ∙ b.name_is)

  pub once_back : (xs ys : List (List ℕ)) (i : ℕ) → back c xs ≡ Some i → back c ys ≡ Some i → xs ≡ ys
  once_back [] [] i a b = refl
  once_back [] (y ∷ ys) i a b = absurd (not_root y ys i (same_some 1 i a) b)
  once_back (x ∷ xs) [] i a b = absurd (not_root x xs i (same_some 1 i b) a)
  once_back (x ∷ xs) (y ∷ ys) i a b =
      let from = last_step x xs i a in
      let others = last_step y ys i b in
      let same = same_place from.0 others.0 i x y from.2 others.2 in
      let rest = once_back xs ys from.0 from.1 (others.1 ∙ ap Some (sym same.0)) in
      (λ i. same.1 i ∷ rest i)

  -- ---- the inodes on the way

  abbrev number : Option ℕ → ℕ
  number None = 0
  number (Some i) = i

  abbrev trail : List (List ℕ) → List ℕ
  trail [] = 1 ∷ []
  trail (x ∷ xs) = number (back c (x ∷ xs)) ∷ trail xs

  length-trail : (xs : List (List ℕ)) → length (trail xs) ≡ length xs + 1
  length-trail [] = refl
  length-trail (x ∷ xs) = let rest = length-trail xs in omega (arith, rest)

  -- each is met by a walk that is no longer
  from_trail : (xs : List (List ℕ)) (i k : ℕ) → back c xs ≡ Some i → IsIn k (trail xs) → (ys : List (List ℕ)) × (back c ys ≡ Some k) × (length ys ≤ length xs)
  from_trail [] i k e (inl is) = ([], ap Some (sym is), omega arith)
  from_trail [] i k e (inr is) = absurd is
  from_trail (x ∷ xs) i k e (inl is) = (x ∷ xs, e ∙ ap Some (sym (is ∙ ap number e)), omega arith)
  from_trail (x ∷ xs) i k e (inr is) =
      let from = step-some c (back c xs) x i e in
      let rest = from_trail xs from.0 k from.1 is in
      (rest.0, rest.1, omega (arith, rest.2))

  distinct : (xs : List (List ℕ)) (i : ℕ) → back c xs ≡ Some i → IsDistinct eqb (trail xs)
  unfolding IsDistinct
  distinct [] i e = (tt, tt)
  distinct (x ∷ xs) i e =
      let from = step-some c (back c xs) x i e in
      (all_apart (number (back c (x ∷ xs))) (trail xs) (λ m is same. longer from.0 from.1 m is (e ∙ ap Some (sym (ap number e) ∙ same))), distinct xs from.0 from.1)
    where
      longer : (p : ℕ) → back c xs ≡ Some p → (m : ℕ) → IsIn m (trail xs) → back c (x ∷ xs) ≡ Some m → ⊥
      longer p at m is here =
          let other = from_trail xs p m at is in
          let same : x ∷ xs ≡ other.0 = once_back (x ∷ xs) other.0 m here other.1 in
          let sizes : length (x ∷ xs) ≡ length other.0 = ap length same in
          omega (arith, sizes, other.2)

  in_range_of_trail : (xs : List (List ℕ)) (i k : ℕ) → back c xs ≡ Some i → IsIn k (trail xs) → IsInode g k
  in_range_of_trail xs i k e is = let from = from_trail xs i k e is in met_in_range from.0 k from.1

  -- A walk that meets something has fewer names than there are inodes.
  pub short_back : (xs : List (List ℕ)) (i : ℕ) → back c xs ≡ Some i → length xs < g.inodes
  unfolding IsDistinct
  short_back xs i e = let most = length-le_from_distinct_below (0 ∷ trail xs) (g.inodes + 1) (all_apart 0 (trail xs) no_zero, distinct xs i e) below in let sizes = length-trail xs in omega (arith, most, sizes)
    where
      no_zero : (m : ℕ) → IsIn m (trail xs) → 0 ≡ m → ⊥
      no_zero m is same = let from = (in_range_of_trail xs i m e is).from_one in omega (arith, from, same)

      within : (q : ℕ) → IsIn q (0 ∷ trail xs) → q < g.inodes + 1
      within q (inl is) = omega (arith, is)
      within q (inr is) = let most = (in_range_of_trail xs i q e is).within in omega (arith, most)

      below : (q : ℕ) → list_any (eqb q) (0 ∷ trail xs) ≡ true → q < g.inodes + 1
      below q is = within q (number_in q (0 ∷ trail xs) is)

  -- ---- the same of walks with the first name first

  pub short : (names : List (List ℕ)) (i : ℕ) → inode_of c names ≡ Some i → length names < g.inodes
  short names i e = let most = short_back (turned c names []) i (sym (walk-back c names []) ∙ e) in let sizes = length-turned c names [] in omega (arith, most, sizes)

  -- Walks that meet one inode are one.
  pub once : (names others : List (List ℕ)) (i : ℕ) → inode_of c names ≡ Some i → inode_of c others ≡ Some i → names ≡ others
  once names others i a b =
      let same : turned c names [] ≡ turned c others [] = once_back (turned c names []) (turned c others []) i (sym (walk-back c names []) ∙ a) (sym (walk-back c others []) ∙ b) in
      let sizes = ap length same in
      let left = length-turned c names [] in
      let right = length-turned c others [] in
      (same_turned c names others [] [] (omega (arith, sizes, left, right)) same).0
