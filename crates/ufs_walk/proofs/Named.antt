-- Names among slots.
use Rattle.std.proofs.Common.{◌≡◌, ℕ, suc, ◌+◌, ◌<◌, List, [], ◌∷◌, ◌++◌, true, false, Option, Some, None, length, take, get_or, refl, ap, sym, ◌∙◌, arith, append_assoc}
use Rattle.std.specs.Prelude.{flat_map, ◌==◌, nat_lt}
use Rattle.std.proofs.lemmas.Bool.Decides.{nat_tests}
use Rattle.std.specs.List.{enumerate_from, cons_option}
use Rattle.std.proofs.lemmas.List.{append-nil, length-take-le, take_more}
use Rattle.ufs_base.specs.Choices.{some_if}
use Rattle.ufs_layout.specs.DentryForm.{DentryForm, is_named}
use Rattle.ufs_image.specs.Nodes.{NamedSlot, names_of}
use Rattle.ufs_walk.specs.Walked.{Place, place_and_below}

-- the names in some slots
abbrev pub named_in : ℕ → List (Option DentryForm) → List NamedSlot
named_in inode slots = names_of (record { inode = inode; slots = enumerate_from 0 slots })

cons_app : {X : Type 0} (o : Option X) (a b : List X) → cons_option o (a ++ b) ≡ cons_option o a ++ b
cons_app None a b = refl
cons_app (Some x) a b = refl

names_append : (inode n : ℕ) (xs : List (Option DentryForm)) (o : Option DentryForm)
    → names_of (record { inode = inode; slots = enumerate_from n (xs ++ o ∷ []) }) ≡ names_of (record { inode = inode; slots = enumerate_from n xs }) ++ names_of (record { inode = inode; slots = (n + length xs, o) ∷ [] })
names_append inode n [] o = let at : n ≡ n + 0 = omega arith in ap (λ k. names_of (record { inode = inode; slots = (k, o) ∷ [] })) at
names_append inode n (None ∷ xs) o =
    let at : n + 1 + length xs ≡ n + suc (length xs) = omega arith in
    names_append inode (n + 1) xs o ∙ ap (λ k. names_of (record { inode = inode; slots = enumerate_from (n + 1) xs }) ++ names_of (record { inode = inode; slots = (k, o) ∷ [] })) at
names_append inode n (Some d ∷ xs) o =
    let at : n + 1 + length xs ≡ n + suc (length xs) = omega arith in
    ap (cons_option {X = NamedSlot} (some_if (is_named d) (n, d)))
    (names_append inode (n + 1) xs o ∙ ap (λ k. names_of (record { inode = inode; slots = enumerate_from (n + 1) xs }) ++ names_of (record { inode = inode; slots = (k, o) ∷ [] })) at)
    ∙ cons_app {X = NamedSlot} (some_if (is_named d) (n, d)) (names_of (record { inode = inode; slots = enumerate_from (n + 1) xs })) (names_of (record { inode = inode; slots = (n + suc (length xs), o) ∷ [] }))

-- one slot more
names_more : (inode : ℕ) (xs : List (Option DentryForm)) (k : ℕ) (o : Option DentryForm) → k < length xs → o ≡ get_or xs k o
    → named_in inode (take (k + 1) xs) ≡ named_in inode (take k xs) ++ names_of (record { inode = inode; slots = (k, o) ∷ [] })
names_more inode xs k o less is =
    let at : 0 + length (take k xs) ≡ k = let long = length-take-le k xs (omega (arith, less)) in omega (arith, long) in
    ap (named_in inode) (take_more xs k o less ∙ ap (λ z. take k xs ++ z ∷ []) (sym is))
    ∙ names_append inode 0 (take k xs) o
    ∙ ap (λ m. named_in inode (take k xs) ++ names_of (record { inode = inode; slots = (m, o) ∷ [] })) at

flat_append : {X Y : Type 0} (f : X → List Y) (xs ys : List X) → flat_map f (xs ++ ys) ≡ flat_map f xs ++ flat_map f ys
flat_append f [] ys = refl
flat_append f (x ∷ xs) ys = ap (λ l. f x ++ l) (flat_append f xs ys) ∙ sym (append_assoc (f x) (flat_map f xs) (flat_map f ys))

module _ (deeper : List ℕ → ℕ → List Place) (path : List ℕ) (inode : ℕ) (xs : List (Option DentryForm)) (k : ℕ) where
  abbrev pub so_far : ℕ → List Place
  so_far n = flat_map (place_and_below deeper path) (named_in inode (take n xs))

  -- a slot without a name
  skipped : (o : Option DentryForm) → k < length xs → o ≡ get_or xs k o → names_of (record { inode = inode; slots = (k, o) ∷ [] }) ≡ [] → so_far (k + 1) ≡ so_far k
  skipped o less is none = ap (flat_map (place_and_below deeper path)) (names_more inode xs k o less is ∙ ap (λ l. named_in inode (take k xs) ++ l) none ∙ append-nil (named_in inode (take k xs)))

  pub skips_off : k < length xs → None ≡ get_or xs k None → so_far (k + 1) ≡ so_far k
  skips_off less is = skipped None less is refl

  pub skips_free : (d : DentryForm) → k < length xs → Some d ≡ get_or xs k (Some d) → is_named d ≡ false → so_far (k + 1) ≡ so_far k
  skips_free d less is free = skipped (Some d) less is (ap (λ b. cons_option {X = NamedSlot} (some_if b (k, d)) []) free)

  -- a slot with one
  pub goes_on : (d : DentryForm) → k < length xs → Some d ≡ get_or xs k (Some d) → is_named d ≡ true
      → so_far (k + 1) ≡ so_far k ++ ((path ++ 47 ∷ d.name, d.inode) ∷ deeper (path ++ 47 ∷ d.name) d.inode)
  goes_on d less is named =
      ap (flat_map (place_and_below deeper path)) (names_more inode xs k (Some d) less is ∙ ap (λ b. named_in inode (take k xs) ++ cons_option {X = NamedSlot} (some_if b (k, d)) []) named)
      ∙ flat_append (place_and_below deeper path) (named_in inode (take k xs)) ((k, d) ∷ [])
      ∙ ap (λ l. so_far k ++ l) (append-nil ((path ++ 47 ∷ d.name, d.inode) ∷ deeper (path ++ 47 ∷ d.name) d.inode))

pub unnamed : (name : List ℕ) → (length name == 0) ≡ true → nat_lt 0 (length name) ≡ false
unnamed [] is = refl
unnamed (x ∷ xs) is = absurd (grind (arith, nat_tests, is))

pub with_name : (name : List ℕ) → (length name == 0) ≡ false → nat_lt 0 (length name) ≡ true
with_name [] is = absurd (grind (arith, is))
with_name (x ∷ xs) is = grind (arith, nat_tests)
