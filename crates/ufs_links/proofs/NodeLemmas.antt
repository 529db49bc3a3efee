-- Nodes on a list.
use Rattle.std.proofs.Common.{◌≡◌, ◌≢◌, ℕ, ◌<◌, ◌≤◌, nat_eq, eqb, Bool, true, false, ◌||◌, ◌⊎◌, ⊎_elim, inl, inr, List, [], ◌∷◌, ◌++◌, length, refl, sym, ap, subst, ◌∙◌, true≢false, arith}
use Rattle.std.proofs.lemmas.Bool.Decides.{nat_tests, eqb_tells}
use Rattle.std.specs.List.{IsDistinct, AllByRecursion}
use Rattle.std.proofs.lemmas.Map.Steps.{length-le_from_distinct_below}
use Rattle.ufs_links.specs.Nodes.{has, without}
use Rattle.ufs_links.specs.Chains.{AreApart}

or_false : (a b : Bool) → (a || b) ≡ false → (a ≡ false) × (b ≡ false)
or_false true b e = absurd (true≢false e)
or_false false b e = (refl, e)

pub lacks_cons : (x y : ℕ) (ys : List ℕ) → has (y ∷ ys) x ≡ false → (x ≢ y) × (has ys x ≡ false)
lacks_cons x y ys e = let h = or_false (nat_eq x y) (has ys x) e in ((λ (s : x ≡ y). let t = h.0 in absurd (grind (arith, nat_tests))), h.1)

pub cons_lacks : (x y : ℕ) (ys : List ℕ) → x ≢ y → has ys x ≡ false → has (y ∷ ys) x ≡ false
cons_lacks x y ys ne h = let e : nat_eq x y ≡ false = grind (arith, nat_tests) in rw e h

pub has_cons : (x y : ℕ) (ys : List ℕ) → has (y ∷ ys) x ≡ true → (x ≡ y) ⊎ (has ys x ≡ true)
has_cons x y ys e = ⊎_elim (λ (t : (eqb x y ≡ true) × (x ≡ y)). inl t.1) (λ (t : (eqb x y ≡ false) × (x ≢ y)). inr (subst (λ b. (b || has ys x) ≡ true) t.0 e)) (eqb_tells x y)

pub has_here : (x : ℕ) (ys : List ℕ) → has (x ∷ ys) x ≡ true
has_here x ys = let e : nat_eq x x ≡ true = grind (arith, nat_tests) in rw e refl

pub has_there : (x y : ℕ) (ys : List ℕ) → has ys x ≡ true → has (y ∷ ys) x ≡ true
has_there x y ys h = ⊎_elim (λ (t : (eqb x y ≡ true) × (x ≡ y)). rw t.0 refl) (λ (t : (eqb x y ≡ false) × (x ≢ y)). rw t.0 h) (eqb_tells x y)

pub without_here : (x y : ℕ) (ys : List ℕ) → y ≡ x → without x (y ∷ ys) ≡ without x ys
without_here x y ys e = let t : nat_eq y x ≡ true = grind (arith, nat_tests) in rw t refl

pub without_there : (x y : ℕ) (ys : List ℕ) → y ≢ x → without x (y ∷ ys) ≡ y ∷ without x ys
without_there x y ys ne = let t : nat_eq y x ≡ false = grind (arith, nat_tests) in rw t refl

pub without_lacking : (x : ℕ) (ys : List ℕ) → has ys x ≡ false → without x ys ≡ ys
without_lacking x [] h = refl
without_lacking x (y ∷ ys) h = let l = lacks_cons x y ys h in without_there x y ys (λ e. l.0 (sym e)) ∙ ap (λ l. y ∷ l) (without_lacking x ys l.1)

pub has-without_other : (x n : ℕ) (ys : List ℕ) → n ≢ x → has (without x ys) n ≡ has ys n
has-without_other x n [] ne = refl
has-without_other x n (y ∷ ys) ne = ⊎_elim
    (λ (t : (eqb y x ≡ true) × (y ≡ x)). let f : nat_eq n y ≡ false = grind (arith, nat_tests) in ap (λ l. has l n) (without_here x y ys t.1) ∙ has-without_other x n ys ne ∙ (rw f refl))
    (λ (t : (eqb y x ≡ false) × (y ≢ x)). ap (λ l. has l n) (without_there x y ys t.1) ∙ ap (λ b. nat_eq n y || b) (has-without_other x n ys ne))
    (eqb_tells y x)

pub has-without_same : (x : ℕ) (ys : List ℕ) → has (without x ys) x ≡ false
has-without_same x [] = refl
has-without_same x (y ∷ ys) = ⊎_elim
    (λ (t : (eqb y x ≡ true) × (y ≡ x)). ap (λ l. has l x) (without_here x y ys t.1) ∙ has-without_same x ys)
    (λ (t : (eqb y x ≡ false) × (y ≢ x)). ap (λ l. has l x) (without_there x y ys t.1) ∙ cons_lacks x y (without x ys) (λ e. t.1 (sym e)) (has-without_same x ys))
    (eqb_tells y x)

bool_cases : (b : Bool) → (b ≡ true) ⊎ (b ≡ false)
bool_cases true = inl refl
bool_cases false = inr refl

pub has_cases : (x : ℕ) (ys : List ℕ) → (has ys x ≡ true) ⊎ (has ys x ≡ false)
has_cases x ys = bool_cases (has ys x)

pub lacks_from : (x : ℕ) (ys : List ℕ) → (has ys x ≡ true → ⊥) → has ys x ≡ false
lacks_from x ys never = ⊎_elim (λ t. absurd (never t)) (λ f. f) (has_cases x ys)

pub apart-without : (x : ℕ) (ys : List ℕ) → AreApart ys → AreApart (without x ys)
apart-without x [] a = tt
apart-without x (y ∷ ys) a = ⊎_elim
    (λ (t : (eqb y x ≡ true) × (y ≡ x)). subst AreApart (sym (without_here x y ys t.1)) (apart-without x ys a.1))
    (λ (t : (eqb y x ≡ false) × (y ≢ x)). subst AreApart (sym (without_there x y ys t.1)) (has-without_other x y ys t.1 ∙ a.0, apart-without x ys a.1))
    (eqb_tells y x)

pub has-push : (x n : ℕ) (ys : List ℕ) → has (ys ++ x ∷ []) n ≡ (has ys n || nat_eq n x)
has-push x n [] = elim (nat_eq n x) as (λ b. (b || false) ≡ b) [ true ↦ refl | false ↦ refl ]
has-push x n (y ∷ ys) = ap (λ b. nat_eq n y || b) (has-push x n ys) ∙ (elim (nat_eq n y) as (λ b. (b || (has ys n || nat_eq n x)) ≡ ((b || has ys n) || nat_eq n x)) [ true ↦ refl | false ↦ refl ])

pub apart-push : (x : ℕ) (ys : List ℕ) → AreApart ys → has ys x ≡ false → AreApart (ys ++ x ∷ [])
apart-push x [] a h = (refl, tt)
apart-push x (y ∷ ys) a h =
    let l = lacks_cons x y ys h in
    let ne : y ≢ x = λ e. l.0 (sym e) in
    let t : nat_eq y x ≡ false = grind (arith, nat_tests) in
    (has-push x y ys ∙ ap (λ b. b || nat_eq y x) a.0 ∙ t, apart-push x ys a.1 l.1)

all_unequal : (x : ℕ) (ys : List ℕ) → has ys x ≡ false → AllByRecursion (λ y. eqb x y ≡ false) ys
all_unequal x [] h = tt
all_unequal x (y ∷ ys) h = let s = or_false (nat_eq x y) (has ys x) h in (s.0, all_unequal x ys s.1)

distinct_from_apart : (xs : List ℕ) → AreApart xs → IsDistinct eqb xs
unfolding IsDistinct
distinct_from_apart [] a = tt
distinct_from_apart (x ∷ xs) a = (all_unequal x xs a.0, distinct_from_apart xs a.1)

-- no more nodes than there are numbers below the limit
pub length-le_from_apart : (xs : List ℕ) (n : ℕ) → AreApart xs → ((q : ℕ) → has xs q ≡ true → q < n) → length xs ≤ n
length-le_from_apart xs n a below = length-le_from_distinct_below xs n (distinct_from_apart xs a) below

pub pushed_only : (x : ℕ) (ys : List ℕ) (n : ℕ) → has (ys ++ x ∷ []) n ≡ true → (n ≡ x) ⊎ (has ys n ≡ true)
pushed_only x ys n h = cases (has ys n) refl (sym (has-push x n ys) ∙ h) where
  cases : (b : Bool) → has ys n ≡ b → (b || nat_eq n x) ≡ true → (n ≡ x) ⊎ (has ys n ≡ true)
  cases true e h = inr e
  cases false e h = inl (grind (arith, nat_tests))

pub pushed_all : (x : ℕ) (ys : List ℕ) (n : ℕ) → has ys n ≡ true → has (ys ++ x ∷ []) n ≡ true
pushed_all x ys n h = has-push x n ys ∙ ap (λ b. b || nat_eq n x) h

pub pushed_new : (x : ℕ) (ys : List ℕ) → has (ys ++ x ∷ []) x ≡ true
pushed_new x ys = has-push x x ys ∙ either (has ys x) where
  either : (b : Bool) → (b || nat_eq x x) ≡ true
  either true = refl
  either false = grind (arith, nat_tests)
