-- What follows a node on a list.
use Rattle.std.proofs.Common.{◌≡◌, ◌≢◌, ◌<◌, ℕ, length, nat_eq, eqb, true, false, cond, ⊎_elim, List, [], ◌∷◌, refl, sym, ap, subst, ◌∙◌, true≢false, arith, Option, None, Some, slice_get}
use Rattle.std.proofs.lemmas.Bool.Decides.{eqb_tells}
use Rattle.ufs_links.specs.Nodes.{has, next_in}
use Rattle.ufs_links.specs.Chains.{AreApart}
use Rattle.ufs_links.specs.Numbered.{slot_in}
use Rattle.ufs_links.proofs.NodeLemmas.{has_cons, has_here, has_there}

abbrev pub from_node : ℕ → List ℕ → List ℕ
from_node n [] = []
from_node n (x ∷ xs) = cond (nat_eq x n) (x ∷ xs) (from_node n xs)

-- a node and what follows it
abbrev pub tail_from : List ℕ → Option ℕ → List ℕ
tail_from xs None = []
tail_from xs (Some n) = from_node n xs

from_here : (n x : ℕ) (xs : List ℕ) → x ≡ n → from_node n (x ∷ xs) ≡ x ∷ xs
from_here n x xs e = ⊎_elim (λ (t : (eqb x n ≡ true) × (x ≡ n)). ap (λ b. cond b (x ∷ xs) (from_node n xs)) t.0) (λ (t : (eqb x n ≡ false) × (x ≢ n)). absurd (t.1 e)) (eqb_tells x n)

from_there : (n x : ℕ) (xs : List ℕ) → x ≢ n → from_node n (x ∷ xs) ≡ from_node n xs
from_there n x xs ne = ⊎_elim (λ (t : (eqb x n ≡ true) × (x ≡ n)). absurd (ne t.1)) (λ (t : (eqb x n ≡ false) × (x ≢ n)). ap (λ b. cond b (x ∷ xs) (from_node n xs)) t.0) (eqb_tells x n)

next_here : (n x : ℕ) (xs : List ℕ) → x ≡ n → next_in (x ∷ xs) n ≡ slice_get xs 0
next_here n x xs e = ⊎_elim (λ (t : (eqb x n ≡ true) × (x ≡ n)). ap (λ b. cond b (slice_get xs 0) (next_in xs n)) t.0) (λ (t : (eqb x n ≡ false) × (x ≢ n)). absurd (t.1 e)) (eqb_tells x n)

next_there : (n x : ℕ) (xs : List ℕ) → x ≢ n → next_in (x ∷ xs) n ≡ next_in xs n
next_there n x xs ne = ⊎_elim (λ (t : (eqb x n ≡ true) × (x ≡ n)). absurd (ne t.1)) (λ (t : (eqb x n ≡ false) × (x ≢ n)). ap (λ b. cond b (slice_get xs 0) (next_in xs n)) t.0) (eqb_tells x n)

some_same : (x y : ℕ) → ◌≡◌ {A = Option ℕ} (Some x) (Some y) → x ≡ y
some_same x y e = cc

pub front_has : (xs : List ℕ) (q : ℕ) → slice_get xs 0 ≡ Some q → has xs q ≡ true
front_has [] q e = absurd (cc)
front_has (x ∷ xs) q e = subst (λ m. has (x ∷ xs) m ≡ true) (some_same x q e) (has_here x xs)

pub next_has : (xs : List ℕ) (n q : ℕ) → next_in xs n ≡ Some q → has xs q ≡ true
next_has [] n q e = absurd (cc)
next_has (x ∷ xs) n q e = has_there q x xs (⊎_elim
    (λ (t : (eqb x n ≡ true) × (x ≡ n)). front_has xs q (sym (next_here n x xs t.1) ∙ e))
    (λ (t : (eqb x n ≡ false) × (x ≢ n)). next_has xs n q (sym (next_there n x xs t.1) ∙ e))
    (eqb_tells x n))

pub tail_front : (xs : List ℕ) → tail_from xs (slice_get xs 0) ≡ xs
tail_front [] = refl
tail_front (x ∷ xs) = from_here x x xs refl

past_first : (x : ℕ) (xs : List ℕ) (o : Option ℕ) → has xs x ≡ false → ((q : ℕ) → o ≡ Some q → has xs q ≡ true) → tail_from (x ∷ xs) o ≡ tail_from xs o
past_first x xs None lacks there = refl
past_first x xs (Some q) lacks there = from_there q x xs (λ e. true≢false (sym (there q refl) ∙ ap (has xs) (sym e) ∙ lacks))

pub tail_next : (xs : List ℕ) (n : ℕ) → AreApart xs → has xs n ≡ true → tail_from xs (Some n) ≡ n ∷ tail_from xs (next_in xs n)
tail_next [] n a h = absurd (true≢false (sym h))
tail_next (x ∷ xs) n a h = ⊎_elim
    (λ (t : (eqb x n ≡ true) × (x ≡ n)).
    let rest : tail_from (x ∷ xs) (next_in (x ∷ xs) n) ≡ xs = ap (tail_from (x ∷ xs)) (next_here n x xs t.1) ∙ past_first x xs (slice_get xs 0) a.0 (front_has xs) ∙ tail_front xs in
    from_here n x xs t.1 ∙ (λ i. t.1 i ∷ sym rest i))
    (λ (t : (eqb x n ≡ false) × (x ≢ n)).
    let on : has xs n ≡ true = ⊎_elim (λ (e : n ≡ x). absurd (t.1 (sym e))) (λ (g : has xs n ≡ true). g) (has_cons n x xs h) in
    from_there n x xs t.1 ∙ tail_next xs n a.1 on
    ∙ ap (λ m. n ∷ m) (sym (ap (tail_from (x ∷ xs)) (next_there n x xs t.1) ∙ past_first x xs (next_in xs n) a.0 (next_has xs n))))
    (eqb_tells x n)

-- a look at the node: it is found, or what follows it is left
pub look_here : (number : ℕ → ℕ) (n list : ℕ) (xs : List ℕ) → number n ≡ list → slot_in number (n ∷ xs) list ≡ Some n
unfolding slot_in
look_here number n list xs e = ⊎_elim
    (λ (t : (eqb (number n) list ≡ true) × (number n ≡ list)). rw t.0 refl)
    (λ (t : (eqb (number n) list ≡ false) × (number n ≢ list)). absurd (t.1 e))
    (eqb_tells (number n) list)

pub look_past : (number : ℕ → ℕ) (n list : ℕ) (xs : List ℕ) → number n ≢ list → slot_in number (n ∷ xs) list ≡ slot_in number xs list
unfolding slot_in
look_past number n list xs ne = ⊎_elim
    (λ (t : (eqb (number n) list ≡ true) × (number n ≡ list)). absurd (ne t.1))
    (λ (t : (eqb (number n) list ≡ false) × (number n ≢ list)). rw t.0 refl)
    (eqb_tells (number n) list)

pub look_nothing : (number : ℕ → ℕ) (list : ℕ) → slot_in number [] list ≡ None
unfolding slot_in
look_nothing number list = refl

pub tail_step : (xs : List ℕ) (at next : Option ℕ) (n : ℕ) → AreApart xs → at ≡ Some n → has xs n ≡ true → next ≡ next_in xs n → tail_from xs at ≡ n ∷ tail_from xs next
tail_step xs at next n a is on e = ap (tail_from xs) is ∙ tail_next xs n a on ∙ ap (λ o. n ∷ tail_from xs o) (sym e)

pub tail_shorter : (xs : List ℕ) (at next : Option ℕ) (n : ℕ) → AreApart xs → at ≡ Some n → has xs n ≡ true → next ≡ next_in xs n → length (tail_from xs next) < length (tail_from xs at)
tail_shorter xs at next n a is on e = let long = ap length (tail_step xs at next n a is on e) in omega arith
