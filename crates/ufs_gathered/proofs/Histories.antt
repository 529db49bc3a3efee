-- Histories with the same entries, and stretches without a gap.
use Rattle.std.proofs.Common.{◌≡◌, ◌⊎◌, inl, inr, ⊎_elim, ℕ, ◌+◌, ◌≤◌, Bool, true, false, cond, eqb, eqb-true, length, List, [], ◌∷◌, ap, sym, refl, ◌∙◌, subst, arith}
use Rattle.ufs_model.specs.History.{IsLegalFrom, entries_of, goes_on}
use Rattle.ufs_model.specs.PosixTree.{PosixTree}
use Rattle.ufs_model.specs.declared.data.Entry.{Entry}
use Rattle.ufs_hand_laws.specs.Owned.{Has}
use Rattle.ufs_hand_laws.specs.Parts.{Cells, Stretch}
use Rattle.ufs_joint.specs.Sound.{AreJoined}

-- ---- tickets are places

late : (ticket : ℕ) (t : PosixTree) (history : List Entry) → IsLegalFrom ticket t history → (e : Entry) → Has e history → ticket ≤ e.ticket
late ticket t [] legal e has = absurd has
late ticket t (x ∷ history) legal e (inl is) = let number = legal.0.numbered in let same = ap (λ (y : Entry). y.ticket) is in omega (arith, number, same)
late ticket t (x ∷ history) legal e (inr has) = let more = late (ticket + 1) (goes_on t x) history legal.1 e has in omega (arith, more)

same_from : (ticket : ℕ) (t u : PosixTree) (some all : List Entry) → IsLegalFrom ticket t some → IsLegalFrom ticket u all → length all ≤ length some → ((e : Entry) → Has e some → Has e all) → all ≡ some
same_from ticket t u [] [] one other few each = refl
same_from ticket t u [] (y ∷ all) one other few each = absurd (omega (arith, few))
same_from ticket t u (x ∷ some) [] one other few each = absurd (each x (inl refl))
same_from ticket t u (x ∷ some) (y ∷ all) one other few each = λ i. sym first i ∷ same_from (ticket + 1) (goes_on t x) (goes_on u y) some all one.1 other.1 (omega (arith, few)) behind i
  where
    first : x ≡ y
    first = ⊎_elim (λ (is : x ≡ y). is) (λ (has : Has x all). let a = late (ticket + 1) (goes_on u y) all other.1 x has in let b = one.0.numbered in absurd (omega (arith, a, b))) (each x (inl refl))

    behind : (e : Entry) → Has e some → Has e all
    behind e has = ⊎_elim
        (λ (is : e ≡ y). let a = late (ticket + 1) (goes_on t x) some one.1 e has in let b = other.0.numbered in let c = ap (λ (z : Entry). z.ticket) is in absurd (omega (arith, a, b, c)))
        (λ (there : Has e all). there) (each e (inr has))

-- A legal history that has each entry of another, and is no longer, is that one.
pub same_history : (t u : PosixTree) (some all : List Entry) → IsLegalFrom 0 t some → IsLegalFrom 0 u all → length all ≤ length some → ((e : Entry) → Has e some → Has e all) → all ≡ some
same_history t u some all one other few each = same_from 0 t u some all one other few each

-- ---- a client's entries

pub its_own : (c : ℕ) (e : Entry) (h : List Entry) → Has e (entries_of c h) → e.client ≡ c
its_own c e [] has = absurd has
its_own c e (x ∷ h) has = at (eqb x.client c) refl has (its_own c e h)
  where
    at : (b : Bool) → eqb x.client c ≡ b → Has e (cond b (x ∷ entries_of c h) (entries_of c h)) → (Has e (entries_of c h) → e.client ≡ c) → e.client ≡ c
    at true same (inl is) rest = ap (λ (y : Entry). y.client) is ∙ eqb-true x.client c same
    at true same (inr there) rest = rest there
    at false other there rest = rest there

pub none_there : {A : Type 0} (xs : List A) → ((x : A) → Has x xs → ⊥) → xs ≡ []
none_there [] none = refl
none_there (x ∷ xs) none = absurd (none x (inl refl))

-- ---- stretches

pub each_rises : (past : List Stretch) (upto : ℕ) → AreJoined past upto → (y : Stretch) → Has y past → y.from ≤ y.to
each_rises [] upto joined y has = absurd has
each_rises (x ∷ past) upto joined y (inl is) = subst (λ (z : Stretch). z.from ≤ z.to) (sym is) joined.0
each_rises (x ∷ past) upto joined y (inr has) = by joined.1 (λ u j. each_rises past u j y has)
  where
    by : ((x.states ≡ []) × AreJoined past upto) ⊎ ((1 ≤ length x.states) × (x.to ≡ upto) × ((z : ℕ) × (x.from ≤ z) × (z ≤ upto) × AreJoined past z)) → ((u : ℕ) → AreJoined past u → y.from ≤ y.to) → y.from ≤ y.to
    by (inl h) rest = rest upto h.1
    by (inr h) rest = rest h.2.0 h.2.3

-- one in which the disk passed a state ends no later than all of them
pub each_within : (past : List Stretch) (upto : ℕ) → AreJoined past upto → (y : Stretch) → Has y past → 1 ≤ length y.states → y.to ≤ upto
each_within [] upto joined y has some = absurd has
each_within (x ∷ past) upto joined y has some = by joined.1 has (λ u j there. each_within past u j y there some)
  where
    by : ((x.states ≡ []) × AreJoined past upto) ⊎ ((1 ≤ length x.states) × (x.to ≡ upto) × ((z : ℕ) × (x.from ≤ z) × (z ≤ upto) × AreJoined past z)) → (y ≡ x) ⊎ Has y past → ((u : ℕ) → AreJoined past u → Has y past → y.to ≤ u) → y.to ≤ upto
    by (inl h) (inl is) rest = (let none = ap (λ (w : Stretch). length w.states) is in let e = ap (length {A = Cells}) h.0 in absurd (omega (arith, none, e, some)))
    by (inl h) (inr there) rest = rest upto h.1 there
    by (inr h) (inl is) rest = (let same = ap (λ (w : Stretch). w.to) is in let e = h.1 in omega (arith, same, e))
    by (inr h) (inr there) rest = (let l = rest h.2.0 h.2.3 there in let m = h.2.2 in omega (arith, l, m))

pub some_there : {A : Type 0} (x : A) (xs : List A) → Has x xs → 1 ≤ length xs
some_there x [] has = absurd has
some_there x (y ∷ xs) has = omega arith
