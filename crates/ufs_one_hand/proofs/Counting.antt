-- Histories with the same entries of each client are of one length, and one, where the tickets are places.
use Rattle.std.proofs.Common.{◌≡◌, ◌≢◌, ◌⊎◌, ℕ, zero, suc, ◌+◌, ◌<◌, ◌≤◌, Bool, true, false, cond, eqb, ne_eqb, List, [], ◌∷◌, length, sym, refl, ap, ◌∙◌, subst, inl, inr, arith}
use Rattle.ufs_model.specs.History.{IsLegalFrom, entries_of, goes_on}
use Rattle.ufs_model.specs.PosixTree.{PosixTree}
use Rattle.ufs_model.specs.declared.data.Entry.{Entry}
use Rattle.ufs_hand_laws.specs.Owned.{Has}
use Rattle.ufs_hand_laws.proofs.Keys.{itself}
use Rattle.ufs_hand_laws.proofs.Ruling.{tally, tally_step, tally_none}

-- each entry is of a client below this
abbrev pub AreBelow : ℕ → List Entry → Type 0
AreBelow k h = (e : Entry) → Has e h → e.client < k

tally_below : (k : ℕ) (h : List Entry) → AreBelow k h → tally k h ≡ length h
tally_below k [] l = tally_none k
tally_below k (e ∷ h) l = let i = tally_below k h (λ x m. l x (inr m)) in let s = tally_step k e h (l e (inl refl)) in omega arith

same_tally : (k : ℕ) (h j : List Entry) → ((c : ℕ) → c < k → entries_of c h ≡ entries_of c j) → tally k h ≡ tally k j
same_tally zero h j same = omega arith
same_tally (suc k) h j same = let i = same_tally k h j (λ c l. same c (omega arith)) in let b : length (entries_of k h) ≡ length (entries_of k j) = ap length (same k (omega arith)) in omega arith

-- ---- with no bound on the clients

abbrev bound : List Entry → ℕ
bound [] = 0
bound (e ∷ h) = suc e.client + bound h

bounded : (h : List Entry) (k : ℕ) → bound h ≤ k → AreBelow k h
bounded [] k l e a = absurd a
bounded (x ∷ h) k l e (inl is) = let c : e.client ≡ x.client = ap (λ (y : Entry). y.client) is in omega arith
bounded (x ∷ h) k l e (inr a) = bounded h k (omega arith) e a

pub same_length_all : (h j : List Entry) → ((c : ℕ) → entries_of c h ≡ entries_of c j) → length h ≡ length j
same_length_all h j same =
    let k = bound h + bound j in
    sym (tally_below k h (bounded h k (omega arith))) ∙ same_tally k h j (λ c l. same c) ∙ tally_below k j (bounded j k (omega arith))

pub none_of : (c : ℕ) (h : List Entry) → ((e : Entry) → Has e h → e.client ≢ c) → entries_of c h ≡ []
none_of c [] l = refl
none_of c (e ∷ h) l = ap (λ b. cond b (e ∷ entries_of c h) (entries_of c h)) (ne_eqb e.client c (l e (inl refl))) ∙ none_of c h (λ x a. l x (inr a))

-- ---- entries whose tickets are their places

abbrev pub AreNumbered : ℕ → List Entry → Type 0
AreNumbered n [] = Unit {0}
AreNumbered n (e ∷ h) = (e.ticket ≡ n) × AreNumbered (n + 1) h

pub numbered : (n : ℕ) (t : PosixTree) (h : List Entry) → IsLegalFrom n t h → AreNumbered n h
numbered n t [] legal = tt
numbered n t (e ∷ h) legal = (legal.0.numbered, numbered (n + 1) (goes_on t e) h legal.1)

from_there : (n : ℕ) (h : List Entry) → AreNumbered n h → (e : Entry) → Has e h → n ≤ e.ticket
from_there n [] are e has = absurd has
from_there n (x ∷ h) are e (inl is) = let t : e.ticket ≡ n = ap (λ (y : Entry). y.ticket) is ∙ are.0 in omega arith
from_there n (x ∷ h) are e (inr has) = let l = from_there (n + 1) h are.1 e has in omega arith

-- an entry of a client is one of all
of_all : (c : ℕ) (h : List Entry) (e : Entry) → Has e (entries_of c h) → Has e h
of_all c [] e has = absurd has
of_all c (x ∷ h) e has = by (eqb x.client c) has (of_all c h e)
  where
    by : (b : Bool) → Has e (cond b (x ∷ entries_of c h) (entries_of c h)) → (Has e (entries_of c h) → Has e h) → (e ≡ x) ⊎ Has e h
    by true (inl is) rest = inl is
    by true (inr later) rest = inr (rest later)
    by false later rest = inr (rest later)

first_same : {A : Type 0} (x y : A) (xs ys : List A) → ◌≡◌ {A = List A} (x ∷ xs) (y ∷ ys) → x ≡ y
first_same x y xs ys e = cc

rest_same : {A : Type 0} (x y : A) (xs ys : List A) → ◌≡◌ {A = List A} (x ∷ xs) (y ∷ ys) → xs ≡ ys
rest_same x y xs ys e = cc

-- Two such lists of one length are one, where each client's entries are the same.
pub one_list : (n : ℕ) (a b : List Entry) → AreNumbered n a → AreNumbered n b → length a ≡ length b → ((c : ℕ) → entries_of c a ≡ entries_of c b) → a ≡ b
one_list n [] [] are were long same = refl
one_list n [] (y ∷ b) are were long same = absurd (omega arith)
one_list n (x ∷ a) [] are were long same = absurd (omega arith)
one_list n (x ∷ a) (y ∷ b) are were long same =
    let rest = one_list (n + 1) a b are.1 were.1 (omega arith) (λ c. rest_of c (eqb x.client c) refl) in
    λ i. first i ∷ rest i
  where
    own : x ∷ entries_of x.client a ≡ cond (eqb y.client x.client) (y ∷ entries_of x.client b) (entries_of x.client b)
    own = ap (λ z. cond z (x ∷ entries_of x.client a) (entries_of x.client a)) (sym (itself x.client)) ∙ same x.client

    first : x ≡ y
    first = by (eqb y.client x.client) own
      where
        by : (z : Bool) → x ∷ entries_of x.client a ≡ cond z (y ∷ entries_of x.client b) (entries_of x.client b) → x ≡ y
        by true e = first_same x y _ _ e
        by false e = let l = from_there (n + 1) b were.1 x (of_all x.client b x (subst (Has x) e (inl refl))) in let z = are.0 in absurd (omega arith)

    rest_of : (c : ℕ) (z : Bool) → eqb x.client c ≡ z → entries_of c a ≡ entries_of c b
    rest_of c true is = rest_same x y _ _
        (sym (ap (λ w. cond w (x ∷ entries_of c a) (entries_of c a)) is) ∙ same c ∙ ap (λ w. cond w (y ∷ entries_of c b) (entries_of c b)) (ap (λ (e : Entry). eqb e.client c) (sym first) ∙ is))
    rest_of c false is =
        sym (ap (λ w. cond w (x ∷ entries_of c a) (entries_of c a)) is) ∙ same c ∙ ap (λ w. cond w (y ∷ entries_of c b) (entries_of c b)) (ap (λ (e : Entry). eqb e.client c) (sym first) ∙ is)
