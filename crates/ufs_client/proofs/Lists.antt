-- Lists, and the tickets of a history.
use Rattle.std.proofs.Common.{◌≡◌, ℕ, ◌+◌, ◌≤◌, ◌<◌, List, [], ◌∷◌, ◌++◌, Some, None, ap, sym, refl, ◌∙◌, length, arith, zero, suc, Result, Ok, Err, IsErr}
use Rattle.std.specs.Prelude.{slice_get, nat_eq, false, if◌then◌else◌}
use Rattle.std.specs.Result.{is_ok}
use Rattle.std.specs.List.{AllByRecursion, IsDistinct}
use Rattle.std.proofs.lemmas.Bool.{ne_eqb}
use Rattle.std.proofs.lemmas.List.{append-nil, append_assoc}
use Rattle.ufs_model.specs.History.{IsLegalFrom, DoTicketsRise, AreTicketsOnce, tickets_of, goes_on, joined}
use Rattle.ufs_model.specs.PosixTree.{PosixTree}
use Rattle.ufs_model.specs.declared.data.Entry.{Entry}

pub get_here : {X : Type 0} (front : List X) (x : X) (rest : List X) → slice_get (front ++ x ∷ rest) (length front) ≡ Some x
get_here [] x rest = refl
get_here (y ∷ front) x rest = get_here front x rest

pub get_before : {X : Type 0} (front : List X) (x : X) (n : ℕ) → (n ≡ length front → ⊥) → slice_get (front ++ x ∷ []) n ≡ slice_get front n
get_before [] x zero not = absurd (not refl)
get_before [] x (suc n) not = refl
get_before (y ∷ front) x zero not = refl
get_before (y ∷ front) x (suc n) not = get_before front x n (λ e. not (omega (arith, e)))

pub get_past : {X : Type 0} (xs : List X) (n : ℕ) → length xs ≤ n → slice_get xs n ≡ None
get_past [] n h = refl
get_past (x ∷ xs) zero h = absurd (omega arith)
get_past (x ∷ xs) (suc n) h = get_past xs n (omega arith)

pub not_ok : {E : Type 0} (r : Result (Unit {0}) E) → IsErr r → r ≡ Ok tt → ⊥
not_ok (Ok x) err ok = cc
not_ok (Err e) err ok = cc

-- a list without an item
pub no_items : {X : Type 0} (xs : List X) → length xs ≡ 0 → xs ≡ []
no_items [] e = refl
no_items (x ∷ xs) e = absurd (omega arith)

pub joined-push : (told : List (List Entry)) (mine : List Entry) → joined (told ++ mine ∷ []) ≡ joined told ++ mine
joined-push [] mine = append-nil mine
joined-push (l ∷ told) mine = ap (λ (r : List Entry). l ++ r) (joined-push told mine) ∙ sym (append_assoc l (joined told) mine)

-- ---- tickets of a legal history rise

all_above : (low ticket : ℕ) (t : PosixTree) (history : List Entry) → low < ticket → IsLegalFrom ticket t history → AllByRecursion (λ (later : Entry). low < later.ticket) history
all_above low ticket t [] less legal = tt
all_above low ticket t (e ∷ history) less legal =
    (let at = legal.0.numbered in omega (arith, at, less), all_above low (ticket + 1) (goes_on t e) history (omega (arith, less)) legal.1)

pub rising_from : (ticket : ℕ) (t : PosixTree) (history : List Entry) → IsLegalFrom ticket t history → DoTicketsRise history
rising_from ticket t [] legal = tt
rising_from ticket t (e ∷ history) legal =
    (all_above e.ticket (ticket + 1) (goes_on t e) history (let at = legal.0.numbered in omega (arith, at)) legal.1, rising_from (ticket + 1) (goes_on t e) history legal.1)

-- so no two are one
apart_from : (low : ℕ) (history : List Entry) → AllByRecursion (λ (later : Entry). low < later.ticket) history → AllByRecursion (λ (n : ℕ). nat_eq low n ≡ false) (tickets_of history)
apart_from low [] above = tt
apart_from low (e ∷ history) above = (ne_eqb low e.ticket (λ same. let less = above.0 in omega (arith, same, less)), apart_from low history above.1)

pub once_rising : (history : List Entry) → DoTicketsRise history → AreTicketsOnce history
unfolding IsDistinct
once_rising [] rising = tt
once_rising (e ∷ history) rising = (apart_from e.ticket history rising.0, once_rising history rising.1)

-- an entry behind the others, where there is room
pub pushed_on : {X E : Type 0} (r : Result (Unit {0}) E) (new reserved old : List X) (x : X) → (u : Unit {0}) → r ≡ Ok u → reserved ≡ old → new ≡ (if is_ok r then reserved ++ x ∷ [] else reserved) → new ≡ old ++ x ∷ []
pushed_on r new reserved old x u ok same push = push ∙ ap (λ r. if is_ok r then reserved ++ x ∷ [] else reserved) ok ∙ ap (λ (l : List _). l ++ x ∷ []) same
