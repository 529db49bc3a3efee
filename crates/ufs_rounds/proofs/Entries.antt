-- Entries whose tickets rise, one more, and each client's among them.
use Rattle.std.proofs.Common.{◌≡◌, ◌⊎◌, inl, inr, ⊎_elim, ℕ, zero, suc, ◌+◌, ◌<◌, Bool, true, false, cond, eqb, set, slice_get, List, [], ◌∷◌, ◌++◌, append_assoc, Some, refl, ap, sym, ◌∙◌, subst, arith}
use Rattle.std.proofs.lemmas.List.{append-nil}
use Rattle.std.specs.List.{AllByRecursion}
use Rattle.ufs_client.specs.Played.{IsMerged}
use Rattle.ufs_hand_laws.proofs.Ending.{has_mine, mine_has}
use Rattle.ufs_hand_laws.proofs.Keys.{itself}
use Rattle.ufs_hand_laws.specs.Owned.{Has}
use Rattle.ufs_model.specs.History.{DoTicketsRise, entries_of, joined}
use Rattle.ufs_model.specs.declared.data.Entry.{Entry}
use Rattle.ufs_rounds.proofs.Alone.{nothing_at, other}

-- ---- tickets

all_above : (n : ℕ) (es : List Entry) → ((e : Entry) → Has e es → n < e.ticket) → AllByRecursion (λ (later : Entry). n < later.ticket) es
all_above n [] above = tt
all_above n (e ∷ es) above = (above e (inl refl), all_above n es (λ x has. above x (inr has)))

pub above_all : (n : ℕ) (es : List Entry) (e : Entry) → AllByRecursion (λ (later : Entry). n < later.ticket) es → Has e es → n < e.ticket
above_all n [] e above has = absurd has
above_all n (x ∷ es) e above (inl is) = subst (λ (y : Entry). n < y.ticket) (sym is) above.0
above_all n (x ∷ es) e above (inr has) = above_all n es e above.1 has

-- one more behind the others
pub rises_push : (es : List Entry) (e : Entry) → DoTicketsRise es → ((x : Entry) → Has x es → x.ticket < e.ticket) → DoTicketsRise (es ++ e ∷ [])
rises_push [] e rising later = (tt, tt)
rises_push (x ∷ es) e rising later = (
  all_above x.ticket (es ++ e ∷ []) (λ y has. by y (split es y has)),
  rises_push es e rising.1 (λ y has. later y (inr has)),
)
  where
    split : (ys : List Entry) (y : Entry) → Has y (ys ++ e ∷ []) → Has y ys ⊎ (y ≡ e)
    split [] y (inl is) = inr is
    split [] y (inr none) = absurd none
    split (z ∷ ys) y (inl is) = inl (inl is)
    split (z ∷ ys) y (inr has) = ⊎_elim (λ (old : Has y ys). inl (inr old)) (λ (new : y ≡ e). inr new) (split ys y has)

    by : (y : Entry) → Has y es ⊎ (y ≡ e) → x.ticket < y.ticket
    by y (inl has) = above_all x.ticket es y rising.0 has
    by y (inr is) = subst (λ (z : Entry). x.ticket < z.ticket) (sym is) (later x (inl refl))

-- two lists of the same entries whose tickets rise are one
pub same_rising : (xs ys : List Entry) → DoTicketsRise xs → DoTicketsRise ys → ((e : Entry) → Has e xs → Has e ys) → ((e : Entry) → Has e ys → Has e xs) → xs ≡ ys
same_rising [] [] a b to back = refl
same_rising [] (y ∷ ys) a b to back = absurd (back y (inl refl))
same_rising (x ∷ xs) [] a b to back = absurd (to x (inl refl))
same_rising (x ∷ xs) (y ∷ ys) a b to back = λ i. first i ∷ same_rising xs ys a.1 b.1 onward backward i
  where
    first : x ≡ y
    first = ⊎_elim
        (λ (is : x ≡ y). is)
        (λ (has : Has x ys). ⊎_elim
        (λ (is : y ≡ x). sym is)
        (λ (there : Has y xs). let p = above_all y.ticket ys x b.0 has in let q = above_all x.ticket xs y a.0 there in absurd (omega (arith, p, q)))
        (back y (inl refl)))
        (to x (inl refl))

    onward : (e : Entry) → Has e xs → Has e ys
    onward e has = ⊎_elim
        (λ (is : e ≡ y). let p = above_all x.ticket xs e a.0 has in let q = ap (λ (z : Entry). z.ticket) (is ∙ sym first) in absurd (omega (arith, p, q)))
        (λ (there : Has e ys). there)
        (to e (inr has))

    backward : (e : Entry) → Has e ys → Has e xs
    backward e has = ⊎_elim
        (λ (is : e ≡ x). let p = above_all y.ticket ys e b.0 has in let q = ap (λ (z : Entry). z.ticket) (is ∙ first) in absurd (omega (arith, p, q)))
        (λ (there : Has e xs). there)
        (back e (inr has))

-- so there is one history of some transcripts
pub one_history : (lists : List (List Entry)) (a b : List Entry) → IsMerged lists a → IsMerged lists b → a ≡ b
one_history lists a b m n = same_rising a b m.rising n.rising (λ e has. there a b m n e has) (λ e has. there b a n m e has)
  where
    there : (xs ys : List Entry) → IsMerged lists xs → IsMerged lists ys → (e : Entry) → Has e xs → Has e ys
    there xs ys p q e has = mine_has e.client e ys (subst (Has e) (p.each e.client ∙ sym (q.each e.client)) (has_mine e xs has))

-- ---- a client's

pushed_at : (b : Bool) (x : Entry) (now was more : List Entry) → now ≡ was ++ more → cond b (x ∷ now) now ≡ cond b (x ∷ was) was ++ more
pushed_at true x now was more is = λ i. x ∷ is i
pushed_at false x now was more is = is

pub own_push : (client : ℕ) (es : List Entry) (e : Entry) → e.client ≡ client → entries_of client (es ++ e ∷ []) ≡ entries_of client es ++ e ∷ []
own_push client [] e is = ap (λ (b : Bool). cond b (e ∷ []) []) (ap (λ (n : ℕ). eqb n client) is ∙ itself client)
own_push client (x ∷ es) e is = pushed_at (eqb x.client client) x (entries_of client (es ++ e ∷ [])) (entries_of client es) (e ∷ []) (own_push client es e is)

pub other_push : (client : ℕ) (es : List Entry) (e : Entry) → (e.client ≡ client → ⊥) → entries_of client (es ++ e ∷ []) ≡ entries_of client es
other_push client es e not = push es ∙ append-nil (entries_of client es)
  where
    push : (ys : List Entry) → entries_of client (ys ++ e ∷ []) ≡ entries_of client ys ++ []
    push [] = ap (λ (b : Bool). cond b (e ∷ []) []) (other e.client client not)
    push (x ∷ ys) = pushed_at (eqb x.client client) x (entries_of client (ys ++ e ∷ [])) (entries_of client ys) [] (push ys)

-- none of a client of which none is there
pub none_of : (client : ℕ) (es : List Entry) → ((e : Entry) → Has e es → e.client ≡ client → ⊥) → entries_of client es ≡ []
none_of client [] none = refl
none_of client (x ∷ es) none = ap (λ (b : Bool). cond b (x ∷ entries_of client es) (entries_of client es)) (other x.client client (none x (inl refl))) ∙ none_of client es (λ e has. none e (inr has))

-- ---- one behind the other

-- where only this list and those before it have entries, one more of it stands behind them all
pub joined_last : (lists : List (List Entry)) (place : ℕ) (l : List Entry) (e : Entry) → slice_get lists place ≡ Some l → ((i : ℕ) (x : List Entry) → place < i → slice_get lists i ≡ Some x → x ≡ []) → joined (set lists place (l ++ e ∷ [])) ≡ joined lists ++ e ∷ []
joined_last [] place l e at behind = nothing_at [] place l refl at
joined_last (x ∷ lists) zero l e at behind =
    (λ i. (l ++ e ∷ []) ++ rest i) ∙ append-nil (l ++ e ∷ []) ∙ (λ i. sym same i ++ e ∷ []) ∙ (λ i. (sym (append-nil x) ∙ (λ j. x ++ sym rest j)) i ++ e ∷ [])
  where
    same : x ≡ l
    same = (let h = at in cc)

    none : (ls : List (List Entry)) → ((i : ℕ) (y : List Entry) → slice_get ls i ≡ Some y → y ≡ []) → joined ls ≡ []
    none [] empty = refl
    none (y ∷ ls) empty = (λ i. empty zero y refl i ++ joined ls) ∙ none ls (λ i z there. empty (suc i) z there)

    rest : joined lists ≡ []
    rest = none lists (λ i y there. behind (suc i) y (omega arith) there)
joined_last (x ∷ lists) (suc place) l e at behind =
    ap (λ (r : List Entry). x ++ r) (joined_last lists place l e at (λ i y low there. behind (suc i) y (omega (arith, low)) there)) ∙ sym (append_assoc x (joined lists) (e ∷ []))
