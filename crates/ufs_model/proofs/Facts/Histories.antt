-- How a history goes on by an entry.
use Rattle.std.proofs.Common.{◌≡◌, ◌≢◌, ℕ, ◌+◌, List, [], ◌∷◌, ◌++◌, false, cond, Some, ap, sym, refl, ◌∙◌, subst, arith, eqb, length, take, map, zero, suc, ◌⊎◌, inl, inr}
use Rattle.std.specs.Prelude.{slice_get}
use Rattle.std.specs.List.{range_with_len, AllByRecursion}
use Rattle.std.proofs.lemmas.Bool.{eq-eqb, ne_eqb, cases_eq}
use Rattle.std.proofs.lemmas.List.{length-append, append-nil, map-append}
use Rattle.std.proofs.lemmas.List.Elements.{filter-append}
use Rattle.ufs_model.specs.PosixTree.{PosixTree}
use Rattle.ufs_model.specs.History.{IsLegalFrom, IsLegal, IsLegalEntry, AreFaultsOnce, TellsNewFault, share_fault, IsInOrder, IsNext, tree_after, goes_on, entries_of, requests_of}
use Rattle.ufs_model.specs.declared.data.Op.{Op}
use Rattle.ufs_model.specs.declared.data.Entry.{Entry}

pub tree_after-push : (t : PosixTree) (history : List Entry) (entry : Entry) → tree_after t (history ++ entry ∷ []) ≡ goes_on (tree_after t history) entry
tree_after-push t [] entry = refl
tree_after-push t (e ∷ history) entry = tree_after-push (goes_on t e) history entry

pub legal_from_push : (ticket : ℕ) (t : PosixTree) (history : List Entry) (entry : Entry) → IsLegalFrom ticket t history → IsLegalEntry (ticket + length history) (tree_after t history) entry
    → IsLegalFrom ticket t (history ++ entry ∷ [])
legal_from_push ticket t [] entry legal next = (subst (λ (n : ℕ). IsLegalEntry n t entry) (omega arith) next, tt)
legal_from_push ticket t (e ∷ history) entry legal next =
    (legal.0, legal_from_push (ticket + 1) (goes_on t e) history entry legal.1 (subst (λ (n : ℕ). IsLegalEntry n (tree_after (goes_on t e) history) entry) (omega arith) next))

pub all-push : {X : Type 0} (P : X → Type 0) (xs : List X) (x : X) → AllByRecursion P xs → P x → AllByRecursion P (xs ++ x ∷ [])
all-push P [] x all is = (is, tt)
all-push P (y ∷ xs) x all is = (all.0, all-push P xs x all.1 is)

pub faults-push : (history : List Entry) (entry : Entry) → AreFaultsOnce history → TellsNewFault history entry → AreFaultsOnce (history ++ entry ∷ [])
faults-push [] entry once new = (tt, tt)
faults-push (e ∷ history) entry once new = (all-push (λ later. share_fault e.reply later.reply ≡ false) history entry once.0 new.0, faults-push history entry once.1 new.1)

pub legal-push : (start : PosixTree) (history : List Entry) (entry : Entry) → IsLegal start history → IsLegalEntry (length history) (tree_after start history) entry → TellsNewFault history entry
    → IsLegal start (history ++ entry ∷ [])
legal-push start history entry legal next new = record {
  entries = legal_from_push 0 start history entry legal.entries (subst (λ (n : ℕ). IsLegalEntry n (tree_after start history) entry) (omega arith) next);
  faults = faults-push history entry legal.faults new;
}

pub entries_of-push : (client : ℕ) (history : List Entry) (entry : Entry) → entries_of client (history ++ entry ∷ []) ≡ entries_of client history ++ cond (eqb entry.client client) (entry ∷ []) []
entries_of-push client history entry = filter-append (λ e. eqb e.client client) history (entry ∷ [])

pub own-push : (history : List Entry) (entry : Entry) → entries_of entry.client (history ++ entry ∷ []) ≡ entries_of entry.client history ++ entry ∷ []
own-push history entry = entries_of-push entry.client history entry ∙ ap (λ b. entries_of entry.client history ++ cond b (entry ∷ []) []) (eq-eqb entry.client entry.client refl)

pub others-push : (client : ℕ) (history : List Entry) (entry : Entry) → entry.client ≢ client → entries_of client (history ++ entry ∷ []) ≡ entries_of client history
others-push client history entry apart = entries_of-push client history entry ∙ ap (λ b. entries_of client history ++ cond b (entry ∷ []) []) (ne_eqb entry.client client apart) ∙ append-nil _

pub order_none : (clients : List (List Op)) → IsInOrder clients []
order_none clients = record { numbers = λ client. refl; requests = λ client. refl }

pub range-push : (a n : ℕ) → range_with_len a (suc n) ≡ range_with_len a n ++ (a + n) ∷ []
range-push a zero = ap (λ (k : ℕ). k ∷ []) (omega arith)
range-push a (suc n) = ap (λ l. a ∷ l) (range-push (a + 1) n ∙ ap (λ (k : ℕ). range_with_len (a + 1) n ++ k ∷ []) (omega arith))

pub take-push : {X : Type 0} (xs : List X) (n : ℕ) (x : X) → slice_get xs n ≡ Some x → take (suc n) xs ≡ take n xs ++ x ∷ []
take-push [] n x e = cc
take-push (y ∷ xs) zero x e = let same : y ≡ x = cc in ap (λ z. z ∷ []) same
take-push (y ∷ xs) (suc n) x e = ap (λ l. y ∷ l) (take-push xs n x e)

-- what a client's entries tell, with one more of its own
module _ (clients : List (List Op)) (entries : List Entry) (entry : Entry) (more : List Entry) (is : more ≡ entries ++ entry ∷ []) where
  pub longer : length more ≡ suc (length entries)
  longer = ap length is ∙ length-append entries (entry ∷ []) ∙ omega arith

  pub numbers-push : map (λ e. e.seq) entries ≡ range_with_len 0 (length entries) → entry.seq ≡ length entries → map (λ e. e.seq) more ≡ range_with_len 0 (length more)
  numbers-push before next =
      ap (map (λ e. e.seq)) is ∙ map-append (λ (e : Entry). e.seq) entries (entry ∷ [])
      ∙ (λ i. before i ++ next i ∷ [])
      ∙ ap (λ (k : ℕ). range_with_len 0 (length entries) ++ k ∷ []) (omega arith)
      ∙ sym (range-push 0 (length entries)) ∙ ap (range_with_len 0) (sym longer)

  pub requests-push : (requests : List Op) → map (λ e. e.op) entries ≡ take (length entries) requests → slice_get requests (length entries) ≡ Some entry.op → map (λ e. e.op) more ≡ take (length more) requests
  requests-push requests before asked =
      ap (map (λ e. e.op)) is ∙ map-append (λ (e : Entry). e.op) entries (entry ∷ [])
      ∙ ap (λ l. l ++ entry.op ∷ []) before
      ∙ sym (take-push requests (length entries) entry.op asked) ∙ ap (λ k. take k requests) (sym longer)

pub order-push : (clients : List (List Op)) (history : List Entry) (entry : Entry) → IsInOrder clients history → IsNext clients history entry → IsInOrder clients (history ++ entry ∷ [])
order-push clients history entry ordered next = record { numbers = λ client. numbers client (cases_eq entry.client client); requests = λ client. requests client (cases_eq entry.client client) }
  where
    numbers : (client : ℕ) → (entry.client ≡ client) ⊎ (entry.client ≡ client → ⊥) → map (λ e. e.seq) (entries_of client (history ++ entry ∷ [])) ≡ range_with_len 0 (length (entries_of client (history ++ entry ∷ [])))
    numbers client (inl same) =
        subst (λ (c : ℕ). map (λ e. e.seq) (entries_of c (history ++ entry ∷ [])) ≡ range_with_len 0 (length (entries_of c (history ++ entry ∷ [])))) same
        (numbers-push clients (entries_of entry.client history) entry (entries_of entry.client (history ++ entry ∷ [])) (own-push history entry) (ordered.numbers entry.client) next.numbered)
    numbers client (inr apart) =
        subst (λ (l : List Entry). map (λ e. e.seq) l ≡ range_with_len 0 (length l)) (sym (others-push client history entry apart)) (ordered.numbers client)

    requests : (client : ℕ) → (entry.client ≡ client) ⊎ (entry.client ≡ client → ⊥) → map (λ e. e.op) (entries_of client (history ++ entry ∷ [])) ≡ take (length (entries_of client (history ++ entry ∷ []))) (requests_of clients client)
    requests client (inl same) =
        subst (λ (c : ℕ). map (λ e. e.op) (entries_of c (history ++ entry ∷ [])) ≡ take (length (entries_of c (history ++ entry ∷ []))) (requests_of clients c)) same
        (requests-push clients (entries_of entry.client history) entry (entries_of entry.client (history ++ entry ∷ [])) (own-push history entry) (requests_of clients entry.client) (ordered.requests entry.client)
        (ap (slice_get (requests_of clients entry.client)) (sym next.numbered) ∙ next.asked))
    requests client (inr apart) =
        subst (λ (l : List Entry). map (λ e. e.op) l ≡ take (length l) (requests_of clients client)) (sym (others-push client history entry apart)) (ordered.requests client)
