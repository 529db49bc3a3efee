-- Clients' requests are served client after client, and one by one.
use Rattle.std.proofs.Common.{◌≡◌, ℕ, ◌+◌, ◌*◌, ◌≤◌, ◌<◌, List, [], ◌∷◌, ◌++◌, Some, None, ap, sym, refl, subst, ◌∙◌, length, arith, zero, suc, ◌⊎◌, inl, inr, unwrap_or}
use Rattle.std.specs.Prelude.{slice_get}
use Rattle.std.specs.List.{AllByRecursion}
use Rattle.std.proofs.lemmas.List.{length-append, append-nil, append_assoc}
use Rattle.std.proofs.lemmas.Bool.{cases_eq}
use Rattle.ufs_model.specs.PosixTree.{PosixTree, root_alone}
use Rattle.ufs_model.specs.Posix.{posix}
use Rattle.ufs_model.specs.History.{IsLegal, IsPosixEntry, IsInOrder, IsNext, IsComplete, AreUnexcused, tree_after, entries_of, requests_of}
use Rattle.ufs_model.specs.declared.data.Op.{Op}
use Rattle.ufs_model.specs.declared.data.Entry.{Entry}

pub all_here : {X : Type 0} (P : X → Type 0) (front : List X) (x : X) (rest : List X) → AllByRecursion P (front ++ x ∷ rest) → P x
all_here P [] x rest all = all.0
all_here P (y ∷ front) x rest all = all_here P front x rest all.1

get_here : {X : Type 0} (front : List X) (x : X) (rest : List X) → slice_get (front ++ x ∷ rest) (length front) ≡ Some x
get_here [] x rest = refl
get_here (y ∷ front) x rest = get_here front x rest

get_past : {X : Type 0} (xs : List X) (n : ℕ) → length xs ≤ n → slice_get xs n ≡ None
get_past [] n h = refl
get_past (x ∷ xs) zero h = absurd (omega arith)
get_past (x ∷ xs) (suc n) h = get_past xs n (omega arith)

pub no_items : {X : Type 0} (xs : List X) → length xs ≡ 0 → xs ≡ []
no_items [] e = refl
no_items (x ∷ xs) e = absurd (omega arith)

-- fewer are done than there are
pub fewer : {X : Type 0} (all done rest : List X) (x : X) → done ++ x ∷ rest ≡ all → length done < length all
fewer all done rest x whole = omega (arith, ap length whole, length-append done (x ∷ rest))

-- ---- one client

-- how far the serving of a client has come, from this history on
pub record IsServing (client : ℕ) (requests : List Op) (before : List Entry) (tree : PosixTree) (history : List Entry) (seq : ℕ) (done rest : List Op) : Type 0 where
  pub whole : done ++ rest ≡ requests
  pub counted : length done ≡ seq
  pub long : length history ≡ length before + seq
  pub legal : IsLegal root_alone history
  pub tree_is : tree ≡ tree_after root_alone history
  pub ordered : (clients : List (List Op)) → IsInOrder clients before → requests_of clients client ≡ requests → IsInOrder clients history
  pub own : length (entries_of client history) ≡ seq
  pub others : (c : ℕ) → (client ≡ c → ⊥) → entries_of c history ≡ entries_of c before
  pub next : tree.next ≤ length history
  pub unexcused : AreUnexcused history

pub begins : (client : ℕ) (requests : List Op) (tree : PosixTree) (history : List Entry) → tree.next ≤ length history → IsLegal root_alone history → tree ≡ tree_after root_alone history → entries_of client history ≡ [] → AreUnexcused history
    → IsServing client requests history tree history 0 [] requests
begins client requests tree history few legal state fresh unexcused = record {
  whole = refl;
  counted = refl;
  long = omega arith;
  legal = legal;
  tree_is = state;
  ordered = λ clients ordered asked. ordered;
  own = ap length fresh;
  others = λ c apart. refl;
  next = few;
  unexcused = unexcused;
}

module _ (client : ℕ) (requests : List Op) (before : List Entry) (tree new_tree : PosixTree) (history new_history : List Entry) (seq : ℕ) (done rest : List Op) (entry : Entry)
    (so_far : IsServing client requests before tree history seq done (entry.op ∷ rest))
    (client_is : entry.client ≡ client) (ticket : entry.ticket ≡ length history) (number : entry.seq ≡ seq) (stepped : posix tree client entry.op ≡ (new_tree, entry.reply)) (rises : new_tree.next ≤ tree.next + 1)
    (pushed : new_history ≡ history ++ entry ∷ [])
    (served : (start after : PosixTree) → IsLegal start history → IsPosixEntry (length history) (tree_after start history) after entry → IsLegal start new_history × (tree_after start new_history ≡ after))
    (plain : (start after : PosixTree) → AreUnexcused history → IsPosixEntry (length history) start after entry → AreUnexcused new_history)
    (order : (clients : List (List Op)) → IsInOrder clients history → IsNext clients history entry → IsInOrder clients new_history)
    (own : entries_of entry.client new_history ≡ entries_of entry.client history ++ entry ∷ [])
    (others : (c : ℕ) → (entry.client ≡ c → ⊥) → entries_of c new_history ≡ entries_of c history) where
  -- what the tree before answered
  posix_entry : IsPosixEntry (length history) (tree_after root_alone history) new_tree entry
  posix_entry = record { numbered = ticket; stepped = (λ i. posix (sym so_far.tree_is i) (client_is i) entry.op) ∙ stepped }

  went_on : IsLegal root_alone new_history × (tree_after root_alone new_history ≡ new_tree)
  went_on = served root_alone new_tree so_far.legal posix_entry

  is_next : (clients : List (List Op)) → requests_of clients client ≡ requests → IsNext clients history entry
  is_next clients asked = record {
    numbered = number ∙ sym so_far.own ∙ ap (λ (c : ℕ). length (entries_of c history)) (sym client_is);
    asked = (λ i. slice_get (requests_of clients (client_is i)) (number i))
        ∙ (λ i. slice_get ((asked ∙ sym so_far.whole) i) (sym so_far.counted i)) ∙ get_here done entry.op rest;
  }

  longer : length new_history ≡ length history + 1
  longer = ap length pushed ∙ length-append history (entry ∷ [])

  pub one_more : IsServing client requests before new_tree new_history (seq + 1) (done ++ entry.op ∷ []) rest
  one_more = record {
    whole = append_assoc done (entry.op ∷ []) rest ∙ so_far.whole;
    counted = length-append done (entry.op ∷ []) ∙ ap (λ (n : ℕ). n + 1) so_far.counted;
    long = omega (arith, longer, so_far.long);
    legal = went_on.0;
    tree_is = sym went_on.1;
    ordered = λ clients ordered asked. order clients (so_far.ordered clients ordered asked) (is_next clients asked);
    own = ap (λ (c : ℕ). length (entries_of c new_history)) (sym client_is) ∙ ap length own ∙ length-append (entries_of entry.client history) (entry ∷ [])
        ∙ ap (λ (n : ℕ). n + 1) (ap (λ (c : ℕ). length (entries_of c history)) client_is ∙ so_far.own);
    others = λ c apart. others c (λ e. apart (sym client_is ∙ e)) ∙ so_far.others c apart;
    next = omega (arith, rises, so_far.next, longer);
    unexcused = plain (tree_after root_alone history) new_tree so_far.unexcused posix_entry;
  }

-- ---- all clients

-- how far the serving of all clients has come
pub record AreServing (clients : List (List Op)) (tree : PosixTree) (history : List Entry) (count : ℕ) (done rest : List (List Op)) : Type 0 where
  pub whole : done ++ rest ≡ clients
  pub counted : length done ≡ count
  pub few : length history ≤ count * 65536
  pub next : tree.next ≤ length history
  pub legal : IsLegal root_alone history
  pub unexcused : AreUnexcused history
  pub tree_is : tree ≡ tree_after root_alone history
  pub ordered : IsInOrder clients history
  pub complete : (c : ℕ) → c < count → length (entries_of c history) ≡ length (requests_of clients c)
  pub fresh : (c : ℕ) → count ≤ c → entries_of c history ≡ []

pub none_served : (clients : List (List Op)) (tree : PosixTree) (history : List Entry) → tree ≡ root_alone → history ≡ [] → ((clients : List (List Op)) → IsInOrder clients history) → AreServing clients tree history 0 [] clients
none_served clients tree history start empty order =
    let none : length history ≡ 0 = ap length empty in
    let first : tree.next ≡ 0 = ap (λ (t : PosixTree). t.next) start in record {
      whole = refl;
      counted = refl;
      few = omega arith;
      next = omega arith;
      legal = subst (λ (h : List Entry). IsLegal root_alone h) (sym empty) (record { entries = tt; faults = tt });
      unexcused = subst AreUnexcused (sym empty) tt;
      tree_is = start ∙ ap (tree_after root_alone) (sym empty);
      ordered = order clients;
      complete = λ c below. absurd (omega arith);
      fresh = λ c above. ap (entries_of c) empty;
    }

-- the next client's requests are those behind the clients that are done
asked_next : (clients done rest : List (List Op)) (requests : List Op) (count : ℕ) → done ++ requests ∷ rest ≡ clients → length done ≡ count → requests_of clients count ≡ requests
asked_next clients done rest requests count whole counted = ap (λ o. unwrap_or o []) ((λ i. slice_get (sym whole i) (sym counted i)) ∙ get_here done requests rest)

module _ (clients : List (List Op)) (tree new_tree : PosixTree) (history new_history : List Entry) (count : ℕ) (done rest : List (List Op)) (requests : List Op)
    (so_far : AreServing clients tree history count done (requests ∷ rest))
    (few : length new_history ≤ length history + 65536) (next : new_tree.next ≤ length new_history) (legal : IsLegal root_alone new_history) (unexcused : AreUnexcused new_history) (state : new_tree ≡ tree_after root_alone new_history)
    (ordered : (clients : List (List Op)) → IsInOrder clients history → requests_of clients count ≡ requests → IsInOrder clients new_history)
    (own : length (entries_of count new_history) ≡ length requests) (others : (c : ℕ) → (count ≡ c → ⊥) → entries_of c new_history ≡ entries_of c history) where
  asked : requests_of clients count ≡ requests
  asked = asked_next clients done rest requests count so_far.whole so_far.counted

  complete : (c : ℕ) → (count ≡ c) ⊎ (count ≡ c → ⊥) → c < count + 1 → length (entries_of c new_history) ≡ length (requests_of clients c)
  complete c (inl same) below = ap (λ k. length (entries_of k new_history)) (sym same) ∙ own ∙ ap length (sym asked) ∙ ap (λ k. length (requests_of clients k)) same
  complete c (inr apart) below = ap length (others c apart) ∙ so_far.complete c (omega (arith, apart, below))

  pub one_client_more : AreServing clients new_tree new_history (count + 1) (done ++ requests ∷ []) rest
  one_client_more = record {
    whole = append_assoc done (requests ∷ []) rest ∙ so_far.whole;
    counted = length-append done (requests ∷ []) ∙ ap (λ (n : ℕ). n + 1) so_far.counted;
    few = omega (arith, few, so_far.few);
    next = next;
    legal = legal;
    unexcused = unexcused;
    tree_is = state;
    ordered = ordered clients so_far.ordered asked;
    complete = λ c below. complete c (cases_eq count c) below;
    fresh = λ c above. others c (λ e. absurd (omega (arith, e, above))) ∙ so_far.fresh c (omega (arith, above));
  }

-- all are done
pub all_served : (clients : List (List Op)) (tree : PosixTree) (history : List Entry) (count : ℕ) (done : List (List Op)) → AreServing clients tree history count done [] → IsComplete clients history
all_served clients tree history count done served c = by (cases_below c count)
  where
    cases_below : (a b : ℕ) → (a < b) ⊎ (b ≤ a)
    cases_below a zero = inr (omega arith)
    cases_below zero (suc b) = inl (omega arith)
    cases_below (suc a) (suc b) = up (cases_below a b)
      where
        up : (a < b) ⊎ (b ≤ a) → (suc a < suc b) ⊎ (suc b ≤ suc a)
        up (inl h) = inl (omega (arith, h))
        up (inr h) = inr (omega (arith, h))

    by : (c < count) ⊎ (count ≤ c) → length (entries_of c history) ≡ length (requests_of clients c)
    by (inl below) = served.complete c below
    by (inr above) =
        let long : length clients ≤ c = omega (arith, ap length (sym (append-nil done) ∙ served.whole), served.counted, above) in
        ap length (served.fresh c above) ∙ ap (λ o. length (unwrap_or o [])) (sym (get_past clients c long))
