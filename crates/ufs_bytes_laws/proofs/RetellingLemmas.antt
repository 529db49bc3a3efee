-- What is told again has the same requests in the same order, and is the history again from its own tree.
use Rattle.std.proofs.Common.{◌≡◌, ℕ, List, [], ◌∷◌, Bool, true, false, cond, eqb, map, length, take, ap, sym, refl, ◌∙◌, ◌⊎◌, inl, inr, ◌+◌, suc}
use Rattle.std.proofs.lemmas.List.{length-map}
use Rattle.std.specs.List.{range_with_len}
use Rattle.ufs_model.specs.PosixTree.{PosixTree}
use Rattle.ufs_model.specs.History.{goes_on, IsReplyTo, IsExcused, IsLegalFrom, entries_of, requests_of}
use Rattle.ufs_model.specs.Posix.{posix}
use Rattle.ufs_model.specs.declared.data.Entry.{Entry}
use Rattle.ufs_model.specs.declared.data.Reply.{Reply}
use Rattle.ufs_model.proofs.PosixReplyLemmas.{IsPlain, posix_plain}
use Rattle.ufs_bytes_laws.specs.Redrawn.{redrawn_reply, redrawn, redrawn_all}
use Rattle.ufs_bytes_laws.proofs.EntryLemmas.{by_reply, plain_redrawn, unexcused}
use Rattle.ufs_bytes_laws.specs.Laws.{RetellsBack, RetellsInTurn, OrderIsKept, AllIsAnswered}

-- what stays of each entry stays of each client's
module _ {X : Type 0} (what : Entry → X) (stays : (u : PosixTree) (entry : Entry) → what (redrawn u entry) ≡ what entry) (client : ℕ) where
  keeps : (u : PosixTree) (history : List Entry) → map what (entries_of client (redrawn_all u history)) ≡ map what (entries_of client history)
  keeps u [] = refl
  keeps u (entry ∷ history) = by (eqb entry.client client) (keeps (goes_on u (redrawn u entry)) history)
    where
      by : (b : Bool)
          → map what (entries_of client (redrawn_all (goes_on u (redrawn u entry)) history)) ≡ map what (entries_of client history)
          → map what (cond b (redrawn u entry ∷ entries_of client (redrawn_all (goes_on u (redrawn u entry)) history)) (entries_of client (redrawn_all (goes_on u (redrawn u entry)) history)))
          ≡ map what (cond b (entry ∷ entries_of client history) (entries_of client history))
      by true rest = λ i. stays u entry i ∷ rest i
      by false rest = rest

module _ (u : PosixTree) (history : List Entry) (client : ℕ) where
  abbrev again : List Entry
  again = redrawn_all u history

  seqs : map (λ e. e.seq) (entries_of client again) ≡ map (λ e. e.seq) (entries_of client history)
  seqs = keeps (λ e. e.seq) (λ u e. refl) client u history

  ops : map (λ e. e.op) (entries_of client again) ≡ map (λ e. e.op) (entries_of client history)
  ops = keeps (λ e. e.op) (λ u e. refl) client u history

  pub count : length (entries_of client again) ≡ length (entries_of client history)
  count = sym (length-map (entries_of client again) (λ e. e.op)) ∙ ap length ops ∙ length-map (entries_of client history) (λ e. e.op)

pub order : OrderIsKept
order u clients history is = record {
  numbers = λ client. seqs u history client ∙ is.numbers client ∙ ap (range_with_len 0) (sym (count u history client));
  requests = λ client. ops u history client ∙ is.requests client ∙ ap (λ n. take n (requests_of clients client)) (sym (count u history client));
}

pub complete : AllIsAnswered
complete u clients history is client = count u history client ∙ is client

pub long : (u : PosixTree) (history : List Entry) → length (redrawn_all u history) ≡ length history
long u [] = refl
long u (entry ∷ history) = ap suc (long (goes_on u (redrawn u entry)) history)

-- ---- from its own tree

module _ (t u : PosixTree) (entry : Entry) where
  -- the tree gives the reply
  abbrev Gives : Reply → Type 0
  Gives r = (r ≡ (posix t entry.client entry.op).1) ⊎ IsExcused t entry.client entry.op r

  -- which is as it was
  same_reply : (r : Reply) → Gives r → redrawn_reply t entry.client entry.op (redrawn_reply u entry.client entry.op r) ≡ r
  same_reply = by_reply (λ r. Gives r → redrawn_reply t entry.client entry.op (redrawn_reply u entry.client entry.op r) ≡ r) (λ x so. refl) plain_same
    where
      plain_same : (r : Reply) → IsPlain r → Gives r → redrawn_reply t entry.client entry.op (redrawn_reply u entry.client entry.op r) ≡ r
      plain_same r plain (inl e) =
          ap (redrawn_reply t entry.client entry.op) (plain_redrawn u entry.client entry.op r plain)
          ∙ plain_redrawn t entry.client entry.op (posix u entry.client entry.op).1 (posix_plain u entry.client entry.op)
          ∙ sym e
      plain_same r plain (inr so) = absurd (unexcused t entry.client entry.op r plain so)

  same_entry : IsReplyTo t entry → redrawn t (redrawn u entry) ≡ entry
  same_entry so = λ i. record entry { reply = same_reply entry.reply so i }

-- a tree gives its own entry
module _ (t : PosixTree) (entry : Entry) where
  own_reply : (r : Reply) → Gives t t entry r → redrawn_reply t entry.client entry.op r ≡ r
  own_reply = by_reply (λ r. Gives t t entry r → redrawn_reply t entry.client entry.op r ≡ r) (λ x so. refl) plain_own
    where
      plain_own : (r : Reply) → IsPlain r → Gives t t entry r → redrawn_reply t entry.client entry.op r ≡ r
      plain_own r plain (inl e) = plain_redrawn t entry.client entry.op r plain ∙ sym e
      plain_own r plain (inr so) = absurd (unexcused t entry.client entry.op r plain so)

  pub own_entry : IsReplyTo t entry → redrawn t entry ≡ entry
  own_entry so = λ i. record entry { reply = own_reply entry.reply so i }

-- and its own history
pub own_history : (ticket : ℕ) (t : PosixTree) (history : List Entry) → IsLegalFrom ticket t history → redrawn_all t history ≡ history
own_history ticket t [] so = refl
own_history ticket t (entry ∷ history) so =
    let first : redrawn t entry ≡ entry = own_entry t entry so.0.replied in
    (λ i. first i ∷ redrawn_all (goes_on t (first i)) history) ∙ ap (λ h. entry ∷ h) (own_history (ticket + 1) (goes_on t entry) history so.1)

pub back : RetellsBack
back ticket t u [] so = refl
back ticket t u (entry ∷ history) so =
    let first : redrawn t (redrawn u entry) ≡ entry = same_entry t u entry so.0.replied in
    let rest = back (ticket + 1) (goes_on t entry) (goes_on u (redrawn u entry)) history so.1 in
    (λ i. first i ∷ redrawn_all (goes_on t (first i)) (redrawn_all (goes_on u (redrawn u entry)) history)) ∙ ap (λ h. entry ∷ h) rest

pub in_turn : RetellsInTurn
in_turn u [] later = refl
in_turn u (entry ∷ before) later = ap (λ h. redrawn u entry ∷ h) (in_turn (goes_on u (redrawn u entry)) before later)
