-- The hand of a session, which has all clients, knows which history it has.
use Rattle.std.proofs.Common.{◌≡◌, ℕ, zero, suc, ◌<◌, ◌≤◌, eqb, List, [], ◌∷◌, length, Option, refl, ap, sym, ◌∙◌, subst, arith}
use Rattle.std.specs.Prelude.{take}
use native.Mathlib.Decide.{dec_le}
use Rattle.ufs_base.specs.declared.limits.TheConstants.{MAX_CLIENTS}
use Rattle.ufs_model.specs.History.{entries_of}
use Rattle.ufs_model.specs.declared.data.Entry.{Entry}
use Rattle.ufs_model.specs.declared.data.Op.{Op}
use Rattle.ufs_hand_laws.specs.Marks.{IsBeginningKnown}
use Rattle.ufs_hand_laws.specs.Owned.{count}
use Rattle.ufs_hand_laws.specs.Parts.{Start, View}
use Rattle.ufs_hand_laws.specs.Rule.{KnowsTickets}
use Rattle.ufs_hand_laws.proofs.Keys.{itself, alike}
use Rattle.ufs_hand_laws.proofs.Owning.{has_count}
use Rattle.ufs_one_hand.specs.OneHand.{HasSession}
use Rattle.ufs_one_hand.proofs.Counting.{none_of, numbered, one_list, same_length_all}
use Rattle.ufs_one_hand.proofs.Started.{one_client}

-- ---- what the hand knows

module _ (k : Start) (h : List Entry) (asked : Option (ℕ × Op)) (v : View) (tickets : ℕ) (s : HasSession k h asked v) (knows : KnowsTickets k v tickets) where
  same_entries : (c : ℕ) → entries_of c knows.history ≡ entries_of c h
  same_entries c = by (dec_le 1 (count eqb c v.clients))
    where
      by : Dec (1 ≤ count eqb c v.clients) → entries_of c knows.history ≡ entries_of c h
      by (yes l) = let p = has_count eqb itself alike c v.clients l in sym (knows.entries c p.0 p.1) ∙ (s.clients c p.0 p.1).entries
      by (no n) =
          none_of c knows.history (λ e a is. let low = knows.low e a in n (let o = one_client k h asked v s c (subst (λ m. m < MAX_CLIENTS) is low) in omega arith))
          ∙ sym (none_of c h (λ e a is. n (subst (λ m. 1 ≤ count eqb m v.clients) is (s.theirs e a))))

  pub tickets_are : tickets ≡ length h
  tickets_are = sym knows.all ∙ same_length_all knows.history h same_entries

  pub history_is : knows.history ≡ h
  history_is = one_list 0 knows.history h (numbered 0 k.tree knows.history knows.legal.entries) (numbered 0 k.tree h s.legal) (knows.all ∙ tickets_are) same_entries

long_take : {A : Type 0} (n : ℕ) (h : List A) → length h ≤ n → take n h ≡ h
long_take zero [] l = refl
long_take zero (x ∷ h) l = absurd (omega arith)
long_take (suc n) [] l = refl
long_take (suc n) (x ∷ h) l = ap (λ t. x ∷ t) (long_take n h (omega arith))

module _ (k : Start) (h : List Entry) (asked : Option (ℕ × Op)) (v : View) (s : HasSession k h asked v) (from tickets : ℕ) (begun : List Entry) (b : IsBeginningKnown k v from tickets begun) where
  abbrev known : KnowsTickets k v tickets
  known = record { history = b.history; legal = b.legal; all = b.all; entries = b.entries; low = b.low }

  pub whole_is : b.history ≡ h
  whole_is = history_is k h asked v tickets s known

  -- behind the last entry it is the whole history
  pub begun_is : length h ≤ from → begun ≡ h
  begun_is late = b.is ∙ ap (take b.count) whole_is ∙ long_take b.count h (let l = b.least in omega arith)

  pub known_tickets : tickets ≡ length h
  known_tickets = tickets_are k h asked v tickets s known
