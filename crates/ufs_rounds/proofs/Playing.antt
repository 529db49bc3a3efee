-- A session that was played is finished.
use Rattle.std.proofs.Common.{◌≡◌, ℕ, zero, suc, ◌+◌, Bool, List, [], ◌∷◌, length, map, Result, Ok, Err, inl, inr, refl, ap, sym, ◌∙◌, subst, arith}
use Rattle.std.specs.Prelude.{OnOk}
use Rattle.ufs_base.specs.declared.memory.Memory.{Memory}
use Rattle.ufs_caller.specs.Callers.{Caller, entries_in}
use Rattle.ufs_caller.specs.declared.told.Told.{Told}
use Rattle.ufs_client.specs.Played.{IsMerged, transcript}
use Rattle.ufs_disk.specs.Moments.{Moments}
use Rattle.ufs_brink.specs.declared.closing.CloseFault.{CloseFault}
use Rattle.ufs_gathered.specs.Ended.{AnswerAll, AnswerFirst}
use Rattle.ufs_gathered.specs.Finished.{HasFinished}
use Rattle.ufs_hand_laws.specs.Owned.{Has}
use Rattle.ufs_hand_laws.proofs.Ending.{has_mine}
use Rattle.ufs_joint.specs.Cells.{Start}
use Rattle.ufs_model.specs.declared.data.Entry.{Entry}
use Rattle.ufs_model.specs.declared.data.Op.{Op}
use Rattle.ufs_msg.specs.There.{MayHaveServed}
use Rattle.ufs_rounds.specs.Made.{AreAllMadeThere, AreMadeFrom}
use Rattle.ufs_rounds.specs.Played.{HasPlayed}
use Rattle.ufs_rounds.specs.Scripts.{lists_of, script_of, scripts_of}
use Rattle.ufs_rounds.proofs.Together.{length_map}

-- ---- who made the entries

pub both_maps : {A : Type 0} (f : A → List Told) (xs : List A) → map (λ x. entries_in (f x)) xs ≡ map entries_in (map f xs)
both_maps f [] = refl
both_maps f (x ∷ xs) = λ i. entries_in (f x) ∷ both_maps f xs i

one_told : (e : Entry) (told : List Told) → Has e (entries_in told) → (x : Told) × Has x told × (x.entry ≡ e)
one_told e [] has = absurd has
one_told e (x ∷ told) (inl is) = (x, inl refl, sym is)
one_told e (x ∷ told) (inr has) = let more = one_told e told has in (more.0, inr more.1, more.2)

made_at : (k : Start) (n client : ℕ) (lists : List (List Told)) (e : Entry) → AreMadeFrom k n lists → Has e (transcript (map entries_in lists) client) → MayHaveServed k (n + client) e.by
made_at k n client [] e made has = absurd has
made_at k n zero (told ∷ lists) e made has =
    let x = one_told e told has in
    subst (λ (z : ℕ × Entry). MayHaveServed k z.0 z.1.by) (λ i. ((let same : n ≡ n + zero = omega arith in same) i, x.2 i)) (made.0 x.0 x.1).by
made_at k n (suc client) (told ∷ lists) e made has =
    subst (λ (c : ℕ). MayHaveServed k c e.by) (omega arith) (made_at k (suc n) client lists e made.1 has)

made_by : (k : Start) (lists : List (List Told)) (history : List Entry) → IsMerged (map entries_in lists) history → AreAllMadeThere k lists → (e : Entry) → Has e history → MayHaveServed k e.client e.by
made_by k lists history merged made e has =
    let same : 0 + e.client ≡ e.client = omega arith in
    subst (λ (n : ℕ). MayHaveServed k n e.by) same (made_at k 0 e.client lists e made (subst (Has e) (merged.each e.client) (has_mine e history has)))

-- what ended badly didn't end well
pub not_well : (ended : Result (Unit {0}) CloseFault) (X : Type 0) → OnOk ended ⊥ → OnOk ended X
not_well (Ok x) X none = absurd none
not_well (Err fault) X none = tt

-- ---- the whole

module _ (k : Start) (origin : Moments) (keeps : Bool) (scripts : List (List Op)) (tickets : ℕ) (lists : List (List Entry)) (answers : List (List Told)) (clients : List Caller) (bytes : Result ℕ Memory) (sectors faults : ℕ) (now : Moments) (ended : Result (Unit {0}) CloseFault)
    (told : lists ≡ lists_of clients) (are : lists ≡ map entries_in answers) (given : scripts_of clients ≡ scripts) (made : AreAllMadeThere k answers) where
  pub has_played : HasFinished k origin keeps tickets (lists_of clients) bytes sectors faults now ended → AnswerFirst scripts (lists_of clients) → AnswerAll scripts (lists_of clients)
      → HasPlayed k origin keeps scripts tickets lists bytes sectors faults now ended
  has_played finished first all =
      let fin : HasFinished k origin keeps tickets lists bytes sectors faults now ended = subst (λ (l : List (List Entry)). HasFinished k origin keeps tickets l bytes sectors faults now ended) (sym told) finished in
      let begun : AnswerFirst scripts lists = subst (AnswerFirst scripts) (sym told) first in
      let over : AnswerAll scripts lists = subst (AnswerAll scripts) (sym told) all in
      let history = fin.session.history in
      record {
        finished = fin;
        each = ap (length {A = List Entry}) told ∙ length_map (λ (c : Caller). entries_in c.told) clients ∙ sym (length_map script_of clients) ∙ ap (length {A = List Op}) given;
        made = made_by k answers history (subst (λ (l : List (List Entry)). IsMerged l history) are fin.session.merged) made;
        first = begun;
        ordered = fin.session.ordered scripts begun;
        all = over;
        complete = fin.session.complete scripts over;
      }
