-- A line by what the draft before it has: of the clients' part, or of the schedule.
use Rattle.std.proofs.Common.{◌≡◌, ℕ, ◌+◌, List, ◌∷◌, length, Option, Some, None, Result, Ok, ◌∙◌, sym, ap, inl, inr}
use Rattle.ufs_script.specs.declared.draft.Draft.{Draft}
use Rattle.ufs_script.specs.declared.draft.Schedule.{Schedule}
use Rattle.ufs_script.specs.declared.fault.Cause.{Cause}
use Rattle.ufs_script.specs.Requests.{IsCauseOf, and_then}
use Rattle.ufs_script.specs.Script.{client_part, clients_of, part_line, with_turns}

-- behind the draft's lines, with this schedule
abbrev with_schedule : Draft → Result Schedule Cause → Result Draft Cause
with_schedule draft r = and_then r (λ new. Ok (record draft { schedule = Some new }))

part_some : (draft : Draft) (s : Schedule) (count : ℕ) (first : List ℕ) (all rest : List (List ℕ)) → draft.schedule ≡ Some s → count ≡ length (clients_of draft) → all ≡ first ∷ rest
    → part_line draft draft.schedule first rest ≡ with_schedule draft (with_turns count (draft.lines + 1) s all)
part_some draft s count first all rest is counted line =
    ap (λ (o : Option Schedule). part_line draft o first rest) is
    ∙ ap (λ (k : ℕ). with_schedule draft (with_turns k (draft.lines + 1) s (first ∷ rest))) (sym counted)
    ∙ ap (λ (words : List (List ℕ)). with_schedule draft (with_turns count (draft.lines + 1) s words)) (sym line)

pub part_ok : (draft : Draft) (s new : Schedule) (count : ℕ) (first : List ℕ) (all rest : List (List ℕ)) → draft.schedule ≡ Some s → count ≡ length (clients_of draft) → all ≡ first ∷ rest
    → with_turns count (draft.lines + 1) s all ≡ Ok new → part_line draft draft.schedule first rest ≡ Ok (record draft { schedule = Some new })
part_ok draft s new count first all rest is counted line read = part_some draft s count first all rest is counted line ∙ ap (with_schedule draft) read

pub part_err : (draft : Draft) (s : Schedule) (count : ℕ) (first : List ℕ) (all rest : List (List ℕ)) (c : Cause) → draft.schedule ≡ Some s → count ≡ length (clients_of draft) → all ≡ first ∷ rest
    → IsCauseOf (with_turns count (draft.lines + 1) s all) c → IsCauseOf (part_line draft draft.schedule first rest) c
part_err draft s count first all rest c is counted line (inl memory) = inl memory
part_err draft s count first all rest c is counted line (inr broken) = inr (part_some draft s count first all rest is counted line ∙ ap (with_schedule draft) broken)

pub part_none : (draft : Draft) (first : List ℕ) (rest : List (List ℕ)) → draft.schedule ≡ None → client_part (record draft { schedule = None }) first rest ≡ part_line draft draft.schedule first rest
part_none draft first rest is =
    ap (λ (o : Option Schedule). client_part (record draft { schedule = o }) first rest) (sym is)
    ∙ sym (ap (λ (o : Option Schedule). part_line draft o first rest) is)
