-- What is known of each script that a text is: its schedule is for its own clients and workers.
use Rattle.std.proofs.Common.{◌≡◌, ℕ, ◌<◌, ◌≤◌, ◌+◌, List, [], ◌∷◌, ◌++◌, length, refl, Bool, true, false, Option, Some, None, Result, Ok, Err, cond, take, ◌∙◌, sym, subst, arith}
use Rattle.std.specs.Prelude.{codes, nat_le, nat_lt}
use Rattle.std.specs.List.{AllByRecursion, fold, list_any}
use Rattle.std.specs.Str.{bytes_eq}
use Rattle.std.proofs.lemmas.Bool.{cond_both}
use Rattle.ufs_model.specs.declared.data.Op.{Op}
use Rattle.ufs_script.specs.declared.draft.Draft.{Draft}
use Rattle.ufs_script.specs.declared.draft.Schedule.{Schedule}
use Rattle.ufs_script.specs.declared.fault.Cause.{Cause}
use Rattle.ufs_script.specs.declared.fault.Cause.TheVariants as cause
use Rattle.ufs_script.specs.declared.fault.ScriptFault.{ScriptFault}
use Rattle.ufs_script.specs.declared.lists.ScheduleWord.{ScheduleWord}
use Rattle.ufs_script.specs.declared.script.PlacedScript.{PlacedScript}
use Rattle.ufs_script.specs.declared.verb.Verb.{Verb}
use Rattle.ufs_script.specs.Lines.{ended_lines, lines_in}
use Rattle.ufs_script.specs.Words.{words_of}
use Rattle.ufs_script.specs.Requests.{and_then, exactly, number_at, request_of, verb_of, word_at}
use Rattle.ufs_script.specs.Schedule.{HasNoPlan, IsTurn, limited, max_words, max_workers, number_within, plan_line, turns_of}
use Rattle.ufs_script.specs.Script.{IsPlaced, after_line, after_words, client_line, client_part, clients_of, counted, draft_of, finished, is_comment, is_next, max_script, no_lines, part_line, passed, placed_of, placed_script, request_line, schedule_line, verb_line, with_client, with_request, with_turns}
use Rattle.ufs_script.proofs.FoldLemmas.{fault_stays}
use Rattle.ufs_script.proofs.TurnLemmas.{and_then_ok, limited_ok, turns_given, within_ok}

-- the schedule is for so many clients
record IsFor (clients : ℕ) (s : Schedule) : Type 0 where
  some : 1 ≤ s.workers
  workers : s.workers ≤ max_workers
  few : length s.words ≤ max_words
  turns : AllByRecursion (IsTurn clients s.workers) s.words
  planless : s.plan ≡ None → HasNoPlan s.words

abbrev Fits : ℕ → Option Schedule → Type 0
Fits clients None = Unit {0}
Fits clients (Some s) = IsFor clients s

abbrev IsKept : Draft → Type 0
IsKept draft = Fits (length (clients_of draft)) draft.schedule

-- where a line is read, the draft behind it is kept
abbrev Keeps : Result Draft Cause → Type 0
Keeps r = (new : Draft) → r ≡ Ok new → IsKept new

refused : (c : Cause) → Keeps (Err c)
refused c new e = cc

this : (draft : Draft) → IsKept draft → Keeps (Ok draft)
this draft kept new e = let same : draft ≡ new = cc in subst IsKept same kept

unless : (b : Bool) (c : Cause) (draft : Draft) → IsKept draft → Keeps (cond b (Ok draft) (Err c))
unless b c draft kept = cond_both b (Ok draft) (Err c) Keeps (λ is. this draft kept) (λ is. refused c)

-- ---- before the schedule

unscheduled : (draft : Draft) → draft.schedule ≡ None → IsKept draft
unscheduled draft none = subst (Fits (length (clients_of draft))) (sym none) tt

-- behind the line `schedule`
abbrev first_schedule : Draft → ℕ → Schedule
first_schedule draft workers = record { line = draft.lines + 1; workers = workers; words = []; plan = None }

abbrev begun : Draft → ℕ → Draft
begun draft workers = record draft { schedule = Some (first_schedule draft workers) }

module _ (draft : Draft) (none : draft.schedule ≡ None) where
  client_kept : (words : List (List ℕ)) → Keeps (client_line draft words)
  client_kept words new e =
      let x = and_then_ok (number_at words 0) (λ client. and_then (is_next draft client) (λ k. and_then (exactly 1 words k) (with_client draft))) new e in
      let y = and_then_ok (is_next draft x.0) (λ k. and_then (exactly 1 words k) (with_client draft)) new x.2 in
      let z = and_then_ok (exactly 1 words y.0) (with_client draft) new y.2 in
      unless (nat_lt z.0 16) cause.TooMany (record draft { before = clients_of draft; current = Some [] }) (unscheduled (record draft { before = clients_of draft; current = Some [] }) none) new z.2

  request_kept : (requests : Option (List Op)) (verb : Verb) (words : List (List ℕ)) → Keeps (request_line draft requests verb words)
  request_kept None verb words new e = cc
  request_kept (Some requests) verb words new e =
      let x = and_then_ok (request_of verb words) (with_request draft requests) new e in
      let more : Option (List Op) = Some (requests ++ x.0 ∷ []) in
      unless (nat_lt (length requests) 65536) cause.TooMany (record draft { current = more }) (unscheduled (record draft { current = more }) none) new x.2

  verb_kept : (verb : Option Verb) (words : List (List ℕ)) → Keeps (verb_line draft verb words)
  verb_kept None words = refused cause.BadWord
  verb_kept (Some verb) words = request_kept draft.current verb words

  schedule_kept : (words : List (List ℕ)) → Keeps (schedule_line draft words)
  schedule_kept words new e =
      let x = and_then_ok (word_at words 0) (λ word. and_then (number_within 1 9 word) (λ workers. exactly 1 words (begun draft workers))) new e in
      let y = and_then_ok (number_within 1 9 x.0) (λ workers. exactly 1 words (begun draft workers)) new x.2 in
      let both = within_ok 1 9 x.0 y.0 y.1 in
      let below : y.0 < 9 = both.1 in
      let whole : IsFor (length (clients_of draft)) (first_schedule draft y.0) = record { some = both.0; workers = omega arith; few = omega arith; turns = tt; planless = λ is. tt } in
      unless (nat_le (length words) 1) cause.BadWord (begun draft y.0) whole new y.2

  part_kept : (first : List ℕ) (words : List (List ℕ)) → Keeps (client_part draft first words)
  part_kept first words =
      cond_both (bytes_eq first (codes "client")) _ _ Keeps
      (λ is. client_kept words)
      (λ is. cond_both (bytes_eq first (codes "schedule")) _ _ Keeps (λ is. schedule_kept words) (λ is. verb_kept (verb_of first) words))

-- ---- behind it

no_plan : (before : Option ℕ) (now : ℕ) (words : List (List ℕ)) → plan_line before now words ≡ None → (before ≡ None) × (list_any (λ word. bytes_eq word (codes "l")) words ≡ false)
no_plan (Some line) now words e = cc
no_plan None now words e = (refl, by (list_any (λ word. bytes_eq word (codes "l")) words) e)
  where
    by : (b : Bool) → cond b (Some now) None ≡ None → b ≡ false
    by true e = cc
    by false e = refl

abbrev with_words : Schedule → ℕ → List (List ℕ) → List ScheduleWord → Schedule
with_words s number words turns = record s { words = turns; plan = plan_line s.plan number words }

turns_kept : (clients number : ℕ) (s new : Schedule) (words : List (List ℕ)) → IsFor clients s → with_turns clients number s words ≡ Ok new → IsFor clients new
turns_kept clients number s new words h e =
    let x = and_then_ok (limited (turns_of clients s.workers s.words words)) (λ turns. Ok (with_words s number words turns)) new e in
    let few = limited_ok (turns_of clients s.workers s.words words) x.0 x.1 in
    let are = turns_given clients s.workers words s.words x.0 h.turns few.0 in
    let same : with_words s number words x.0 ≡ new = cc in
    subst (IsFor clients) same (record {
      some = h.some;
      workers = h.workers;
      few = few.1;
      turns = are.0;
      planless = λ none. let both = no_plan s.plan number words none in are.1 both.1 (h.planless both.0);
    })

line_kept : (draft : Draft) (schedule : Option Schedule) → draft.schedule ≡ schedule → Fits (length (clients_of draft)) schedule → (first : List ℕ) (words : List (List ℕ)) → Keeps (part_line draft schedule first words)
line_kept draft None is kept first words new e = part_kept draft is first words new e
line_kept draft (Some s) is kept first words new e =
    let x = and_then_ok (with_turns (length (clients_of draft)) (draft.lines + 1) s (first ∷ words)) (λ more. Ok (record draft { schedule = Some more })) new e in
    let whole = turns_kept (length (clients_of draft)) (draft.lines + 1) s x.0 (first ∷ words) kept x.1 in
    this (record draft { schedule = Some x.0 }) whole new x.2

-- ---- all lines

words_kept : (draft : Draft) → IsKept draft → (words : List (List ℕ)) → Keeps (after_words draft words)
words_kept draft kept [] = this draft kept
words_kept draft kept (first ∷ words) =
    cond_both (is_comment first) _ _ Keeps
    (λ is. this draft kept)
    (λ is. cond_both draft.ended _ _ Keeps
    (λ is. refused cause.AfterEnd)
    (λ is. cond_both (bytes_eq first (codes "end")) _ _ Keeps
    (λ is. unless (nat_le (length words) 0) cause.BadWord (record draft { ended = true }) kept)
    (λ is. line_kept draft draft.schedule refl kept first words)))

counted_kept : (line : ℕ) (r : Result Draft Cause) → Keeps r → (new : Draft) → counted line r ≡ Ok new → IsKept new
counted_kept line (Err c) keeps new e = cc
counted_kept line (Ok draft) keeps new e =
    let same : record draft { lines = line } ≡ new = cc in
    subst IsKept same (keeps draft refl)

lines_kept : (lines : List (List ℕ)) (draft new : Draft) → IsKept draft → fold after_line (Ok draft) lines ≡ Ok new → IsKept new
lines_kept [] draft new kept e = let same : draft ≡ new = cc in subst IsKept same kept
lines_kept (line ∷ lines) draft new kept e = at (after_line (Ok draft) line) refl e (λ next kept' e'. lines_kept lines next new kept' e')
  where
    at : (r : Result Draft ScriptFault) → after_line (Ok draft) line ≡ r → fold after_line r lines ≡ Ok new
        → ((next : Draft) → IsKept next → fold after_line (Ok next) lines ≡ Ok new → IsKept new) → IsKept new
    at (Ok next) is e later = later next (counted_kept (draft.lines + 1) (after_words draft (words_of line)) (words_kept draft kept (words_of line)) next is) e
    at (Err f) is e later = let no : Err f ≡ Ok new = sym (fault_stays f lines) ∙ e in cc

-- ---- the script

placed_is : (clients : List (List Op)) (schedule : Option Schedule) → Fits (length clients) schedule → IsPlaced (placed_script clients schedule)
placed_is clients None kept = record {
  scheduled = record { some = omega arith; workers = omega arith; few = omega arith; turns = tt };
  plain = λ none. refl;
  planless = λ none. tt;
}
placed_is clients (Some s) kept = record {
  scheduled = record { some = kept.some; workers = kept.workers; few = kept.few; turns = kept.turns };
  plain = λ none. cc;
  planless = kept.planless;
}

abbrev IsKnown : Result PlacedScript ScriptFault → Type 0
IsKnown r = (placed : PlacedScript) → r ≡ Ok placed → IsPlaced placed

finished_known : (lines : List (List ℕ)) → IsKnown (finished (draft_of lines))
finished_known lines = at (draft_of lines) refl
  where
    at : (r : Result Draft ScriptFault) → draft_of lines ≡ r → IsKnown (finished r)
    at (Err f) is = λ placed e. cc
    at (Ok draft) is =
        cond_both draft.ended _ _ IsKnown
        (λ on placed e.
        let same : placed_script (clients_of draft) draft.schedule ≡ placed = cc in
        subst IsPlaced same (placed_is (clients_of draft) draft.schedule (lines_kept lines no_lines draft tt is)))
        (λ off placed e. cc)

passed_known : (r : Result Draft ScriptFault) → IsKnown (passed r)
passed_known (Ok draft) placed e = cc
passed_known (Err f) placed e = cc

pub placed_known : (text : List ℕ) → IsKnown (placed_of text)
placed_known text =
    cond_both (nat_le (length text) max_script) _ _ IsKnown
    (λ short. finished_known (lines_in text))
    (λ long. passed_known (draft_of (ended_lines (take max_script text))))
