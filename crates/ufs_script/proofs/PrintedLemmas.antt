-- What is printed of a script is read as that script.
use Rattle.std.proofs.Common.{◌≡◌, ℕ, ◌<◌, ◌≤◌, ◌+◌, ◌-◌, ◌^◌, List, [], ◌∷◌, ◌++◌, append_assoc, length, length-append, map, refl, Bool, true, false, not, Option, Some, None, Result, Ok, Err, cond, take, eq-eqb, ◌∙◌, sym, ap, subst, inl, inr, arith}
use Rattle.std.specs.Prelude.{◌==◌, ◌&&◌, codes}
use Rattle.std.specs.Fmt.{decimal}
use Rattle.std.specs.Option.{option_to_list}
use Rattle.std.specs.List.{fold, filter, slice_split, AllByRecursion}
use Rattle.std.proofs.lemmas.Bool.{and_parts, eqb-true, le-leb, lt-ltb}
use Rattle.std.proofs.lemmas.Bool.Decides.{eqb_tells}
use Rattle.std.proofs.lemmas.List.{append-nil, map-append}
use Rattle.std.proofs.lemmas.List.Elements.{All-append, All-cons, All-nil}
use Rattle.std.proofs.lemmas.List.Sums.{fold-append}
use Rattle.std.proofs.lemmas.List.Splits.{slice_split_at, slice_split_none}
use Rattle.ufs_model.specs.Bounds.{IsBounded}
use Rattle.ufs_model.specs.declared.data.Op.{Op}
use Rattle.ufs_model.specs.declared.data.Op.TheVariants as op
use Rattle.ufs_script.specs.declared.draft.Draft.{Draft}
use Rattle.ufs_script.specs.declared.draft.Schedule.{Schedule}
use Rattle.ufs_script.specs.declared.fault.Cause.TheVariants as cause
use Rattle.ufs_script.specs.declared.fault.ScriptFault.{ScriptFault}
use Rattle.ufs_script.specs.declared.lists.ScheduleWord.{ScheduleWord}
use Rattle.ufs_script.specs.declared.script.Script.{Script}
use Rattle.ufs_script.specs.declared.lists.ScheduleWord.TheVariants as turn
use Rattle.ufs_script.specs.Words.{is_blank, words_of}
use Rattle.ufs_script.specs.Requests.{and_then}
use Rattle.ufs_script.specs.Lines.{without_return, all_ended, all_unended, ended_lines, unended_line, lines_in}
use Rattle.ufs_script.specs.Script.{no_lines, counted, with_request, with_turns, after_words, after_line, draft_of, finished, unplaced}
use Rattle.ufs_script.specs.Schedule.{IsScheduled, IsTurn, limited, plan_line, turn_of}
use Rattle.ufs_script.specs.Spelling.{is_inside, request_words, client_lines, schedule_lines, script_lines, turn_lines, turn_text, words_text, lines_text, script_text, HasPath, IsSpellable, IsClient, PrintedIsRead}
use Rattle.ufs_script.proofs.NumberLemmas.{number_back}
use Rattle.ufs_script.proofs.LineLemmas.{ended_more, unended_more, some_piece}
use Rattle.ufs_script.proofs.InsideLemmas.{AreWords, literal, free_of, Free, word_free, decimal_word}
use Rattle.ufs_script.proofs.SpellingLemmas as spelled
use Rattle.ufs_script.proofs.TurnLemmas.{turn_back, turn_word}

-- ---- the words of a line

-- words with one space between them
abbrev joined : List (List ℕ) → List ℕ
joined [] = []
joined (word ∷ []) = word
joined (word ∷ next ∷ words) = word ++ 32 ∷ joined (next ∷ words)

text_joined : (words : List (List ℕ)) → words_text words ≡ joined words ++ 10 ∷ []
text_joined [] = refl
text_joined (word ∷ []) = refl
text_joined (word ∷ next ∷ words) = ap (λ rest. word ++ 32 ∷ rest) (text_joined (next ∷ words)) ∙ sym (append_assoc word (32 ∷ joined (next ∷ words)) (10 ∷ []))

-- a byte that stands in no word and is no space isn't in the line
joined_free : (c : ℕ) → (32 == c) ≡ false → is_inside c ≡ false → (words : List (List ℕ)) → AreWords words → Free c (joined words)
joined_free c space off [] all = All-nil (λ x. (x == c) ≡ false)
joined_free c space off (word ∷ []) all = free_of c is_inside off word all.0.inside
joined_free c space off (word ∷ next ∷ words) all =
    All-append (λ x. (x == c) ≡ false) word (32 ∷ joined (next ∷ words)) (free_of c is_inside off word all.0.inside)
    (All-cons (λ x. (x == c) ≡ false) 32 (joined (next ∷ words)) space (joined_free c space off (next ∷ words) all.1))

kept : (word : List ℕ) (rest : List (List ℕ)) → 1 ≤ length word → filter (λ w. not (length w == 0)) (word ∷ rest) ≡ word ∷ filter (λ w. not (length w == 0)) rest
kept word rest some = elim (eqb_tells (length word) 0) [
  | inl same ↦ let none = same.1 in absurd (omega (arith, none))
  | inr other ↦ ap (λ t. cond (not t) (word ∷ filter (λ w. not (length w == 0)) rest) (filter (λ w. not (length w == 0)) rest)) other.0
]

words_back : (words : List (List ℕ)) → AreWords words → words_of (joined words) ≡ words
words_back [] all = refl
words_back (word ∷ []) all =
    ap (filter (λ w. not (length w == 0))) (slice_split_none is_blank word (word_free word all.0.inside))
    ∙ kept word [] all.0.some
words_back (word ∷ next ∷ words) all =
    ap (filter (λ w. not (length w == 0))) (slice_split_at is_blank word 32 (joined (next ∷ words)) (word_free word all.0.inside) refl)
    ∙ kept word (slice_split is_blank (joined (next ∷ words))) all.0.some
    ∙ ap (λ rest. word ∷ rest) (words_back (next ∷ words) all.1)

-- ---- the lines of a text

no_return : (line : List ℕ) → Free 13 line → without_return line ≡ line
no_return [] free = refl
no_return (b ∷ line) free = ap (λ t. cond t (take (length (b ∷ line) - 1) (b ∷ line)) (b ∷ line)) (free (length (b ∷ line) - 1) 0 (omega arith))

abbrev AreLines : List (List (List ℕ)) → Type 0
AreLines lines = AllByRecursion AreWords lines

line_before : (words : List (List ℕ)) (rest : List ℕ) → AreWords words → slice_split (λ b. b == 10) (words_text words ++ rest) ≡ joined words ∷ slice_split (λ b. b == 10) rest
line_before words rest all =
    let text : words_text words ++ rest ≡ joined words ++ 10 ∷ rest = ap (λ t. t ++ rest) (text_joined words) ∙ append_assoc (joined words) (10 ∷ []) rest in
    ap (slice_split (λ b. b == 10)) text ∙ slice_split_at (λ b. b == 10) (joined words) 10 rest (joined_free 10 refl refl words all) refl

ended_back : (lines : List (List (List ℕ))) → AreLines lines → ended_lines (lines_text lines) ≡ map joined lines
ended_back [] all = refl
ended_back (words ∷ lines) all =
    ap all_ended (line_before words (lines_text lines) all.0)
    ∙ ended_more (joined words) _ (some_piece (λ b. b == 10) (lines_text lines))
    ∙ ap (λ line. line ∷ ended_lines (lines_text lines)) (no_return (joined words) (joined_free 13 refl refl words all.0))
    ∙ ap (λ rest. joined words ∷ rest) (ended_back lines all.1)

unended_back : (lines : List (List (List ℕ))) → AreLines lines → unended_line (lines_text lines) ≡ []
unended_back [] all = refl
unended_back (words ∷ lines) all =
    ap all_unended (line_before words (lines_text lines) all.0)
    ∙ unended_more (joined words) _ (some_piece (λ b. b == 10) (lines_text lines))
    ∙ unended_back lines all.1

lines_back : (lines : List (List (List ℕ))) → AreLines lines → lines_in (lines_text lines) ≡ map joined lines
lines_back lines all =
    ap (λ ended. ended ++ unended_line (lines_text lines)) (ended_back lines all)
    ∙ ap (λ rest. map joined lines ++ rest) (unended_back lines all)
    ∙ append-nil (map joined lines)

-- ---- one line after the others

abbrev so_far : ℕ → List (List Op) → Option (List Op) → Draft
so_far lines before current = record { lines = lines; before = before; current = current; schedule = None; ended = false }

-- a request's words come to what the request comes to
request_step : (n : ℕ) (before : List (List Op)) (requests : List Op) (request : Op) → IsBounded request → IsSpellable request
    → after_words (so_far n before (Some requests)) (request_words request) ≡ with_request (so_far n before (Some requests)) requests request
request_step n before requests (op.OpenFile path read write creat excl trunc append) few h = ap (λ r. and_then r (with_request (so_far n before (Some requests)) requests)) (spelled.open_back path read write creat excl trunc append h.0 h.1)
request_step n before requests (op.Close fd) few h = ap (λ r. and_then r (with_request (so_far n before (Some requests)) requests)) (spelled.close_back fd h)
request_step n before requests (op.Read fd k) few h = ap (λ r. and_then r (with_request (so_far n before (Some requests)) requests)) (spelled.read_back fd k h few)
request_step n before requests (op.Write fd bytes) few h = ap (λ r. and_then r (with_request (so_far n before (Some requests)) requests)) (spelled.write_back fd bytes h.0 h.1 few)
request_step n before requests (op.Pread fd k at) few h = ap (λ r. and_then r (with_request (so_far n before (Some requests)) requests)) (spelled.pread_back fd k at h.0 few h.1)
request_step n before requests (op.Pwrite fd bytes at) few h = ap (λ r. and_then r (with_request (so_far n before (Some requests)) requests)) (spelled.pwrite_back fd bytes at h.0 h.1 few h.2)
request_step n before requests (op.Seek fd whence by) few h = ap (λ r. and_then r (with_request (so_far n before (Some requests)) requests)) (spelled.seek_back fd whence by h.0 h.1)
request_step n before requests (op.Trunc fd size) few h = ap (λ r. and_then r (with_request (so_far n before (Some requests)) requests)) (spelled.trunc_back fd size h.0 h.1)
request_step n before requests (op.Fsync fd) few h = ap (λ r. and_then r (with_request (so_far n before (Some requests)) requests)) (spelled.fsync_back fd h)
request_step n before requests op.Sync few h = refl
request_step n before requests (op.Mkdir path) few h = ap (λ r. and_then r (with_request (so_far n before (Some requests)) requests)) (spelled.mkdir_back path h)
request_step n before requests (op.Rmdir path) few h = ap (λ r. and_then r (with_request (so_far n before (Some requests)) requests)) (spelled.rmdir_back path h)
request_step n before requests (op.Unlink path) few h = ap (λ r. and_then r (with_request (so_far n before (Some requests)) requests)) (spelled.unlink_back path h)
request_step n before requests (op.Rename from to) few h = ap (λ r. and_then r (with_request (so_far n before (Some requests)) requests)) (spelled.rename_back from to h.0 h.1)
request_step n before requests (op.Stat path) few h = ap (λ r. and_then r (with_request (so_far n before (Some requests)) requests)) (spelled.stat_back path h)
request_step n before requests (op.List path) few h = ap (λ r. and_then r (with_request (so_far n before (Some requests)) requests)) (spelled.list_back path h)

request_line_step : (n : ℕ) (before : List (List Op)) (requests : List Op) (request : Op) → IsBounded request → IsSpellable request → length requests < 65536
    → after_line (Ok (so_far n before (Some requests))) (joined (request_words request)) ≡ Ok (so_far (n + 1) before (Some (requests ++ request ∷ [])))
request_line_step n before requests request few h room =
    ap (λ words. counted (n + 1) (after_words (so_far n before (Some requests)) words)) (words_back (request_words request) (spelled.request_are request few h))
    ∙ ap (counted (n + 1)) (request_step n before requests request few h)
    ∙ rw (lt-ltb (length requests) 65536 room) refl

client_line_step : (n : ℕ) (before : List (List Op)) (current : Option (List Op)) (k : ℕ) → k ≡ length (before ++ option_to_list current) → k < 16
    → after_line (Ok (so_far n before current)) (joined (codes "client" ∷ decimal k ∷ [])) ≡ Ok (so_far (n + 1) (before ++ option_to_list current) (Some []))
client_line_step n before current k is few =
    let short : k < 10 ^ 18 = omega arith in
    ap (λ words. counted (n + 1) (after_words (so_far n before current) words)) (words_back (codes "client" ∷ decimal k ∷ []) (literal (codes "client") refl refl, (decimal_word k short, tt)))
    ∙ rw (number_back k short, eq-eqb k (length (before ++ option_to_list current)) is, lt-ltb k 16 few) refl

-- ---- all lines

-- a draft of these clients, before its `end`
record Reaches (given : Result Draft ScriptFault) (clients : List (List Op)) : Type 0 where
  lines : ℕ
  before : List (List Op)
  current : Option (List Op)
  is : given ≡ Ok (so_far lines before current)
  all : before ++ option_to_list current ≡ clients

requests_run : (more : List Op) (n : ℕ) (before : List (List Op)) (requests : List Op) → AllByRecursion IsBounded more → AllByRecursion IsSpellable more → length requests + length more ≤ 65536
    → (m : ℕ) × (fold after_line (Ok (so_far n before (Some requests))) (map joined (map request_words more)) ≡ Ok (so_far m before (Some (requests ++ more))))
requests_run [] n before requests bounded spelled' few = (n, ap (λ all. Ok (so_far n before (Some all))) (sym (append-nil requests)))
requests_run (request ∷ more) n before requests bounded spelled' few =
    let next = requests_run more (n + 1) before (requests ++ request ∷ []) bounded.1 spelled'.1 (simp length-append (omega arith)) in (
      next.0,
      ap (λ r. fold after_line r (map joined (map request_words more))) (request_line_step n before requests request bounded.0 spelled'.0 (omega arith))
          ∙ next.1
          ∙ ap (λ all. Ok (so_far next.0 before (Some all))) (append_assoc requests (request ∷ []) more),
    )

clients_run : (clients : List (List Op)) (n : ℕ) (before : List (List Op)) (current : Option (List Op)) (k : ℕ) → AllByRecursion IsClient clients → k ≡ length (before ++ option_to_list current) → k + length clients ≤ 16
    → Reaches (fold after_line (Ok (so_far n before current)) (map joined (client_lines k clients))) ((before ++ option_to_list current) ++ clients)
clients_run [] n before current k all is few = record { lines = n; before = before; current = current; is = refl; all = sym (append-nil (before ++ option_to_list current)) }
clients_run (requests ∷ clients) n before current k all is few =
    let those = before ++ option_to_list current in
    let run = requests_run requests (n + 1) those [] all.0.0 all.0.1 (omega (arith, all.0.2)) in
    let count : k + 1 ≡ length (those ++ requests ∷ []) = omega (arith, is, length-append those (requests ∷ [])) in
    let next = clients_run clients run.0 those (Some requests) (k + 1) all.1 count (omega arith) in
    record {
      lines = next.lines;
      before = next.before;
      current = next.current;
      is =
          ap (λ r. fold after_line r (map joined (map request_words requests ++ client_lines (k + 1) clients))) (client_line_step n before current k is (omega arith))
          ∙ ap (fold after_line (Ok (so_far (n + 1) those (Some [])))) (map-append joined (map request_words requests) (client_lines (k + 1) clients))
          ∙ fold-append after_line (Ok (so_far (n + 1) those (Some []))) (map joined (map request_words requests)) (map joined (client_lines (k + 1) clients))
          ∙ ap (λ r. fold after_line r (map joined (client_lines (k + 1) clients))) run.1
          ∙ next.is;
      all = next.all ∙ append_assoc those (requests ∷ []) clients;
    }

requests_are : (requests : List Op) (rest : List (List (List ℕ))) → AllByRecursion IsBounded requests → AllByRecursion IsSpellable requests → AreLines rest → AreLines (map request_words requests ++ rest)
requests_are [] rest bounded spelled' all = all
requests_are (request ∷ requests) rest bounded spelled' all = (spelled.request_are request bounded.0 spelled'.0, requests_are requests rest bounded.1 spelled'.1 all)

-- ---- the schedule

nil_of : (words : List ScheduleWord) → length words ≡ 0 → words ≡ []
nil_of [] e = refl
nil_of (word ∷ words) e = absurd (omega (arith, e))

abbrev scheduled : ℕ → List (List Op) → Option (List Op) → Schedule → Draft
scheduled lines before current schedule = record { lines = lines; before = before; current = current; schedule = Some schedule; ended = false }

abbrev with_all : ℕ → ℕ → List ScheduleWord → Option ℕ → Schedule
with_all line workers words plan = record { line = line; workers = workers; words = words; plan = plan }

abbrev script_with : List (List Op) → ℕ → List ScheduleWord → Script
script_with clients workers words = record { clients = clients; workers = workers; words = words }

schedule_line_step : (n : ℕ) (before : List (List Op)) (current : Option (List Op)) (workers : ℕ) → 1 ≤ workers → workers ≤ 8
    → after_line (Ok (so_far n before current)) (joined (codes "schedule" ∷ decimal workers ∷ [])) ≡ Ok (scheduled (n + 1) before current (with_all (n + 1) workers [] None))
schedule_line_step n before current workers some few =
    let short : workers < 10 ^ 18 = omega arith in
    ap (λ words. counted (n + 1) (after_words (so_far n before current) words)) (words_back (codes "schedule" ∷ decimal workers ∷ []) (literal (codes "schedule") refl refl, (decimal_word workers short, tt)))
    ∙ rw (number_back workers short, le-leb 1 workers some, lt-ltb workers 9 (omega arith)) refl

module _ (before : List (List Op)) (current : Option (List Op)) where
  -- a schedule word's line is looked at as one
  turn_step : (n : ℕ) (s : Schedule) (word : ScheduleWord)
      → after_words (scheduled n before current s) (turn_text word ∷ [])
      ≡ and_then (with_turns (length (before ++ option_to_list current)) (n + 1) s (turn_text word ∷ [])) (λ new. Ok (scheduled n before current new))
  turn_step n s (turn.Client k) = refl
  turn_step n s (turn.Worker k) = refl
  turn_step n s turn.Primary = refl
  turn_step n s (turn.Ticks k) = refl
  turn_step n s (turn.Move path to) = refl
  turn_step n s turn.Plan = refl

  abbrev with_more : ℕ → Schedule → ScheduleWord → List ScheduleWord → Schedule
  with_more n s word turns = record s { words = turns; plan = plan_line s.plan (n + 1) (turn_text word ∷ []) }

  more_turns : (n : ℕ) (s : Schedule) (word : ScheduleWord) → turn_of (length (before ++ option_to_list current)) s.workers (turn_text word) ≡ Ok word → length s.words < 1000000
      → with_turns (length (before ++ option_to_list current)) (n + 1) s (turn_text word ∷ []) ≡ Ok (with_more n s word (s.words ++ word ∷ []))
  more_turns n s word is room =
      let count : length (s.words ++ word ∷ []) ≤ 1000000 = omega (arith, length-append s.words (word ∷ []), room) in
      ap (λ r. and_then (limited (and_then r (λ t. Ok (s.words ++ t ∷ [])))) (λ turns. Ok (with_more n s word turns))) is
      ∙ ap (λ b. and_then (cond b (Ok (s.words ++ word ∷ [])) (Err cause.TooMany)) (λ turns. Ok (with_more n s word turns))) (le-leb (length (s.words ++ word ∷ [])) 1000000 count)

  turn_line_step : (n : ℕ) (s : Schedule) (word : ScheduleWord) → IsTurn (length (before ++ option_to_list current)) s.workers word → HasPath word → length (before ++ option_to_list current) ≤ 16 → s.workers ≤ 8 → length s.words < 1000000
      → after_line (Ok (scheduled n before current s)) (joined (turn_text word ∷ [])) ≡ Ok (scheduled (n + 1) before current (with_more n s word (s.words ++ word ∷ [])))
  turn_line_step n s word h path few most room =
      ap (λ words. counted (n + 1) (after_words (scheduled n before current s) words)) (words_back (turn_text word ∷ []) (turn_word (length (before ++ option_to_list current)) s.workers word h path few most, tt))
      ∙ ap (counted (n + 1)) (turn_step n s word)
      ∙ ap (λ r. counted (n + 1) (and_then r (λ new. Ok (scheduled n before current new)))) (more_turns n s word (turn_back (length (before ++ option_to_list current)) s.workers word h path few most) room)

  -- behind a schedule's words, whichever line had the first plan
  record Runs (given : Result Draft ScriptFault) (line workers : ℕ) (words : List ScheduleWord) : Type 0 where
    lines : ℕ
    plan : Option ℕ
    is : given ≡ Ok (scheduled lines before current (with_all line workers words plan))

  turns_run : (more : List ScheduleWord) (n line workers : ℕ) (words : List ScheduleWord) (plan : Option ℕ) → AllByRecursion (IsTurn (length (before ++ option_to_list current)) workers) more → AllByRecursion HasPath more
      → length (before ++ option_to_list current) ≤ 16 → workers ≤ 8 → length words + length more ≤ 1000000
      → Runs (fold after_line (Ok (scheduled n before current (with_all line workers words plan))) (map joined (turn_lines more))) line workers (words ++ more)
  turns_run [] n line workers words plan turns paths few most room = record { lines = n; plan = plan; is = ap (λ all. Ok (scheduled n before current (with_all line workers all plan))) (sym (append-nil words)) }
  turns_run (word ∷ more) n line workers words plan turns paths few most room =
      let next = turns_run more (n + 1) line workers (words ++ word ∷ []) (plan_line plan (n + 1) (turn_text word ∷ [])) turns.1 paths.1 few most (simp length-append (omega arith)) in
      record {
        lines = next.lines;
        plan = next.plan;
        is =
            ap (λ r. fold after_line r (map joined (turn_lines more))) (turn_line_step n (with_all line workers words plan) word turns.0 paths.0 few most (omega (arith, room)))
            ∙ next.is
            ∙ ap (λ all. Ok (scheduled next.lines before current (with_all line workers all next.plan))) (append_assoc words (word ∷ []) more);
      }

  -- the schedule and the line `end`
  schedule_back : (n workers : ℕ) (words : List ScheduleWord) → 1 ≤ workers → workers ≤ 8 → length words ≤ 1000000 → length (before ++ option_to_list current) ≤ 16
      → AllByRecursion (IsTurn (length (before ++ option_to_list current)) workers) words → AllByRecursion HasPath words
      → unplaced (finished (fold after_line (Ok (so_far n before current)) (map joined (schedule_lines workers words ++ (codes "end" ∷ []) ∷ []))))
      ≡ Ok (script_with (before ++ option_to_list current) workers words)
  schedule_back n workers words some most room few turns paths = at ((workers == 1) && (length words == 0)) refl
    where
      at : (b : Bool) → ((workers == 1) && (length words == 0)) ≡ b
          → unplaced (finished (fold after_line (Ok (so_far n before current)) (map joined (cond b [] ((codes "schedule" ∷ decimal workers ∷ []) ∷ turn_lines words) ++ (codes "end" ∷ []) ∷ []))))
          ≡ Ok (script_with (before ++ option_to_list current) workers words)
      at true is =
          let both = and_parts (workers == 1) (length words == 0) is in
          let one : workers ≡ 1 = eqb-true workers 1 both.0 in
          let none : words ≡ [] = nil_of words (eqb-true (length words) 0 both.1) in
          ap (λ all. Ok (script_with (before ++ option_to_list current) 1 all)) (sym none)
          ∙ ap (λ count. Ok (script_with (before ++ option_to_list current) count words)) (sym one)
      at false is =
          let run = turns_run words (n + 1) (n + 1) workers [] None turns paths few most (omega (arith, room)) in
          ap (λ r. unplaced (finished (fold after_line r (map joined (turn_lines words ++ (codes "end" ∷ []) ∷ []))))) (schedule_line_step n before current workers some most)
          ∙ ap (λ lines. unplaced (finished (fold after_line (Ok (scheduled (n + 1) before current (with_all (n + 1) workers [] None))) lines))) (map-append joined (turn_lines words) ((codes "end" ∷ []) ∷ []))
          ∙ ap (λ r. unplaced (finished r)) (fold-append after_line (Ok (scheduled (n + 1) before current (with_all (n + 1) workers [] None))) (map joined (turn_lines words)) (map joined ((codes "end" ∷ []) ∷ [])))
          ∙ ap (λ r. unplaced (finished (fold after_line r (map joined ((codes "end" ∷ []) ∷ []))))) run.is

-- ---- the lines are such

turns_are : (count workers : ℕ) (words : List ScheduleWord) (rest : List (List (List ℕ))) → AllByRecursion (IsTurn count workers) words → AllByRecursion HasPath words → count ≤ 16 → workers ≤ 8 → AreLines rest → AreLines (turn_lines words ++ rest)
turns_are count workers [] rest turns paths few most all = all
turns_are count workers (word ∷ words) rest turns paths few most all = ((turn_word count workers word turns.0 paths.0 few most, tt), turns_are count workers words rest turns.1 paths.1 few most all)

schedule_are : (count workers : ℕ) (words : List ScheduleWord) → AllByRecursion (IsTurn count workers) words → AllByRecursion HasPath words → count ≤ 16 → workers ≤ 8 → AreLines (schedule_lines workers words ++ (codes "end" ∷ []) ∷ [])
schedule_are count workers words turns paths few most = at ((workers == 1) && (length words == 0))
  where
    at : (b : Bool) → AreLines (cond b [] ((codes "schedule" ∷ decimal workers ∷ []) ∷ turn_lines words) ++ (codes "end" ∷ []) ∷ [])
    at true = ((literal (codes "end") refl refl, tt), tt)
    at false = (
      (literal (codes "schedule") refl refl, (decimal_word workers (omega arith), tt)),
      turns_are count workers words ((codes "end" ∷ []) ∷ []) turns paths few most ((literal (codes "end") refl refl, tt), tt),
    )

clients_are : (clients : List (List Op)) (k : ℕ) (rest : List (List (List ℕ))) → AllByRecursion IsClient clients → k + length clients ≤ 16 → AreLines rest → AreLines (client_lines k clients ++ rest)
clients_are [] k rest all few are = are
clients_are (requests ∷ clients) k rest all few are = (
  (literal (codes "client") refl refl, (decimal_word k (omega arith), tt)),
  subst AreLines (sym (append_assoc (map request_words requests) (client_lines (k + 1) clients) rest))
      (requests_are requests _ all.0.0 all.0.1 (clients_are clients (k + 1) rest all.1 (omega arith) are)),
)

-- of clients that are a script's
schedule_for : (before : List (List Op)) (current : Option (List Op)) (n : ℕ) (script : Script) → before ++ option_to_list current ≡ script.clients → length script.clients ≤ 16 → IsScheduled script → AllByRecursion HasPath script.words
    → unplaced (finished (fold after_line (Ok (so_far n before current)) (map joined (schedule_lines script.workers script.words ++ (codes "end" ∷ []) ∷ []))))
    ≡ Ok (script_with (before ++ option_to_list current) script.workers script.words)
schedule_for before current n script is few s paths =
    schedule_back before current n script.workers script.words s.some s.workers s.few
    (subst (λ (l : List (List Op)). length l ≤ 16) (sym is) few)
    (subst (λ (l : List (List Op)). AllByRecursion (IsTurn (length l) script.workers) script.words) (sym is) s.turns)
    paths

-- a printed script is read
pub script_back : PrintedIsRead
script_back script all few s paths short =
    let rest = schedule_lines script.workers script.words ++ (codes "end" ∷ []) ∷ [] in
    let count : 0 + length script.clients ≤ 16 = omega arith in
    let run = clients_run script.clients 0 [] None 0 all refl count in
    let are = clients_are script.clients 0 rest all count (schedule_are (length script.clients) script.workers script.words s.turns paths few s.workers) in
    rw (le-leb (length (script_text script)) 16777216 short)
    (ap (λ lines. unplaced (finished (draft_of lines))) (lines_back (script_lines script) are)
    ∙ ap (λ lines. unplaced (finished (draft_of lines))) (map-append joined (client_lines 0 script.clients) rest)
    ∙ ap (λ r. unplaced (finished r)) (fold-append after_line (Ok no_lines) (map joined (client_lines 0 script.clients)) (map joined rest))
    ∙ ap (λ r. unplaced (finished (fold after_line r (map joined rest)))) run.is
    ∙ schedule_for run.before run.current run.lines script run.all few s paths
    ∙ ap (λ clients. Ok (script_with clients script.workers script.words)) run.all)
