-- The schedule of a script: what gets the next turn.
use Rattle.std.specs.Prelude.{ℕ, ◌+◌, ◌≢◌, ◌<◌, ◌≤◌, ◌==◌, ◌&&◌, List, [], ◌∷◌, ◌++◌, nat_le, nat_lt, length, take, drop, position, fold, if◌then◌else◌, Option, Some, None, Result, Ok, Err, codes}
use Rattle.std.specs.List.{AllByRecursion, list_any}
use Rattle.std.specs.Option.{ok_or}
use Rattle.std.specs.Str.{bytes_eq}
use Rattle.ufs_script.specs.Words.{number_of, path_of}
use Rattle.ufs_script.specs.Requests.{and_then}
use Rattle.ufs_script.specs.declared.fault.Cause.{Cause}
use Rattle.ufs_script.specs.declared.fault.Cause.TheVariants as cause
use Rattle.ufs_script.specs.declared.lists.ScheduleWord.{ScheduleWord}
use Rattle.ufs_script.specs.declared.lists.ScheduleWord.TheVariants as turn
use Rattle.ufs_script.specs.declared.script.Script.{Script}

-- the most workers of a script
abbrev pub max_workers : ℕ
max_workers = 8

-- the most schedule words
abbrev pub max_words : ℕ
max_words = 1000000

-- the most ticks by which one word moves the clock
abbrev pub max_ticks : ℕ
max_ticks = 65535

-- ---- one word

-- from the first number on, and below the end
abbrev pub within : ℕ → ℕ → Option ℕ → Option ℕ
within first end None = None
within first end (Some n) = if nat_le first n && nat_lt n end then Some n else None

abbrev pub number_within : ℕ → ℕ → List ℕ → Result ℕ Cause
number_within first end text = ok_or (within first end (number_of text)) cause.BadNumber

-- behind `m`: a worker's number, or 0, which is the primary, and behind the first `:` a path
abbrev pub move_of : ℕ → List ℕ → Option ℕ → Result ScheduleWord Cause
move_of workers text None = Err cause.BadWord
move_of workers text (Some colon) = and_then (number_within 0 (workers + 1) (take colon text)) (λ to. Ok (turn.Move (path_of (drop (colon + 1) text)) to))

-- A word that begins with `c`, `w`, `t` or `m` is of that form.
abbrev pub turn_by : ℕ → ℕ → List ℕ → Result ScheduleWord Cause
turn_by clients workers [] = Err cause.BadWord
turn_by clients workers (letter ∷ text) =
    if letter == 99 then and_then (number_within 0 clients text) (λ k. Ok (turn.Client k))
    else (if letter == 119 then and_then (number_within 1 (workers + 1) text) (λ k. Ok (turn.Worker k))
    else (if letter == 116 then and_then (number_within 1 (max_ticks + 1) text) (λ n. Ok (turn.Ticks n))
    else (if letter == 109 then move_of workers text (position (λ b. b == 58) text) else Err cause.BadWord)))

-- what gets a turn by a word, in a script with so many clients and workers
abbrev pub turn_of : ℕ → ℕ → List ℕ → Result ScheduleWord Cause
turn_of clients workers word =
    if bytes_eq word (codes "p") then Ok turn.Primary
    else (if bytes_eq word (codes "l") then Ok turn.Plan
    else turn_by clients workers word)

-- ---- the words of a line, behind those of the lines before it

abbrev pub with_turn : ℕ → ℕ → Result (List ScheduleWord) Cause → List ℕ → Result (List ScheduleWord) Cause
with_turn clients workers (Err c) word = Err c
with_turn clients workers (Ok turns) word = and_then (turn_of clients workers word) (λ t. Ok (turns ++ t ∷ []))

abbrev pub turns_of : ℕ → ℕ → List ScheduleWord → List (List ℕ) → Result (List ScheduleWord) Cause
turns_of clients workers turns words = fold (with_turn clients workers) (Ok turns) words

-- no more than there may be
abbrev pub limited : Result (List ScheduleWord) Cause → Result (List ScheduleWord) Cause
limited (Err c) = Err c
limited (Ok turns) = if nat_le (length turns) max_words then Ok turns else Err cause.TooMany

-- the line of the first plan: one before this line, or this one
abbrev pub plan_line : Option ℕ → ℕ → List (List ℕ) → Option ℕ
plan_line (Some line) now words = Some line
plan_line None now words = if list_any (λ word. bytes_eq word (codes "l")) words then Some now else None

-- ---- a whole script

-- a turn of a client or a worker that the script has, an order to one, or a move of the clock
abbrev pub IsTurn : ℕ → ℕ → ScheduleWord → Type 0
IsTurn clients workers (turn.Client k) = k < clients
IsTurn clients workers (turn.Worker k) = (1 ≤ k) × (k ≤ workers)
IsTurn clients workers turn.Primary = Unit {0}
IsTurn clients workers (turn.Ticks n) = (1 ≤ n) × (n ≤ max_ticks)
IsTurn clients workers (turn.Move path to) = to ≤ workers
IsTurn clients workers turn.Plan = Unit {0}

-- A script has one to eight workers, and its schedule is for them and its clients.
pub record IsScheduled (script : Script) : Type 0 where
  pub some : 1 ≤ script.workers
  pub workers : script.workers ≤ max_workers
  pub few : length script.words ≤ max_words
  pub turns : AllByRecursion (IsTurn (length script.clients) script.workers) script.words

-- no plan is asked for
abbrev pub HasNoPlan : List ScheduleWord → Type 0
HasNoPlan words = AllByRecursion (λ word. word ≢ turn.Plan) words
