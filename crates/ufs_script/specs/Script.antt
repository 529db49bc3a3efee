-- Which script a text is, or how it breaks off first.
use Rattle.std.specs.Prelude.{ℕ, ◌≡◌, ◌≤◌, ◌+◌, ◌⊎◌, List, [], ◌∷◌, ◌++◌, Bool, true, false, ◌==◌, nat_le, nat_lt, length, take, fold, if◌then◌else◌, Option, Some, None, Result, Ok, Err, codes}
use Rattle.std.specs.Option.{option_to_list}
use Rattle.std.specs.Str.{bytes_eq}
use Rattle.ufs_base.specs.Wanting.{wanting}
use Rattle.ufs_base.specs.declared.limits.TheConstants.{MAX_CLIENTS, MAX_REQUESTS}
use Rattle.ufs_model.specs.declared.data.Op.{Op}
use Rattle.ufs_script.specs.Words.{words_of}
use Rattle.ufs_script.specs.Requests.{and_then, exactly, number_at, verb_of, request_of, word_at}
use Rattle.ufs_script.specs.Lines.{ended_lines, lines_in}
use Rattle.ufs_script.specs.Schedule.{IsScheduled, HasNoPlan, limited, max_workers, number_within, plan_line, turns_of}
use Rattle.ufs_script.specs.declared.draft.Draft.{Draft}
use Rattle.ufs_script.specs.declared.draft.Schedule.{Schedule}
use Rattle.ufs_script.specs.declared.script.Script.{Script}
use Rattle.ufs_script.specs.declared.script.PlacedScript.{PlacedScript}
use Rattle.ufs_script.specs.declared.fault.Cause.{Cause}
use Rattle.ufs_script.specs.declared.fault.Cause.TheVariants as cause
use Rattle.ufs_script.specs.declared.fault.ScriptFault.{ScriptFault}
use Rattle.ufs_script.specs.declared.fault.ScriptFault.TheVariants as fault
use Rattle.ufs_script.specs.declared.verb.Verb.{Verb}

-- the greatest length of a script, in bytes
abbrev pub max_script : ℕ
max_script = 16777216

-- the faults of a reading that gives this: want of memory, and its break
abbrev pub IsFaultOf : {A : Type 0} → Result A ScriptFault → ScriptFault → Type 0
IsFaultOf given f = (f ≡ fault.Memory wanting) ⊎ (given ≡ Err f)

-- ---- one line, after a draft: what the lines before it came to

-- before the first line
abbrev pub no_lines : Draft
no_lines = record { lines = 0; before = []; current = None; schedule = None; ended = false }

-- the requests of the clients so far
abbrev pub clients_of : Draft → List (List Op)
clients_of draft = draft.before ++ option_to_list draft.current

-- there are no more clients than there may be
abbrev pub IsFew : Draft → Type 0
IsFew draft = length (clients_of draft) ≤ MAX_CLIENTS

-- K is the number of clients so far
abbrev pub is_next : Draft → ℕ → Result ℕ Cause
is_next draft client = if client == length (clients_of draft) then Ok client else Err cause.BadNumber

abbrev pub with_client : Draft → ℕ → Result Draft Cause
with_client draft client = if nat_lt client MAX_CLIENTS then Ok (record draft { before = clients_of draft; current = Some [] }) else Err cause.TooMany

-- the words behind `client`
abbrev pub client_line : Draft → List (List ℕ) → Result Draft Cause
client_line draft words =
    and_then (number_at words 0) (λ client.
    and_then (is_next draft client) (λ k.
    and_then (exactly 1 words k) (with_client draft)))

-- one more request of the current client
abbrev pub with_request : Draft → List Op → Op → Result Draft Cause
with_request draft requests op = if nat_lt (length requests) MAX_REQUESTS then Ok (record draft { current = Some (requests ++ op ∷ []) }) else Err cause.TooMany

-- a request before the first `client` line is looked at no further
abbrev pub request_line : Draft → Option (List Op) → Verb → List (List ℕ) → Result Draft Cause
request_line draft None verb words = Err cause.NoClient
request_line draft (Some requests) verb words = and_then (request_of verb words) (with_request draft requests)

abbrev pub verb_line : Draft → Option Verb → List (List ℕ) → Result Draft Cause
verb_line draft None words = Err cause.BadWord
verb_line draft (Some verb) words = request_line draft draft.current verb words

-- the words behind `schedule`: how many workers there are
abbrev pub schedule_line : Draft → List (List ℕ) → Result Draft Cause
schedule_line draft words =
    and_then (word_at words 0) (λ word.
    and_then (number_within 1 (max_workers + 1) word) (λ workers.
    exactly 1 words (record draft { schedule = Some (record { line = draft.lines + 1; workers = workers; words = []; plan = None }) })))

-- a line of schedule words, in a script with so many clients
abbrev pub with_turns : ℕ → ℕ → Schedule → List (List ℕ) → Result Schedule Cause
with_turns clients number schedule words =
    and_then (limited (turns_of clients schedule.workers schedule.words words)) (λ turns.
    Ok (record schedule { words = turns; plan = plan_line schedule.plan number words }))

-- a line of the clients, or the one that ends their part
abbrev pub client_part : Draft → List ℕ → List (List ℕ) → Result Draft Cause
client_part draft first words =
    if bytes_eq first (codes "client") then client_line draft words
    else (if bytes_eq first (codes "schedule") then schedule_line draft words
    else verb_line draft (verb_of first) words)

-- from the line `schedule` on, lines hold schedule words
abbrev pub part_line : Draft → Option Schedule → List ℕ → List (List ℕ) → Result Draft Cause
part_line draft None first words = client_part draft first words
part_line draft (Some schedule) first words =
    and_then (with_turns (length (clients_of draft)) (draft.lines + 1) schedule (first ∷ words)) (λ new. Ok (record draft { schedule = Some new }))

-- a line by its first word and the words behind it
abbrev pub line_by : Draft → List ℕ → List (List ℕ) → Result Draft Cause
line_by draft first words =
    if bytes_eq first (codes "end") then exactly 0 words (record draft { ended = true })
    else part_line draft draft.schedule first words

-- a line whose first word begins with `#`
abbrev pub is_comment : List ℕ → Bool
is_comment [] = false
is_comment (b ∷ word) = b == 35

-- a line without words or with a comment asks for nothing; after `end` no other may follow
abbrev pub after_words : Draft → List (List ℕ) → Result Draft Cause
after_words draft [] = Ok draft
after_words draft (first ∷ words) =
    if is_comment first then Ok draft
    else (if draft.ended then Err cause.AfterEnd else line_by draft first words)

-- ---- all lines

-- a cause with the number of its line
abbrev pub fault_at : ℕ → Cause → ScriptFault
fault_at line cause.NoClient = fault.NoClient line
fault_at line cause.BadWord = fault.BadWord line
fault_at line cause.BadNumber = fault.BadNumber line
fault_at line cause.BadData = fault.BadData line
fault_at line cause.TooMany = fault.TooMany line
fault_at line cause.AfterEnd = fault.AfterEnd line
fault_at line (cause.Memory memory) = fault.Memory memory

abbrev pub counted : ℕ → Result Draft Cause → Result Draft ScriptFault
counted line (Ok draft) = Ok (record draft { lines = line })
counted line (Err c) = Err (fault_at line c)

-- each line is looked at while no line before it breaks a rule
abbrev pub after_line : Result Draft ScriptFault → List ℕ → Result Draft ScriptFault
after_line (Ok draft) line = counted (draft.lines + 1) (after_words draft (words_of line))
after_line (Err f) line = Err f

abbrev pub draft_of : List (List ℕ) → Result Draft ScriptFault
draft_of lines = fold after_line (Ok no_lines) lines

-- one worker, and no schedule words
abbrev pub plain_script : List (List Op) → Script
plain_script clients = record { clients = clients; workers = 1; words = [] }

-- the script of some clients and their schedule
abbrev pub placed_script : List (List Op) → Option Schedule → PlacedScript
placed_script clients None = record { script = plain_script clients; schedule = None; plan = None }
placed_script clients (Some schedule) = record {
  script = record { clients = clients; workers = schedule.workers; words = schedule.words };
  schedule = Some schedule.line;
  plan = schedule.plan;
}

-- a script's lines have an `end`
abbrev pub finished : Result Draft ScriptFault → Result PlacedScript ScriptFault
finished (Ok draft) = if draft.ended then Ok (placed_script (clients_of draft) draft.schedule) else Err (fault.NoEnd draft.lines)
finished (Err f) = Err f

-- the line behind these lines passes the greatest length
abbrev pub passed : Result Draft ScriptFault → Result PlacedScript ScriptFault
passed (Ok draft) = Err (fault.TooLong (draft.lines + 1))
passed (Err f) = Err f

-- Of a text that is too long, only the lines that end within the greatest length are looked at.
abbrev pub placed_of : List ℕ → Result PlacedScript ScriptFault
placed_of text =
    if nat_le (length text) max_script
    then finished (draft_of (lines_in text))
    else passed (draft_of (ended_lines (take max_script text)))

-- without its places
abbrev pub unplaced : Result PlacedScript ScriptFault → Result Script ScriptFault
unplaced (Ok placed) = Ok placed.script
unplaced (Err f) = Err f

abbrev pub script_of : List ℕ → Result Script ScriptFault
script_of text = unplaced (placed_of text)

-- ---- what is known of each script

-- Where no line is `schedule`, there is one worker and no schedule word; and where no line has the first plan, there is none.
pub record IsPlaced (placed : PlacedScript) : Type 0 where
  pub scheduled : IsScheduled placed.script
  pub plain : placed.schedule ≡ None → placed.script ≡ plain_script placed.script.clients
  pub planless : placed.plan ≡ None → HasNoPlan placed.script.words

-- the faults that aren't the text's
abbrev pub IsOutside : ScriptFault → Type 0
IsOutside fault.Source = Unit {0}
IsOutside (fault.Memory _) = Unit {0}
IsOutside _ = ⊥
