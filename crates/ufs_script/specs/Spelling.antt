-- The canonical spelling of a script, and the law that reading it gives the script back.
use Rattle.std.specs.Prelude.{ℕ, ◌≡◌, ◌<◌, ◌≤◌, ◌+◌, ◌^◌, List, [], ◌∷◌, ◌++◌, Bool, true, false, not, ◌==◌, ◌&&◌, ◌||◌, length, map, if◌then◌else◌, Ok, IsTrue, ℤ, pos, negsuc, codes}
use Rattle.std.specs.List.{AllByRecursion, list_all}
use Rattle.std.specs.Str.{bytes_eq}
use Rattle.std.specs.Fmt.{decimal}
use Rattle.ufs_base.specs.declared.limits.TheConstants.{MAX_CLIENTS, MAX_REQUESTS}
use Rattle.hex.specs.Hex.{encode_lower, IsBytes}
use Rattle.ufs_model.specs.Bounds.{IsBounded}
use Rattle.ufs_model.specs.declared.data.Whence.{Whence}
use Rattle.ufs_model.specs.declared.data.Whence.TheVariants as whence
use Rattle.ufs_model.specs.declared.data.Op.{Op}
use Rattle.ufs_model.specs.declared.data.Op.TheVariants as op
use Rattle.ufs_script.specs.Words.{is_blank}
use Rattle.ufs_script.specs.Schedule.{IsScheduled}
use Rattle.ufs_script.specs.Script.{script_of, max_script}
use Rattle.ufs_script.specs.declared.lists.ScheduleWord.{ScheduleWord}
use Rattle.ufs_script.specs.declared.lists.ScheduleWord.TheVariants as turn
use Rattle.ufs_script.specs.declared.script.Script.{Script}

-- ---- words

-- two quotation marks for the empty path
abbrev pub path_text : List ℕ → List ℕ
path_text [] = codes "\"\""
path_text (b ∷ path) = b ∷ path

-- a dash for no bytes, else pairs of lower-case hexadecimal digits
abbrev pub data_text : List ℕ → List ℕ
data_text [] = codes "-"
data_text (b ∷ bytes) = encode_lower (b ∷ bytes)

abbrev pub signed_text : ℤ → List ℕ
signed_text (pos n) = decimal n
signed_text (negsuc n) = 45 ∷ decimal (n + 1)

abbrev pub whence_text : Whence → List ℕ
whence_text whence.Set = codes "set"
whence_text whence.Cur = codes "cur"
whence_text whence.End = codes "end"

abbrev pub mode_text : Bool → Bool → List ℕ
mode_text true false = codes "r"
mode_text false true = codes "w"
mode_text true true = codes "rw"
mode_text false false = []

abbrev pub flag_words : Bool → List ℕ → List (List ℕ)
flag_words given word = if given then word ∷ [] else []

-- ---- lines

-- the words of a request's line
abbrev pub request_words : Op → List (List ℕ)
request_words (op.OpenFile path read write creat excl trunc append) =
    codes "open" ∷ path_text path ∷ mode_text read write
    ∷ (flag_words creat (codes "creat") ++ flag_words excl (codes "excl") ++ flag_words trunc (codes "trunc") ++ flag_words append (codes "append"))
request_words (op.Close fd) = codes "close" ∷ decimal fd ∷ []
request_words (op.Read fd n) = codes "read" ∷ decimal fd ∷ decimal n ∷ []
request_words (op.Write fd bytes) = codes "write" ∷ decimal fd ∷ data_text bytes ∷ []
request_words (op.Pread fd n at) = codes "pread" ∷ decimal fd ∷ decimal n ∷ decimal at ∷ []
request_words (op.Pwrite fd bytes at) = codes "pwrite" ∷ decimal fd ∷ data_text bytes ∷ decimal at ∷ []
request_words (op.Seek fd whence by) = codes "seek" ∷ decimal fd ∷ whence_text whence ∷ signed_text by ∷ []
request_words (op.Trunc fd size) = codes "trunc" ∷ decimal fd ∷ decimal size ∷ []
request_words (op.Fsync fd) = codes "fsync" ∷ decimal fd ∷ []
request_words op.Sync = codes "sync" ∷ []
request_words (op.Mkdir path) = codes "mkdir" ∷ path_text path ∷ []
request_words (op.Rmdir path) = codes "rmdir" ∷ path_text path ∷ []
request_words (op.Unlink path) = codes "unlink" ∷ path_text path ∷ []
request_words (op.Rename from to) = codes "rename" ∷ path_text from ∷ path_text to ∷ []
request_words (op.Stat path) = codes "stat" ∷ path_text path ∷ []
request_words (op.List path) = codes "list" ∷ path_text path ∷ []

-- the lines of clients from this number on
abbrev pub client_lines : ℕ → List (List Op) → List (List (List ℕ))
client_lines client [] = []
client_lines client (requests ∷ clients) = (codes "client" ∷ decimal client ∷ []) ∷ (map request_words requests ++ client_lines (client + 1) clients)

-- a schedule word
abbrev pub turn_text : ScheduleWord → List ℕ
turn_text (turn.Client k) = 99 ∷ decimal k
turn_text (turn.Worker k) = 119 ∷ decimal k
turn_text turn.Primary = codes "p"
turn_text (turn.Ticks n) = 116 ∷ decimal n
turn_text (turn.Move path to) = 109 ∷ (decimal to ++ 58 ∷ path_text path)
turn_text turn.Plan = codes "l"

-- one schedule word a line
abbrev pub turn_lines : List ScheduleWord → List (List (List ℕ))
turn_lines words = map (λ word. turn_text word ∷ []) words

-- the schedule, where it isn't the one of a script that has none
abbrev pub schedule_lines : ℕ → List ScheduleWord → List (List (List ℕ))
schedule_lines workers words =
    if (workers == 1) && (length words == 0) then [] else (codes "schedule" ∷ decimal workers ∷ []) ∷ turn_lines words

abbrev pub script_lines : Script → List (List (List ℕ))
script_lines script = client_lines 0 script.clients ++ (schedule_lines script.workers script.words ++ (codes "end" ∷ []) ∷ [])

-- ---- text

-- a line: its words with one space between them, and byte 10
abbrev pub words_text : List (List ℕ) → List ℕ
words_text [] = 10 ∷ []
words_text (word ∷ []) = word ++ 10 ∷ []
words_text (word ∷ next ∷ words) = word ++ 32 ∷ words_text (next ∷ words)

abbrev pub lines_text : List (List (List ℕ)) → List ℕ
lines_text [] = []
lines_text (words ∷ lines) = words_text words ++ lines_text lines

abbrev pub script_text : Script → List ℕ
script_text script = lines_text (script_lines script)

-- ---- what can be spelled

-- a byte that ends no word
abbrev pub is_inside : ℕ → Bool
is_inside b = not (is_blank b) && (not (b == 10) && not (b == 13))

-- a path that is a word, or empty; the word of two quotation marks means the empty path
abbrev pub is_path : List ℕ → Bool
is_path path = list_all is_inside path && not (bytes_eq path (codes "\"\""))

abbrev pub IsShort : ℤ → Type 0
IsShort (pos n) = n < 10 ^ 18
IsShort (negsuc n) = n + 1 < 10 ^ 18

-- A script's numbers have at most 18 digits, and its files are opened for reading, writing or both.
abbrev pub IsSpellable : Op → Type 0
IsSpellable (op.OpenFile path read write creat excl trunc append) = IsTrue (is_path path) × IsTrue (read || write)
IsSpellable (op.Close fd) = fd < 10 ^ 18
IsSpellable (op.Read fd n) = fd < 10 ^ 18
IsSpellable (op.Write fd bytes) = (fd < 10 ^ 18) × IsBytes bytes
IsSpellable (op.Pread fd n at) = (fd < 10 ^ 18) × (at < 10 ^ 18)
IsSpellable (op.Pwrite fd bytes at) = (fd < 10 ^ 18) × IsBytes bytes × (at < 10 ^ 18)
IsSpellable (op.Seek fd whence by) = (fd < 10 ^ 18) × IsShort by
IsSpellable (op.Trunc fd size) = (fd < 10 ^ 18) × (size < 10 ^ 18)
IsSpellable (op.Fsync fd) = fd < 10 ^ 18
IsSpellable op.Sync = Unit {0}
IsSpellable (op.Mkdir path) = IsTrue (is_path path)
IsSpellable (op.Rmdir path) = IsTrue (is_path path)
IsSpellable (op.Unlink path) = IsTrue (is_path path)
IsSpellable (op.Rename from to) = IsTrue (is_path from) × IsTrue (is_path to)
IsSpellable (op.Stat path) = IsTrue (is_path path)
IsSpellable (op.List path) = IsTrue (is_path path)

-- a client's requests that can be spelled
abbrev pub IsClient : List Op → Type 0
IsClient requests = AllByRecursion IsBounded requests × AllByRecursion IsSpellable requests × (length requests ≤ MAX_REQUESTS)

-- a schedule word whose path can be spelled
abbrev pub HasPath : ScheduleWord → Type 0
HasPath (turn.Move path to) = IsTrue (is_path path)
HasPath _ = Unit {0}

-- a script that is printed and read stays the same
abbrev pub PrintedIsRead : Type 0
PrintedIsRead = (script : Script) → AllByRecursion IsClient script.clients → length script.clients ≤ MAX_CLIENTS
    → IsScheduled script → AllByRecursion HasPath script.words
    → length (script_text script) ≤ max_script
    → script_of (script_text script) ≡ Ok script
