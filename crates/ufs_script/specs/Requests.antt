-- Which request the words of a line ask for, or which rule they break first, from left to right.
use Rattle.std.specs.Prelude.{ℕ, ◌≡◌, ◌⊎◌, List, Bool, true, false, nat_le, length, drop, fold, slice_get, if◌then◌else◌, Option, Some, None, Result, Ok, Err, ℤ, codes}
use Rattle.std.specs.Option.{ok_or}
use Rattle.std.specs.Str.{bytes_eq}
use Rattle.ufs_base.specs.Wanting.{wanting}
use Rattle.ufs_model.specs.declared.data.Whence.{Whence}
use Rattle.ufs_model.specs.declared.data.Op.{Op}
use Rattle.ufs_model.specs.declared.data.Op.TheVariants as op
use Rattle.ufs_script.specs.Words.{path_of, number_of, count_of, signed_of, whence_of, mode_of, data_of}
use Rattle.ufs_script.specs.declared.fault.Cause.{Cause}
use Rattle.ufs_script.specs.declared.fault.Cause.TheVariants as cause
use Rattle.ufs_script.specs.declared.verb.Verb.{Verb}
use Rattle.ufs_script.specs.declared.verb.Verb.TheVariants as verb
use Rattle.ufs_script.specs.declared.request.Flags.{Flags}

-- the causes of a reading that gives this: want of memory, and its break
abbrev pub IsCauseOf : {A : Type 0} → Result A Cause → Cause → Type 0
IsCauseOf given c = (c ≡ cause.Memory wanting) ⊎ (given ≡ Err c)

-- go on with what was read, or stop at the break
abbrev pub and_then : {A B : Type 0} → Result A Cause → (A → Result B Cause) → Result B Cause
and_then (Ok x) next = next x
and_then (Err c) next = Err c

-- ---- the words behind a verb, by their places from 0

-- a missing word is a wrong word
abbrev pub word_at : List (List ℕ) → ℕ → Result (List ℕ) Cause
word_at words place = ok_or (slice_get words place) cause.BadWord

-- there are no more than so many
abbrev pub exactly : {A : Type 0} → ℕ → List (List ℕ) → A → Result A Cause
exactly count words x = if nat_le (length words) count then Ok x else Err cause.BadWord

abbrev pub path_at : List (List ℕ) → ℕ → Result (List ℕ) Cause
path_at words place = and_then (word_at words place) (λ word. Ok (path_of word))

abbrev pub number_at : List (List ℕ) → ℕ → Result ℕ Cause
number_at words place = and_then (word_at words place) (λ word. ok_or (number_of word) cause.BadNumber)

abbrev pub count_at : List (List ℕ) → ℕ → Result ℕ Cause
count_at words place = and_then (word_at words place) (λ word. ok_or (count_of word) cause.BadNumber)

abbrev pub signed_at : List (List ℕ) → ℕ → Result ℤ Cause
signed_at words place = and_then (word_at words place) (λ word. ok_or (signed_of word) cause.BadNumber)

abbrev pub whence_at : List (List ℕ) → ℕ → Result Whence Cause
whence_at words place = and_then (word_at words place) (λ word. ok_or (whence_of word) cause.BadWord)

abbrev pub mode_at : List (List ℕ) → ℕ → Result (Bool × Bool) Cause
mode_at words place = and_then (word_at words place) (λ word. ok_or (mode_of word) cause.BadWord)

abbrev pub data_at : List (List ℕ) → ℕ → Result (List ℕ) Cause
data_at words place = and_then (word_at words place) (λ word. ok_or (data_of word) cause.BadData)

-- ---- the flags of `open`: in any order, each at most once

abbrev pub no_flags : Flags
no_flags = record { creat = false; excl = false; trunc = false; append = false }

abbrev pub unless : Bool → Flags → Option Flags
unless given flags = if given then None else Some flags

abbrev pub with_flag : Option Flags → List ℕ → Option Flags
with_flag None word = None
with_flag (Some flags) word =
    if bytes_eq word (codes "creat") then unless flags.creat (record flags { creat = true })
    else (if bytes_eq word (codes "excl") then unless flags.excl (record flags { excl = true })
    else (if bytes_eq word (codes "trunc") then unless flags.trunc (record flags { trunc = true })
    else (if bytes_eq word (codes "append") then unless flags.append (record flags { append = true }) else None)))

abbrev pub flags_of : List (List ℕ) → Result Flags Cause
flags_of words = ok_or (fold with_flag (Some no_flags) words) cause.BadWord

-- ---- the requests

abbrev pub verb_of : List ℕ → Option Verb
verb_of word =
    if bytes_eq word (codes "open") then Some verb.Open
    else (if bytes_eq word (codes "close") then Some verb.Close
    else (if bytes_eq word (codes "read") then Some verb.Read
    else (if bytes_eq word (codes "write") then Some verb.Write
    else (if bytes_eq word (codes "pread") then Some verb.Pread
    else (if bytes_eq word (codes "pwrite") then Some verb.Pwrite
    else (if bytes_eq word (codes "seek") then Some verb.Seek
    else (if bytes_eq word (codes "trunc") then Some verb.Trunc
    else (if bytes_eq word (codes "fsync") then Some verb.Fsync
    else (if bytes_eq word (codes "sync") then Some verb.Sync
    else (if bytes_eq word (codes "mkdir") then Some verb.Mkdir
    else (if bytes_eq word (codes "rmdir") then Some verb.Rmdir
    else (if bytes_eq word (codes "unlink") then Some verb.Unlink
    else (if bytes_eq word (codes "rename") then Some verb.Rename
    else (if bytes_eq word (codes "stat") then Some verb.Stat
    else (if bytes_eq word (codes "list") then Some verb.List else None)))))))))))))))

-- a path and no more
abbrev pub one_path : List (List ℕ) → Result (List ℕ) Cause
one_path words = and_then (path_at words 0) (λ path. exactly 1 words path)

-- a descriptor and no more
abbrev pub one_number : List (List ℕ) → Result ℕ Cause
one_number words = and_then (number_at words 0) (λ fd. exactly 1 words fd)

abbrev pub open_of : List (List ℕ) → Result Op Cause
open_of words =
    and_then (path_at words 0) (λ path.
    and_then (mode_at words 1) (λ mode.
    and_then (flags_of (drop 2 words)) (λ flags.
    Ok (op.OpenFile path mode.0 mode.1 flags.creat flags.excl flags.trunc flags.append))))

abbrev pub read_of : List (List ℕ) → Result Op Cause
read_of words =
    and_then (number_at words 0) (λ fd.
    and_then (count_at words 1) (λ n.
    exactly 2 words (op.Read fd n)))

abbrev pub write_of : List (List ℕ) → Result Op Cause
write_of words =
    and_then (number_at words 0) (λ fd.
    and_then (data_at words 1) (λ bytes.
    exactly 2 words (op.Write fd bytes)))

abbrev pub pread_of : List (List ℕ) → Result Op Cause
pread_of words =
    and_then (number_at words 0) (λ fd.
    and_then (count_at words 1) (λ n.
    and_then (number_at words 2) (λ at.
    exactly 3 words (op.Pread fd n at))))

abbrev pub pwrite_of : List (List ℕ) → Result Op Cause
pwrite_of words =
    and_then (number_at words 0) (λ fd.
    and_then (data_at words 1) (λ bytes.
    and_then (number_at words 2) (λ at.
    exactly 3 words (op.Pwrite fd bytes at))))

abbrev pub seek_of : List (List ℕ) → Result Op Cause
seek_of words =
    and_then (number_at words 0) (λ fd.
    and_then (whence_at words 1) (λ whence.
    and_then (signed_at words 2) (λ by.
    exactly 3 words (op.Seek fd whence by))))

abbrev pub trunc_of : List (List ℕ) → Result Op Cause
trunc_of words =
    and_then (number_at words 0) (λ fd.
    and_then (number_at words 1) (λ size.
    exactly 2 words (op.Trunc fd size)))

abbrev pub rename_of : List (List ℕ) → Result Op Cause
rename_of words =
    and_then (path_at words 0) (λ from.
    and_then (path_at words 1) (λ to.
    exactly 2 words (op.Rename from to)))

-- the request that a verb and the words behind it ask for
abbrev pub request_of : Verb → List (List ℕ) → Result Op Cause
request_of verb.Open words = open_of words
request_of verb.Close words = and_then (one_number words) (λ fd. Ok (op.Close fd))
request_of verb.Read words = read_of words
request_of verb.Write words = write_of words
request_of verb.Pread words = pread_of words
request_of verb.Pwrite words = pwrite_of words
request_of verb.Seek words = seek_of words
request_of verb.Trunc words = trunc_of words
request_of verb.Fsync words = and_then (one_number words) (λ fd. Ok (op.Fsync fd))
request_of verb.Sync words = exactly 0 words op.Sync
request_of verb.Mkdir words = and_then (one_path words) (λ path. Ok (op.Mkdir path))
request_of verb.Rmdir words = and_then (one_path words) (λ path. Ok (op.Rmdir path))
request_of verb.Unlink words = and_then (one_path words) (λ path. Ok (op.Unlink path))
request_of verb.Rename words = rename_of words
request_of verb.Stat words = and_then (one_path words) (λ path. Ok (op.Stat path))
request_of verb.List words = and_then (one_path words) (λ path. Ok (op.List path))
