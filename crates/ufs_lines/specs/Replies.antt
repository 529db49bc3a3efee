-- Which lines are those of replies.
use Rattle.std.specs.Prelude.{ℕ, ◌≡◌, ◌<◌, ◌≤◌, ◌-◌, ◌^◌, ◌⊎◌, List, ◌++◌, length, codes}
use Rattle.std.specs.Fmt.{decimal}
use Rattle.hex.specs.Hex.{IsBytes}
use Rattle.ufs_model.specs.ErrnoName.{errno_name}
use Rattle.ufs_model.specs.declared.data.Errno.{Errno}
use Rattle.ufs_model.specs.declared.data.Excuse.{Excuse}
use Rattle.ufs_model.specs.declared.data.Reply.{Reply}
use Rattle.ufs_model.specs.declared.data.Reply.TheVariants as reply
use Rattle.ufs_script.specs.Output.{names_text, excuse_text, reply_text, line_text}

-- its numbers and bytes are those of a reply's types
abbrev pub FitsReply : Reply → Type 0
FitsReply (reply.Fd n) = n < 2 ^ 32
FitsReply (reply.Count n) = n < 2 ^ 32
FitsReply (reply.At n) = n < 2 ^ 64
FitsReply (reply.Got bytes) = IsBytes bytes
FitsReply (reply.IsFile size) = size < 2 ^ 64
FitsReply (reply.IsDir entries) = entries < 2 ^ 32
FitsReply (reply.Names names) = length names < 2 ^ 64
FitsReply _ = Unit {0}

-- ---- by the kinds of reply

-- a word and a number of the reply's type
abbrev pub IsCountText : List ℕ → Type 0
IsCountText text =
    ((n : ℕ) × (n ≤ 2 ^ 32 - 1) × (text ≡ codes "fd " ++ decimal n)) ⊎ ((n : ℕ) × (n ≤ 2 ^ 32 - 1) × (text ≡ codes "n " ++ decimal n))
    ⊎ ((n : ℕ) × (n ≤ 2 ^ 64 - 1) × (text ≡ codes "at " ++ decimal n)) ⊎ ((n : ℕ) × (n ≤ 2 ^ 64 - 1) × (text ≡ codes "file " ++ decimal n))
    ⊎ ((n : ℕ) × (n ≤ 2 ^ 32 - 1) × (text ≡ codes "dir " ++ decimal n))

-- so many names, each behind a space
abbrev pub AreNames : ℕ → List ℕ → Type 0
AreNames count text = (names : List (List ℕ)) × (length names ≡ count) × (text ≡ names_text names)

abbrev pub IsNamesText : List ℕ → Type 0
IsNamesText text = (names : List (List ℕ)) × (length names < 2 ^ 64) × (text ≡ codes "names " ++ (decimal (length names) ++ names_text names))

-- the name of a refusal or of an excuse
abbrev pub IsErrno : List ℕ → Type 0
IsErrno name = ((e : Errno) × (name ≡ errno_name e)) ⊎ ((x : Excuse) × (name ≡ excuse_text x))

abbrev pub IsErrorText : List ℕ → Type 0
IsErrorText text = (name : List ℕ) × IsErrno name × (text ≡ codes "err " ++ name)

-- ---- any reply

-- the text of some reply
abbrev pub IsReplyText : List ℕ → Type 0
IsReplyText text = (r : Reply) × FitsReply r × (text ≡ reply_text r)

-- the line of some reply to this request
abbrev pub IsReplyLine : ℕ → ℕ → List ℕ → Type 0
IsReplyLine client seq line = (r : Reply) × FitsReply r × (line ≡ line_text client seq r)
