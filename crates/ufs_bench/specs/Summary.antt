-- What `bench` prints: how many replies of each kind there were, and how large the files are at the end.
use Rattle.std.specs.Prelude.{ℕ, List, ◌∷◌, ◌++◌, Bool, true, false, count_by, codes}
use Rattle.std.specs.Fmt.{decimal}
use Rattle.ufs_model.specs.declared.data.Entry.{Entry}
use Rattle.ufs_model.specs.declared.data.Reply.{Reply}
use Rattle.ufs_model.specs.declared.data.Reply.TheVariants as reply
use Rattle.ufs_bench.specs.declared.replies.Kind.{Kind}
use Rattle.ufs_bench.specs.declared.replies.Kind.TheVariants as kind

-- ---- replies

-- the reply is of this kind; an excuse is an error too
abbrev pub is_of : Kind → Reply → Bool
is_of kind.Done reply.Done = true
is_of kind.Fd (reply.Fd n) = true
is_of kind.Count (reply.Count n) = true
is_of kind.Data (reply.Got bytes) = true
is_of kind.Error (reply.Refused e) = true
is_of kind.Error (reply.Excused x) = true
is_of _ _ = false

-- how many replies of a history are of a kind
abbrev pub count_in : Kind → List Entry → ℕ
count_in which history = count_by (λ (e : Entry). is_of which e.reply) history

-- ---- the lines

-- a name and a number
unfoldable pub number_line : List ℕ → ℕ → List ℕ
number_line name n = name ++ 32 ∷ decimal n ++ codes "\n"

-- the seven lines, of a history behind which there are so many bytes
abbrev pub summary_text : List Entry → ℕ → List ℕ
summary_text history bytes =
    codes "requests 16000\n"
    ++ number_line (codes "ok") (count_in kind.Done history)
    ++ number_line (codes "fd") (count_in kind.Fd history)
    ++ number_line (codes "n") (count_in kind.Count history)
    ++ number_line (codes "data") (count_in kind.Data history)
    ++ number_line (codes "err") (count_in kind.Error history)
    ++ number_line (codes "bytes") bytes
