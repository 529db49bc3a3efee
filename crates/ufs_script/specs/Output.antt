-- The text of replies and of a history.
use Rattle.std.specs.Prelude.{ℕ, zero, suc, List, [], ◌∷◌, ◌++◌, length, codes}
use Rattle.std.specs.List.{flat_map}
use Rattle.std.specs.Fmt.{decimal}
use Rattle.ufs_model.specs.declared.data.Reply.{Reply}
use Rattle.ufs_model.specs.declared.data.Reply.TheVariants as reply
use Rattle.ufs_model.specs.declared.data.Excuse.{Excuse}
use Rattle.ufs_model.specs.declared.data.Excuse.TheVariants as excuse
use Rattle.ufs_model.specs.declared.data.Actor.{Actor}
use Rattle.ufs_model.specs.declared.data.Actor.TheVariants as actor
use Rattle.ufs_model.specs.declared.data.Entry.{Entry}
use Rattle.ufs_model.specs.ErrnoName.{errno_name}
use Rattle.ufs_model.specs.History.{entries_of}
use Rattle.ufs_script.specs.Spelling.{data_text}

abbrev pub excuse_text : Excuse → List ℕ
excuse_text excuse.Memory = codes "ENOMEM"
excuse_text (excuse.Device fault) = codes "EIO"
excuse_text (excuse.Stopped fault) = codes "EIO"
excuse_text (excuse.Blocks need had) = codes "ENOSPC"
excuse_text excuse.Inodes = codes "ENOSPC"
excuse_text (excuse.Extents need) = codes "ENOSPC"

-- a space before each name
abbrev pub names_text : List (List ℕ) → List ℕ
names_text names = flat_map (λ (name : List ℕ). 32 ∷ name) names

abbrev pub reply_text : Reply → List ℕ
reply_text reply.Done = codes "ok"
reply_text (reply.Fd n) = codes "fd " ++ decimal n
reply_text (reply.Count n) = codes "n " ++ decimal n
reply_text (reply.At n) = codes "at " ++ decimal n
reply_text (reply.Got bytes) = codes "data " ++ data_text bytes
reply_text (reply.IsFile size) = codes "file " ++ decimal size
reply_text (reply.IsDir entries) = codes "dir " ++ decimal entries
reply_text (reply.Names names) = codes "names " ++ decimal (length names) ++ names_text names
reply_text (reply.Refused e) = codes "err " ++ errno_name e
reply_text (reply.Excused x) = codes "err " ++ excuse_text x

-- client, point, number, space, reply, and byte 10
abbrev pub line_text : ℕ → ℕ → Reply → List ℕ
line_text client seq r = decimal client ++ 46 ∷ decimal seq ++ 32 ∷ reply_text r ++ 10 ∷ []

-- the lines of entries, one after the other
abbrev pub lines_of : List Entry → List ℕ
lines_of [] = []
lines_of (entry ∷ entries) = line_text entry.client entry.seq entry.reply ++ lines_of entries

-- the lines of so many clients, client by client in order
abbrev pub output_of : ℕ → List Entry → List ℕ
output_of zero history = []
output_of (suc client) history = output_of client history ++ lines_of (entries_of client history)

-- ---- the line of an entry in a trace

abbrev pub actor_text : Actor → List ℕ
actor_text (actor.Client k) = 99 ∷ decimal k
actor_text (actor.Worker k) = 119 ∷ decimal k
actor_text actor.Primary = codes "p"

-- a comma before each actor
abbrev pub more_actors : List Actor → List ℕ
more_actors actors = flat_map (λ (actor : Actor). 44 ∷ actor_text actor) actors

-- the actors that sent the request on, where there are any
abbrev pub via_text : List Actor → List ℕ
via_text [] = []
via_text (first ∷ actors) = codes " via " ++ actor_text first ++ more_actors actors

-- an excuse in full
abbrev pub excuse_words : Excuse → List ℕ
excuse_words excuse.Memory = codes "memory"
excuse_words (excuse.Device fault) = codes "device " ++ decimal fault
excuse_words (excuse.Stopped fault) = codes "stopped " ++ decimal fault
excuse_words (excuse.Blocks need had) = codes "blocks " ++ decimal need ++ codes " " ++ decimal had
excuse_words excuse.Inodes = codes "inodes 1 0"
excuse_words (excuse.Extents need) = codes "extents " ++ decimal need ++ codes " 56"

abbrev pub why_text : Reply → List ℕ
why_text (reply.Excused x) = codes " excuse " ++ excuse_words x
why_text _ = []

-- ticket, client, point, number, actor, those that sent it on, excuse, and byte 10
abbrev pub trace_text : Entry → List Actor → List ℕ
trace_text entry via =
    codes "# " ++ decimal entry.ticket ++ 32 ∷ decimal entry.client ++ 46 ∷ decimal entry.seq ++ codes " by "
    ++ actor_text entry.by ++ via_text via ++ why_text entry.reply ++ 10 ∷ []
