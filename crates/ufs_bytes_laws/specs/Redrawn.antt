-- A history told again, from another tree.
use Rattle.std.specs.Prelude.{ℕ, List, [], ◌∷◌}
use Rattle.ufs_model.specs.PosixTree.{PosixTree}
use Rattle.ufs_model.specs.Posix.{posix}
use Rattle.ufs_model.specs.History.{goes_on}
use Rattle.ufs_model.specs.declared.data.Op.{Op}
use Rattle.ufs_model.specs.declared.data.Entry.{Entry}
use Rattle.ufs_model.specs.declared.data.Reply.{Reply}
use Rattle.ufs_model.specs.declared.data.Reply.TheVariants as reply
use Rattle.ufs_bytes_laws.specs.Alike.{blank}

-- an excuse as it is, and POSIX's reply on this tree for any other
abbrev pub redrawn_reply : PosixTree → ℕ → Op → Reply → Reply
redrawn_reply t client request (reply.Excused x) = reply.Excused x
redrawn_reply t client request _ = (posix t client request).1

-- the entry with the reply that this tree gives
abbrev pub redrawn : PosixTree → Entry → Entry
redrawn t entry = record entry { reply = redrawn_reply t entry.client entry.op entry.reply }

-- each entry with the reply that the tree gives after those before it
abbrev pub redrawn_all : PosixTree → List Entry → List Entry
redrawn_all t [] = []
redrawn_all t (entry ∷ history) = redrawn t entry ∷ redrawn_all (goes_on t (redrawn t entry)) history

-- the entry without the bytes of its reply
abbrev pub blanked : Entry → Entry
blanked entry = record entry { reply = blank entry.reply }
