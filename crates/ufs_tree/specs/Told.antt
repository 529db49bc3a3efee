-- What a reply tells.
use Rattle.std.specs.Prelude.{Option, Some, None}
use Rattle.ufs_model.specs.declared.data.Excuse.{Excuse}
use Rattle.ufs_model.specs.declared.data.Reply.{Reply}
use Rattle.ufs_model.specs.declared.data.Reply.TheVariants as reply

-- the excuse, if it is one
abbrev pub excuse_of : Reply → Option Excuse
excuse_of (reply.Excused excuse) = Some excuse
excuse_of _ = None
