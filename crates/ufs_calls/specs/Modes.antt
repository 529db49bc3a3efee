-- How a request opens a path, and which file it gives.
use Rattle.std.specs.Prelude.{ℕ, Option, Some, None}
use Rattle.ufs_model.specs.Descriptors.{Mode, mode_of_open}
use Rattle.ufs_model.specs.Walk.{file_of}
use Rattle.ufs_model.specs.declared.data.Op.{Op}
use Rattle.ufs_model.specs.declared.data.Op.TheVariants as op
use Rattle.ufs_model.specs.declared.data.Node.{Node}
use Rattle.ufs_calls.specs.declared.mode.Mode as code

abbrev pub mode_of : code.Mode → Mode
mode_of m = record { read = m.read; write = m.write; creat = m.creat; excl = m.excl; trunc = m.trunc; append = m.append }

-- the mode of an `open`
abbrev pub mode_asked : Op → Option Mode
mode_asked (op.OpenFile path read write creat excl trunc append) =
    Some (mode_of_open read write creat excl trunc append)
mode_asked _ = None

-- the file that an `open` gives: the one that is there, or a new one; none of a directory
abbrev pub file_named : Option Node → ℕ → Option ℕ
file_named None next = Some next
file_named (Some node) next = file_of (Some node)
