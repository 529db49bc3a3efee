-- Kinds of request.
use Rattle.std.specs.Prelude.{Bool, true, false}
use Rattle.ufs_model.specs.declared.data.Op.{Op}
use Rattle.ufs_model.specs.declared.data.Op.TheVariants as op

abbrev pub is_open : Op → Bool
is_open (op.OpenFile path read write creat excl trunc append) = true
is_open _ = false

-- on a descriptor
abbrev pub is_on_fd : Op → Bool
is_on_fd (op.Close fd) = true
is_on_fd (op.Read fd n) = true
is_on_fd (op.Write fd data') = true
is_on_fd (op.Pread fd n at) = true
is_on_fd (op.Pwrite fd data' at) = true
is_on_fd (op.Seek fd from by) = true
is_on_fd (op.Trunc fd size) = true
is_on_fd (op.Fsync fd) = true
is_on_fd _ = false
