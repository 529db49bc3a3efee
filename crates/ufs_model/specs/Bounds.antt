-- How much one request may move.
use Rattle.std.specs.Prelude.{ℕ, ◌≤◌, length}
use Rattle.ufs_model.specs.declared.data.Op.{Op}
use Rattle.ufs_model.specs.declared.data.Op.TheVariants as op

-- the greatest length of one read or write, in bytes
abbrev pub max_transfer : ℕ
max_transfer = 1048576

-- a read or write is of at most that length
abbrev pub IsBounded : Op → Type 0
IsBounded (op.Read fd n) = n ≤ max_transfer
IsBounded (op.Write fd data') = length data' ≤ max_transfer
IsBounded (op.Pread fd n at) = n ≤ max_transfer
IsBounded (op.Pwrite fd data' at) = length data' ≤ max_transfer
IsBounded _ = Unit {0}
