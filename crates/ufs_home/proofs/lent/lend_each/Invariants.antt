use Rattle.std.proofs.Common.{◌≡◌, ◌+◌, ◌≤◌, ℕ, eqb, true}
use Rattle.std.specs.List.{list_any}
use Rattle.std.specs.Prelude.{IsSome}
use Rattle.std.specs.Vec.{vec_capacity, vec_len}
use Rattle.std.specs.Vec.Iter.{into_iter_len}
use Rattle.ufs_home.specs.Lending.{AreLent}
use Rattle.ufs_home.specs.Places.{file_here}
use Rattle.ufs_home.proofs.lent.lend_each.Given as goal

-- what is still here is among the numbers that are left
abbrev pub invariant-loop-number : goal.invariant-loop-number
invariant-loop-number g l = record {
  lent : AreLent l.fn.shelf l.shelf l.files.items;
  left : (file : ℕ) → IsSome (file_here l.shelf file) → list_any (eqb file) l.number-iterator.rest.items ≡ true;
  room : vec_len l.files + into_iter_len l.number-iterator ≤ vec_capacity l.files;
}
