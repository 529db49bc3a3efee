use Rattle.std.proofs.Common.{◌≡◌, ◌+◌, ◌++◌, ◌≤◌, length}
use Rattle.std.specs.Vec.{vec_capacity}
use Rattle.ufs_rounds.specs.OfCaller.{entries_in}
use Rattle.ufs_engine.proofs.asked.entries_of.Given as goal

abbrev pub invariant-loop-one : goal.invariant-loop-one
invariant-loop-one l = record {
  all : l.entries.items ++ entries_in l.one-iterator.rest.items ≡ entries_in l.fn.told.items;
  room : length l.entries.items + length l.one-iterator.rest.items ≤ vec_capacity l.entries;
}
