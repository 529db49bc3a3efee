use Rattle.std.proofs.Common.{◌≡◌, ◌≤◌, length}
use Rattle.std.specs.Vec.{vec_capacity}
use Rattle.ufs_rounds.specs.Dealing.{AreBare}
use Rattle.ufs_rounds.proofs.room.make_pools.Given as goal

abbrev pub invariant-loop-place : goal.invariant-loop-place
invariant-loop-place l = record {
  bare : AreBare l.pools.items;
  all : length l.pools.items ≡ l._place;
  room : l.workers ≤ vec_capacity l.pools;
}
