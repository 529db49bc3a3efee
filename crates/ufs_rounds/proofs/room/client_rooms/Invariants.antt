use Rattle.std.proofs.Common.{◌≡◌, ◌+◌, ◌++◌, ◌≤◌, length}
use Rattle.std.specs.Vec.{vec_capacity}
use Rattle.ufs_rounds.proofs.room.client_rooms.Given as goal

abbrev pub invariant-loop-script : goal.invariant-loop-script
invariant-loop-script l = record {
  all : l.rooms.items ++ l.script-iterator.rest.items ≡ l.fn.scripts;
  room : length l.rooms.items + length l.script-iterator.rest.items ≤ vec_capacity l.rooms;
}
