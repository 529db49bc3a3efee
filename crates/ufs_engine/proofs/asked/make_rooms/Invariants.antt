use Rattle.std.proofs.Common.{◌≡◌, ◌≤◌, length, take}
use Rattle.std.specs.Vec.{vec_capacity}
use Rattle.ufs_engine.specs.Asked.{AreRoomsFor}
use Rattle.ufs_engine.proofs.asked.make_rooms.Given as goal

abbrev pub invariant-loop-client : goal.invariant-loop-client
invariant-loop-client l = record {
  are : AreRoomsFor (take l.client-index l.clients) l.rooms.items;
  all : length l.rooms.items ≡ l.client-index;
  room : length l.clients ≤ vec_capacity l.rooms;
}
