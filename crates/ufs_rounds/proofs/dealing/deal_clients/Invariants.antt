use Rattle.std.proofs.Common.{◌≡◌, ◌+◌, ◌≤◌, ◌++◌, length}
use Rattle.std.specs.Vec.{vec_capacity}
use Rattle.ufs_rounds.specs.Dealing.{AreIdleFrom, HaveAskedNothing}
use Rattle.ufs_rounds.specs.Numbers.{AreClients}
use Rattle.ufs_rounds.specs.Scripts.{scripts_of}
use Rattle.ufs_rounds.proofs.dealing.deal_clients.Given as goal

abbrev pub invariant-loop-room : goal.invariant-loop-room
invariant-loop-room g l = record {
  numbers : AreClients l.clients.items;
  scripts : scripts_of l.clients.items ++ l.room-iterator.rest.items ≡ l.fn.rooms.items;
  all : length l.clients.items + length l.room-iterator.rest.items ≡ length l.fn.rooms.items;
  room : length l.clients.items + length l.room-iterator.rest.items ≤ vec_capacity l.clients;
  nothing : HaveAskedNothing l.clients.items;
  idle : AreIdleFrom (length l.clients.items) (length l.fn.rooms.items) l.hand;
}
