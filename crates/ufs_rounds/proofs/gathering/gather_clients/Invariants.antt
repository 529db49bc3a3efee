use Rattle.std.proofs.Common.{ℕ, ◌≡◌, ◌+◌, ◌≤◌, ◌++◌, eqb, length, map}
use Rattle.std.specs.Vec.{vec_capacity, vec_len}
use Rattle.ufs_caller.specs.Callers.{entries_in}
use Rattle.ufs_joint.specs.FirstHand.{client_of, each_of}
use Rattle.ufs_gathered.specs.Gathered.{AreHome, clients_in}
use Rattle.ufs_rounds.specs.Made.{AreAllMadeThere}
use Rattle.ufs_rounds.specs.Rest.{AreDoneFrom}
use Rattle.ufs_rounds.specs.Scripts.{lists_of}
use Rattle.ufs_hand_laws.specs.Owned.{count}
use Rattle.ufs_hand_laws.specs.Whole.{idle_client}
use Rattle.ufs_rounds.proofs.gathering.gather_clients.Given as goal

abbrev pub invariant-loop-client : goal.invariant-loop-client
invariant-loop-client g l = record {
  done : AreDoneFrom (length l.told.items) l.client-iterator.rest.items;
  home : AreHome (map (λ t. entries_in t.items) l.told.items) l.hands.items;
  told : map (λ t. entries_in t.items) l.told.items ++ lists_of l.client-iterator.rest.items ≡ lists_of l.fn.clients.items;
  made : AreAllMadeThere g.N.Naming.start (map (λ t. t.items) l.told.items);
  counts : (n : ℕ) → count eqb n (clients_in l.hands.items) ≡ count eqb n (each_of client_of idle_client (length l.told.items));
  long : length l.hands.items ≡ length l.told.items;
  all : length l.told.items + length l.client-iterator.rest.items ≡ length l.fn.clients.items;
  room : vec_len l.hands + length l.client-iterator.rest.items ≤ vec_capacity l.hands;
  told_room : vec_len l.told + length l.client-iterator.rest.items ≤ vec_capacity l.told;
}
