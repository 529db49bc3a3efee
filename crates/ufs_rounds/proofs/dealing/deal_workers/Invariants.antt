use Rattle.std.proofs.Common.{◌≡◌, ◌+◌, ◌≤◌, length}
use Rattle.std.specs.Vec.{vec_capacity}
use Rattle.ufs_dealt.specs.Dealt.{AreApart}
use Rattle.ufs_rounds.specs.Dealing.{AreBare, ArePoolsFrom}
use Rattle.ufs_rounds.specs.Numbers.{AreWorkers}
use Rattle.ufs_rounds.proofs.dealing.deal_workers.Given as goal

abbrev pub invariant-loop-pool : goal.invariant-loop-pool
invariant-loop-pool g l = record {
  numbers : AreWorkers l.workers.items;
  all : length l.workers.items + length l.pool-iterator.rest.items ≡ length l.fn.pools.items;
  bare : AreBare l.pool-iterator.rest.items;
  room : length l.workers.items + length l.pool-iterator.rest.items ≤ vec_capacity l.workers;
  has : ArePoolsFrom (length l.workers.items + 1) (length l.fn.pools.items) l.hand;
  apart : AreApart l.hand;
  rest : l.hand ≡ record l.fn.hand { pools = l.hand.pools };
}
