use Rattle.std.proofs.Common.{◌≡◌}
use Rattle.ufs_turns_tests.proofs.threads.turns.Given as goal

abbrev pub invariant-loop : goal.invariant-loop
invariant-loop g l = l.seat ≡ l.initial.seat
