use Rattle.std.proofs.Common.{◌≡◌}
use Rattle.ufs_rounds.specs.Rest.{WorkersHad}
use Rattle.ufs_rounds.specs.Rounds.{MakesTurns}
use Rattle.ufs_rounds.specs.Scripts.{scripts_of}
use Rattle.ufs_rounds.specs.View.{global_of}
use Rattle.ufs_rounds.proofs.participants.Participants.turns_of_workers.Given as goal

abbrev pub invariant-loop-place : goal.invariant-loop-place
invariant-loop-place g l = record {
  turns : MakesTurns g.N.Naming.start (WorkersHad l.place) (global_of l.fn.self (g.T.Turns.tells l.fn.door)) (global_of l.self (g.T.Turns.tells l.door)) l.fn.round l.round;
  scripts : scripts_of l.self.clients.items ≡ scripts_of l.fn.self.clients.items;
}
