use Rattle.std.proofs.Common.{◌≡◌, take}
use Rattle.ufs_rounds.specs.Rest.{HaveTurns}
use Rattle.ufs_rounds.specs.Scripts.{scripts_of}
use Rattle.ufs_rounds.specs.View.{global_of}
use Rattle.ufs_rounds.proofs.participants.Participants.turns_of.Given as goal

abbrev pub invariant-loop-who : goal.invariant-loop-who
invariant-loop-who g l = record {
  turns : HaveTurns g.N.Naming.start (take l.who-index l.schedule) (global_of l.fn.self (g.T.Turns.tells l.fn.door)) (global_of l.self (g.T.Turns.tells l.door));
  scripts : scripts_of l.self.clients.items ≡ scripts_of l.fn.self.clients.items;
}
