use Rattle.std.proofs.Common.{◌≡◌}
use Rattle.ufs_rounds.specs.Scripts.{scripts_of}
use Rattle.ufs_rounds.specs.View.{global_of}
use Rattle.ufs_rounds.proofs.Settled.{RoundsMade}
use Rattle.ufs_rounds.proofs.participants.Participants.settle.Given as goal

abbrev pub invariant-loop-made : goal.invariant-loop-made
invariant-loop-made g l = record {
  made : RoundsMade g.N.Naming.start l.lack l._made (global_of l.initial.self (g.T.Turns.tells l.initial.door)) (global_of l.self (g.T.Turns.tells l.door)) l.before l.last;
  scripts : scripts_of l.self.clients.items ≡ scripts_of l.initial.self.clients.items;
}
