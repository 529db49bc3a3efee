use Rattle.std.proofs.Common.{◌≡◌}
use Rattle.ufs_rounds.specs.View.{global_of}
use Rattle.ufs_rounds.proofs.Calling.{CallsMade}
use Rattle.ufs_rounds.proofs.participants.Participants.call_back.Given as goal

abbrev pub invariant-loop-file : goal.invariant-loop-file
invariant-loop-file g l = record {
  calls : CallsMade g.N.Naming.start l.file l.called l.lack (global_of l.fn.self (g.T.Turns.tells l.fn.door)) (global_of l.self (g.T.Turns.tells l.door));
  clients : l.self.clients.items ≡ l.fn.self.clients.items;
}
