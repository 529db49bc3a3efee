use Rattle.std.proofs.Common.{◌≡◌, List}
use Rattle.ufs_rounds.specs.Rest.{IsAtRest, IsInOrder, StaysBut}
use Rattle.ufs_rounds.specs.Scripts.{scripts_of}
use Rattle.ufs_rounds.specs.Steps.{AreStepsWhere, Step}
use Rattle.ufs_rounds.specs.View.{global_of}
use Rattle.ufs_rounds.proofs.Asking.{left_at}
use Rattle.ufs_rounds.proofs.participants.Participants.serve_client.Given as goal

abbrev pub invariant-loop-client : goal.invariant-loop-client
invariant-loop-client g l = record {
  rest : IsAtRest l.self.clients.items l.self.primary;
  others : StaysBut l.client l.fn.self.clients.items l.self.clients.items;
  goes : (more : List Step) × AreStepsWhere g.N.Naming.start IsInOrder more (global_of l.fn.self (g.T.Turns.tells l.fn.door)) (global_of l.self (g.T.Turns.tells l.door));
  scripts : scripts_of l.self.clients.items ≡ scripts_of l.fn.self.clients.items;
}

abbrev pub decreases-loop-client : goal.decreases-loop-client
decreases-loop-client g l = left_at l.self.clients.items l.client
