use Rattle.std.proofs.Common.{◌≡◌, ◌<◌, ℕ, List, [], slice_get, None, Some}
use Rattle.ufs_caller.specs.Callers.{Caller}
use Rattle.ufs_rounds.specs.Rest.{IsAtRest, IsInOrder}
use Rattle.ufs_rounds.specs.Scripts.{scripts_of}
use Rattle.ufs_rounds.specs.Steps.{AreStepsWhere, Step}
use Rattle.ufs_rounds.specs.View.{global_of}
use Rattle.ufs_rounds.proofs.participants.Participants.serve_left.Given as goal

abbrev pub invariant-loop-place : goal.invariant-loop-place
invariant-loop-place g l = record {
  rest : IsAtRest l.self.clients.items l.self.primary;
  over : (place : ℕ) (c : Caller) → place < l.place → slice_get l.self.clients.items place ≡ Some c → (c.errand ≡ None) × (c.left ≡ []);
  goes : (more : List Step) × AreStepsWhere g.N.Naming.start IsInOrder more (global_of l.fn.self (g.T.Turns.tells l.fn.door)) (global_of l.self (g.T.Turns.tells l.door));
  scripts : scripts_of l.self.clients.items ≡ scripts_of l.fn.self.clients.items;
}
