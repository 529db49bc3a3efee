use Rattle.std.proofs.Common.{ℕ, ◌≡◌, ◌<◌, slice_get, None, Some}
use Rattle.ufs_caller.specs.Callers.{Caller}
use Rattle.ufs_rounds.proofs.settling.some_asks.Given as goal

abbrev pub invariant-loop-client : goal.invariant-loop-client
invariant-loop-client g l = (place : ℕ) (c : Caller) → place < l.client-index → slice_get l.clients place ≡ Some c → c.errand ≡ None
