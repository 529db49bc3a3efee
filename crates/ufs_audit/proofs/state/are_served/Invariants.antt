use Rattle.std.proofs.Common.{◌≡◌, ◌<◌, ℕ, Some, length}
use Rattle.std.specs.Prelude.{slice_get}
use Rattle.ufs_model.specs.History.{requests_of}
use Rattle.ufs_audit.proofs.state.are_served.Given as goal

abbrev pub invariant-loop-i : goal.invariant-loop-i
invariant-loop-i l = (client : ℕ) → client < l.i → slice_get l.counts client ≡ Some (length (requests_of l.clients client))
