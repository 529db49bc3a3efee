use Rattle.std.proofs.Common.{◌≡◌, ℕ, ◌<◌, Some}
use Rattle.std.specs.List.{slice_get}
use Rattle.ufs_recovery.proofs.orphans.has_none.Given as goal

abbrev pub invariant-loop-number : goal.invariant-loop-number
invariant-loop-number l = (place number : ℕ) → place < l.number-index → slice_get l.numbers place ≡ Some (Some number) → ⊥
