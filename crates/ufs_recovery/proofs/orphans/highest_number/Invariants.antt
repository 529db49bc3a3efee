use Rattle.std.proofs.Common.{◌≡◌, ℕ, ◌<◌, ◌≤◌, Some}
use Rattle.std.specs.List.{slice_get}
use Rattle.ufs_layout.specs.InodeForm.{InodeForm}
use Rattle.ufs_recovery.specs.Orphans.{AreNumbersBelow}
use Rattle.ufs_recovery.proofs.orphans.highest_number.Given as goal

abbrev pub invariant-loop-place : goal.invariant-loop-place
invariant-loop-place l = record {
  most : (place : ℕ) (form : InodeForm) → place < l.place → slice_get l.forms place ≡ Some (Some form) → form.number ≤ l.highest;
  least : (n : ℕ) → 0 < n → AreNumbersBelow l.forms n → l.highest < n;
}
