use Rattle.std.proofs.Common.{◌≡◌, ℕ, ◌<◌, Some, false}
use Rattle.std.specs.List.{slice_get}
use Rattle.ufs_layout.specs.InodeForm.{InodeForm}
use Rattle.ufs_recovery.specs.Fitted.{has_extra}
use Rattle.ufs_recovery.proofs.cutting.are_fitted.Given as goal

abbrev pub invariant-loop-form : goal.invariant-loop-form
invariant-loop-form l = (place : ℕ) (form : InodeForm) → place < l.form-index → slice_get l.forms place ≡ Some (Some form) → has_extra form ≡ false
