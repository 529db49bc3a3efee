use Rattle.std.proofs.Common.{◌≡◌, ℕ, ◌<◌, Some, true, length}
use Rattle.std.specs.Prelude.{slice_get}
use Rattle.ufs_file.specs.Hand.{IsNeeded}
use Rattle.ufs_file.proofs.hand.FileHand.has_needed.Given as goal

abbrev pub invariant-loop-place : goal.invariant-loop-place
invariant-loop-place l = (k : ℕ) → IsNeeded (length l.self.content.bytes) l.desc l.op k → k < l.place → slice_get l.self.content.there k ≡ Some true
