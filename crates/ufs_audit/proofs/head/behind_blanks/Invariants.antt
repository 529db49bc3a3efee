use Rattle.std.proofs.Common.{◌≡◌, ◌++◌, ℕ, List, length}
use Rattle.ufs_audit.specs.Sources.{AreBlanks}
use Rattle.ufs_audit.proofs.head.behind_blanks.Given as goal

abbrev pub invariant-loop-rest : goal.invariant-loop-rest
invariant-loop-rest l = (blanks : List ℕ) × AreBlanks blanks × (l.fn.text ≡ blanks ++ l.rest)

abbrev pub decreases-loop-rest : goal.decreases-loop-rest
decreases-loop-rest l = length l.rest
