-- Two proofs of what a mirror keeps are equal.
use Rattle.std.specs.Prelude.{ℕ, Bool, IsTrue}
use Rattle.std.proofs.Props.{props}
use Rattle.ufs_mirror.specs.Labelled.{IsFit}
use Rattle.ufs_mirror.specs.Pairs.{Pair}

pub fit_prop : (one other : Bool) (size number : ℕ) (stopped : Bool) (pair : Pair) → IsProp (IsTrue one → IsTrue other → IsFit size number stopped pair)
fit_prop one other size number stopped pair = hlevel props
