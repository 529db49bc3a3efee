use Rattle.std.proofs.Common.{◌≡◌, length, drop}
use Rattle.ufs_path.specs.Faults.{names_fault}
use Rattle.ufs_model.proofs.Facts.Pieces.{pieces}
use Rattle.ufs_path.proofs.check.component_fault.Given as goal

abbrev pub invariant-loop-name : goal.invariant-loop-name
invariant-loop-name l = names_fault (pieces l.path) ≡ names_fault (drop (length l.yielded) (pieces l.path))
