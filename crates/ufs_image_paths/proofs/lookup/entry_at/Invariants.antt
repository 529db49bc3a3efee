use Rattle.std.proofs.Common.{length}
use Rattle.ufs_image_paths.proofs.LookupLemmas.{IsPart}
use Rattle.ufs_image_paths.proofs.lookup.entry_at.Given as goal

abbrev pub invariant-loop-path : goal.invariant-loop-path
invariant-loop-path l = IsPart l.entries l.path l.left

abbrev pub decreases-loop-path : goal.decreases-loop-path
decreases-loop-path l = length l.left
