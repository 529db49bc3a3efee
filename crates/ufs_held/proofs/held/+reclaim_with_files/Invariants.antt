use Rattle.std.proofs.Common.{length}
use Rattle.ufs_held.proofs.held.+reclaim_with_files.Given as goal

abbrev pub decreases-reclaim_with_files : goal.decreases-reclaim_with_files
decreases-reclaim_with_files g l = length l.files.now
