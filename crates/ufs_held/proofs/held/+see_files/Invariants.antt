use Rattle.std.proofs.Common.{length}
use Rattle.ufs_held.proofs.held.+see_files.Given as goal

abbrev pub decreases-see_files : goal.decreases-see_files
decreases-see_files g l = length l.files.now
