use Rattle.std.proofs.Common.{length}
use Rattle.ufs_held.proofs.held.+draw_with_files.Given as goal

abbrev pub decreases-draw_with_files : goal.decreases-draw_with_files
decreases-draw_with_files g l = length l.files.now
