use Rattle.ufs_held.specs.Together.{HasThemToo}
use Rattle.ufs_gathered.proofs.gathering.gather_files.Given as goal

abbrev pub invariant-loop-file : goal.invariant-loop-file
invariant-loop-file g l = HasThemToo l.yielded l.fn.hand l.hand
