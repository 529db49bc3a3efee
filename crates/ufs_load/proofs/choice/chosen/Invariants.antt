use Rattle.std.proofs.Common.{take}
use Rattle.ufs_load.specs.Choice.{IsBestOf}
use Rattle.ufs_load.proofs.choice.chosen.Given as goal

abbrev pub invariant-loop-load : goal.invariant-loop-load
invariant-loop-load l = IsBestOf (take l.load-index l.loads) l.from l.limit l.best
