use Rattle.std.proofs.Common.{take}
use Rattle.ufs_walk.specs.Found.{IsIndexOf}
use Rattle.ufs_walk.proofs.index.index_of.Given as goal

abbrev pub invariant-loop-place : goal.invariant-loop-place
invariant-loop-place l = IsIndexOf (take l.place l.dirs) l.index
