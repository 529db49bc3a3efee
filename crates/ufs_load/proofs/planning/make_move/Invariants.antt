use Rattle.std.proofs.Common.{◌≡◌, ◌++◌, map, take, drop}
use Rattle.ufs_load.specs.Plan.{on_worker}
use Rattle.ufs_load.proofs.planning.make_move.Given as goal

abbrev pub invariant-loop-load : goal.invariant-loop-load
invariant-loop-load l = l.loads ≡ map (on_worker l.next.file l.next.to) (take l.load-index l.initial.loads) ++ drop l.load-index l.initial.loads
