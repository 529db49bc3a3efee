use Rattle.std.proofs.Common.{◌≡◌, take}
use Rattle.std.specs.Prelude.{map}
use Rattle.ufs_scan.specs.Nets.{net_of}
use Rattle.ufs_scan.proofs.nets.nets_in.Given as goal

abbrev pub invariant-loop-step : goal.invariant-loop-step
invariant-loop-step l = l.list.items ≡ map net_of (take l.step-index l.steps)
