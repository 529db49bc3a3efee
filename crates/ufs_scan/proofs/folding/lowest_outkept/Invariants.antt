use Rattle.std.proofs.Common.{◌≡◌, drop}
use Rattle.ufs_found.specs.Off.{lower, lowest_of}
use Rattle.ufs_scan.specs.Edits.{effects, outkept}
use Rattle.ufs_scan.proofs.folding.lowest_outkept.Given as goal

abbrev pub invariant-loop-step : goal.invariant-loop-step
invariant-loop-step l = lowest_of (outkept (effects l.steps) l.count) ≡ lower l.lowest (lowest_of (outkept (effects (drop l.step-index l.steps)) l.there))
