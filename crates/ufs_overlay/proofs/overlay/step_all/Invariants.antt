use Rattle.std.proofs.Common.{◌≡◌, drop, false}
use Rattle.ufs_overlay.specs.Steps.{stepped_all}
use Rattle.ufs_overlay.proofs.overlay.step_all.Given as goal

abbrev pub invariant-loop-numbered : goal.invariant-loop-numbered
invariant-loop-numbered l = stepped_all l.last l.is_newer (drop l.numbered-index l.records) l.sector ≡ stepped_all 0 false l.records l.initial.sector
