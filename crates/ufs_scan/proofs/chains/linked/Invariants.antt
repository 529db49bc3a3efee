use Rattle.std.proofs.Common.{◌≡◌, take}
use Rattle.std.specs.Prelude.{map}
use Rattle.ufs_scan.specs.Edits.{AreNets}
use Rattle.ufs_scan.proofs.chains.linked.Given as goal

abbrev pub invariant-loop-step : goal.invariant-loop-step
invariant-loop-step l = record {
  edits : map (λ s. s.edit) l.list.items ≡ map (λ s. s.edit) (take l.step-index l.steps);
  nets : AreNets l.list.items;
}
