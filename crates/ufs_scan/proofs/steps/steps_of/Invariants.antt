use Rattle.std.proofs.Common.{◌≡◌, take}
use Rattle.std.specs.Prelude.{map, flat_map}
use Rattle.ufs_scan.specs.Edits.{edits_in}
use Rattle.ufs_scan.proofs.steps.steps_of.Given as goal

abbrev pub invariant-loop-one : goal.invariant-loop-one
invariant-loop-one l = map (λ s. s.edit) l.list.items ≡ flat_map (λ b. edits_in l.geometry b.now) (take l.one-index l.parts)
