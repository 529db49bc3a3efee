use Rattle.std.proofs.Common.{ap, ◌∙◌}
use Rattle.std.specs.Prelude.{flat_map}
use Rattle.std.proofs.lemmas.List.{take_all}
use Rattle.ufs_scan.specs.Edits.{edits_in}
use Rattle.ufs_scan.proofs.Edits.{flat_map_map}
use Rattle.ufs_scan.proofs.steps.steps_of.Goals as goal

pub returns : goal.returns
returns c =
    c.loop-one.invariant ∙ ap (flat_map (λ b. edits_in c.args.geometry.now b.now)) (take_all c.loop-one.one-index c.args.parts.now c.loop-one-test.false)
    ∙ flat_map_map (λ b. b.now) (edits_in c.args.geometry.now) c.args.parts.now
