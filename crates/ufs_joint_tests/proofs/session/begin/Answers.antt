use Rattle.std.proofs.Common.{[], inl, inr, ap, ◌∙◌}
use Rattle.ufs_joint.specs.Cells.{View}
use Rattle.ufs_joint.specs.Disks.{cell_of}
use Rattle.ufs_joint_tests.proofs.session.begin.Goals as goal

pub mark-requires-clause-may : goal.mark-requires-clause-may
mark-requires-clause-may g c = inr (inl (record { store = cell_of 0 [] (g.D.Door.store c.args.store.now); has = ap (λ (v : View). v.store) c.requires.view.2; is = c.requires.event }))

pub returns : goal.returns
returns g c = c.mark.ensures.cells ∙ (λ j. c.requires.event j c.mark.result)
