use Rattle.std.proofs.Common.{ℕ, sym, subst, ap, ◌∙◌}
use Rattle.ufs_joint.specs.Cells.{Start, View}
use Rattle.ufs_joint.specs.Rule.{IsEvent}
use Rattle.ufs_joint_tests.proofs.Small.{asks}
use Rattle.ufs_joint_tests.proofs.session.ask.Goals as goal

pub mark-requires-clause-may : goal.mark-requires-clause-may
mark-requires-clause-may g c = subst (λ (x : Start × View × (ℕ → View)). IsEvent x.0 x.1 x.2)
    (λ j. (sym c.requires.start j, sym (c.requires.view ∙ ap (λ (k : Start). k.view) c.requires.start) j, sym c.requires.event j)) (asks c.args.names.now (g.D.Door.store c.args.store.now))

pub returns : goal.returns
returns g c = c.mark.ensures.cells ∙ (λ j. c.requires.event j c.mark.result)
