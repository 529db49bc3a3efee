use Rattle.std.proofs.Common.{[], sym, subst, ap, ◌∙◌}
use Rattle.std.specs.FinMap as fin
use Rattle.ufs_joint.specs.Cells.{both_of, given_of}
use Rattle.ufs_model.specs.declared.data.PartName.TheVariants.{Asked}
use Rattle.ufs_caller.specs.Hands.{IsHome}
use Rattle.ufs_caller.proofs.Starts.{starts_home}
use Rattle.ufs_caller.proofs.hands.client_hand.Goals as goal

pub returns-clause-home : goal.returns-clause-home
returns-clause-home g c =
    subst (IsHome c.args.client [] fin.empty) (sym (c.join.ensures ∙ (λ i. both_of (c.split-hand.ensures.given i) ((c.split-asked.ensures.given ∙ ap (given_of (Asked c.args.client)) c.split-hand.ensures.kept) i))))
    (starts_home c.args.client c.args.whole.now c.requires.idle g.N.Naming.start c.requires.closed)
