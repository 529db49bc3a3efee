use Rattle.std.proofs.Common.{sym, subst}
use Rattle.std.specs.Prelude.{◌%◌}
use Rattle.ufs_hand_laws.specs.Parts.{View}
use Rattle.ufs_hand_laws.specs.Rule.{clock_step}
use Rattle.ufs_hand.specs.Session.{IsEvent}
use Rattle.ufs_one_hand.proofs.hand.OneHand.learn.Goals as goal

pub mark-requires : goal.mark-requires
mark-requires g c = subst (λ (v : View). IsEvent g.N.Naming.start v g.E.Event.leaves) (sym c.self.view_is) c.requires.event

pub returns : goal.returns
returns g c = record { left = (c.mark.result % clock_step, c.mark.ensures.parts) }
