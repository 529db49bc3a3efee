use Rattle.std.proofs.Common.{ℕ, sym, subst}
use Rattle.ufs_hand_laws.specs.Parts.{Start, View}
use Rattle.ufs_hand.specs.Session.{IsEvent}
use Rattle.ufs_hand_tests.proofs.LeasedSteps.{asks_read}
use Rattle.ufs_hand_tests.proofs.leased.ask.Goals as goal

pub mark-requires : goal.mark-requires
mark-requires g c = subst (λ (x : Start × View × (ℕ → View)). IsEvent x.0 x.1 x.2) (λ j. (sym c.requires.start j, sym c.requires.view.1 j, sym c.requires.event j)) (asks_read c.args.asked c.args.ticket c.requires.view.0)
