use Rattle.std.proofs.Common.{sym, subst}
use Rattle.ufs_hand_laws.specs.Parts.{View}
use Rattle.ufs_hand_laws.specs.Whole.{HoldsAll}
use Rattle.ufs_hand.specs.Session.{KnowsAll}
use Rattle.ufs_one_hand.proofs.Closing.{holds_all, all_drawn, stamped_explained}
use Rattle.ufs_one_hand.proofs.hand.OneHand.close.Goals as goal

pub close-requires : goal.close-requires
close-requires g c =
    let s = c.requires.session in
    subst (λ (v : View). HoldsAll g.N.Naming.start v) (sym c.self.view_is) (holds_all g.N.Naming.start s.0 c.args.self s.1 s.2)

pub returns : goal.returns
returns g c =
    let knows : KnowsAll g.N.Naming.start c.close.result.tickets c.close.result.clock c.args.self = subst (λ (v : View). KnowsAll g.N.Naming.start c.close.result.tickets c.close.result.clock v) c.self.view_is c.close.ensures in record {
      tickets = λ history h. all_drawn g.N.Naming.start history c.args.self h c.close.result.tickets c.close.result.clock knows;
      explained = λ visible history h. stamped_explained g.N.Naming.start history c.args.self h c.close.result.tickets c.close.result.clock knows visible;
      whole = (c.close.result.clock, knows);
    }
