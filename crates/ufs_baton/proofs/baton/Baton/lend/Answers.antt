use Rattle.std.proofs.Common.{ap, sym, subst, ◌∙◌}
use Rattle.ufs_joint.specs.Cells.{View}
use Rattle.ufs_msg.specs.Requests.{Asked}
use Rattle.ufs_baton.specs.Baton.{IsToldOf}
use Rattle.ufs_baton.proofs.Hands.{told_asked}
use Rattle.ufs_baton.proofs.baton.Baton.lend.Goals as goal

pub new-requires : goal.new-requires
new-requires g c = told_asked g.N.Naming.start c.into_parts-hand.result.1 c.args.self.now c.into_parts-hand.result.0 c.tell.new.hand c.tell.ensures.told c.into_parts-hand.ensures.asked

pub returns-clause-ask : goal.returns-clause-ask
returns-clause-ask g c = ap (λ (r : Asked). r.ask) c.new.ensures ∙ ap (λ (r : Asked). r.ask) c.into_parts-hand.ensures.same

pub returns-clause-leases_back : goal.returns-clause-leases_back
returns-clause-leases_back g c = ap (λ (r : Asked). r.leases_back) c.new.ensures ∙ ap (λ (r : Asked). r.leases_back) c.into_parts-hand.ensures.same

pub returns-clause-hand : goal.returns-clause-hand
returns-clause-hand g c =
    subst (λ (r : Asked). IsToldOf c.args.self.now c.args.request.hand r.hand) (sym c.new.ensures)
    (subst (λ (r : Asked). IsToldOf c.args.self.now r.hand c.tell.new.hand) c.into_parts-hand.ensures.same c.tell.ensures.told)
