use Rattle.std.proofs.Common.{ap, sym, subst, ◌∙◌}
use Rattle.ufs_held.specs.Drawn.{fresh_of, replied_to}
use Rattle.ufs_held.specs.Together.{HasDrawnStill, still_of}
use Rattle.ufs_held.proofs.Together.{drawn_still}
use Rattle.ufs_joint.specs.Draws.{MayDraw}
use Rattle.ufs_model.specs.declared.data.Actor.TheVariants.{Primary}
use Rattle.ufs_model.specs.declared.data.Excuse.{Excuse}
use Rattle.ufs_model.specs.declared.data.Reply.TheVariants as reply
use Rattle.ufs_held_names.proofs.Refusing.{replied_guest}
use Rattle.ufs_at_primary.proofs.Excuses.{may_excuse}
use Rattle.ufs_at_primary.proofs.excusing.draw_excuse.Goals as goal

pub draw_reply-entry-requires : goal.draw_reply-entry-requires
draw_reply-entry-requires g c =
    let f = c.requires.asked in
    let k = g.N.Naming.start in
    record {
      may = λ ticket. subst (λ (x : Excuse). MayDraw k.geometry k.is_visible c.args.guest (replied_to c.args.ask Primary (reply.Excused x)) (still_of c.args.guest) ticket) (sym c.cause_of-cause.ensures)
          (may_excuse k c.args.guest f.0 f.1 f.2 c.args.ask c.args.stop ticket f.3 f.4 f.5 f.6 c.requires.knows c.requires.opened c.draw_law.ensures.excused);
    }

pub returns-clause-replied : goal.returns-clause-replied
returns-clause-replied g c = c.draw_reply-entry.ensures.replied ∙ ap reply.Excused c.cause_of-cause.ensures

pub returns-clause-guest : goal.returns-clause-guest
returns-clause-guest g c =
    let entry = c.draw_reply-entry.result in
    let v = c.args.guest in
    let z = c.draw_reply-entry.new.hand in
    let t = c.draw_reply-entry.ensures in
    let drew : HasDrawnStill entry.ticket (fresh_of entry) v z = drawn_still entry.ticket (fresh_of entry) v z t.cells t.later in
    λ part n pool came. replied_guest c.args.ask.client part n pool v z entry came t.entry.client drew
