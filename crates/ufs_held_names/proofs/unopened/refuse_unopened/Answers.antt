use Rattle.std.proofs.Common.{◌≡◌, ap, ◌∙◌}
use Rattle.ufs_model.specs.declared.data.Reply.{Reply}
use Rattle.ufs_hand_laws.specs.Draws.{left_faults}
use Rattle.ufs_held.specs.Drawn.{fresh_of}
use Rattle.ufs_held.specs.Together.{HasDrawnStill}
use Rattle.ufs_held.proofs.Together.{drawn_still}
use Rattle.ufs_held_names.proofs.Refusing.{may_refuse, replied_guest}
use Rattle.ufs_held_names.proofs.unopened.refuse_unopened.Goals as goal

pub draw_reply-entry-requires : goal.draw_reply-entry-requires
draw_reply-entry-requires g c =
    let f = c.requires.guest in
    record { may = λ ticket. may_refuse g.N.Naming.start c.args.guest f.0 f.1 f.2 c.args.ask c.args.by ticket f.3 f.4 c.requires.server c.draw_law.ensures.still }

pub returns : goal.returns
returns g c =
    let entry = c.draw_reply-entry.result in
    let v = c.args.guest in
    let z = c.draw_reply-entry.new.hand in
    let t = c.draw_reply-entry.ensures in
    let drew : HasDrawnStill entry.ticket (fresh_of entry) v z = drawn_still entry.ticket (fresh_of entry) v z t.cells t.later in
    record {
      entry = t.entry;
      replied = t.replied;
      guest = λ part n pool came. replied_guest c.args.ask.client part n pool v z entry came t.entry.client drew;
      faults = drew.faults ∙ ap (λ (r : Reply). left_faults r v.faults) t.replied;
      later = drew.later;
      seen = drew.seen;
    }
