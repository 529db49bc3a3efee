use Rattle.std.proofs.Common.{ℕ, ap, get_or, rules, ◌∙◌}
use Rattle.std.proofs.lemmas.List.{length-set}
use Rattle.ufs_model.specs.declared.data.Actor.TheVariants.{Worker}
use Rattle.ufs_msg.proofs.Places.{at_place}
use Rattle.ufs_home.specs.Letters.{letter_of}
use Rattle.ufs_home.proofs.Posting.{next_box}
use Rattle.ufs_home.proofs.sending.send_boxes.Goals as goal

pub loop-place-preserved : goal.loop-place-preserved
loop-place-preserved g c =
    let inv = c.loop-place.invariant in
    let boxes = c.loop-place.boxes.items in
    let at = c.index_mut.ensures.value ∙ ap (λ (w : ℕ). get_or boxes w c.index_mut.result.now) c.from.ensures in
    record {
      gone = next_box (λ w p m q. g.Q.ServerPost.sends p (Worker w) (letter_of m) q) g.Q.ServerPost.same (λ p w. g.Q.ServerPost.letters_full p (Worker w)) c.loop-place.place c.from.result c.from.ensures c.args.boxes.now.items boxes c.args.owners.now.files c.loop-place.owners.files c.send.new.owners.files c.args.post.now c.loop-place.post c.send.new.post
          c.index_mut.result.now c.send.new.self inv.gone (at_place boxes c.loop-place.place c.index_mut.result.now (search rules) at) c.send.ensures.gone;
      each = length-set boxes c.from.result c.send.new.self ∙ inv.each;
      known = λ n all. c.send.ensures.known n (inv.known n all);
      me = c.send.ensures.me ∙ inv.me;
    }
