use Rattle.std.proofs.Common.{arith, ◌∙◌}
use Rattle.ufs_model.specs.declared.data.Actor.TheVariants.{Primary}
use Rattle.ufs_msg.specs.declared.letter.Letter.TheVariants as letter
use Rattle.ufs_serving.proofs.Letters.{goes_on}
use Rattle.ufs_worker.proofs.sending.send_kept.Goals as goal

pub loop-parcel-preserved : goal.loop-parcel-preserved
loop-parcel-preserved g c =
    let n = c.in-Some.ensures.cases in
    let b = c.loop-parcel.invariant.fewer in
    record {
      gone = goes_on (λ p x q. g.Q.ServerPost.sends p Primary (letter.Parcel x) q) g.Q.ServerPost.same (λ p c. g.Q.ServerPost.letters_full p Primary) c.args.leaving.now.items c.loop-parcel.leaving.items c.pop_front.new.self.items c.in-Some.parcel c.args.post.now c.loop-parcel.post c.send.new.self
          c.loop-parcel.invariant.gone c.in-Some.ensures.items c.in_default-send.ensures.sent;
      fewer = omega (arith, n, b);
      capacity = c.pop_front.ensures.capacity ∙ c.loop-parcel.invariant.capacity;
      me = c.send.ensures.me ∙ c.loop-parcel.invariant.me;
    }
