use Rattle.std.proofs.Common.{None, refl, sym, subst}
use Rattle.ufs_joint.specs.Cells.{FileCell}
use Rattle.ufs_model.specs.declared.data.Actor.TheVariants.{Primary}
use Rattle.ufs_msg.specs.declared.letter.Letter.{Letter}
use Rattle.ufs_msg.specs.declared.letter.Letter.TheVariants as letter
use Rattle.ufs_worker.specs.Turns.{IsLetterDone}
use Rattle.ufs_worker.proofs.worker.Worker.read_letter.Goals as goal

pub returns-in-Parcel-clause-done : goal.returns-in-Parcel-clause-done
returns-in-Parcel-clause-done g c =
    subst (λ (l : Letter FileCell). IsLetterDone (λ p c q. g.Q.ServerPost.sends p Primary (letter.Parcel c) q) g.Q.ServerPost.same (λ p c. g.Q.ServerPost.letters_full p Primary) c.args.self.now c.take_in.new.self l c.args.post.now c.args.post.now c.take_in.result) (sym c.in-Parcel.is)
    (c.take_in.ensures.taken, refl)

pub returns-in-Recall-clause-done : goal.returns-in-Recall-clause-done
returns-in-Recall-clause-done g c =
    subst (λ (l : Letter FileCell). IsLetterDone (λ p c q. g.Q.ServerPost.sends p Primary (letter.Parcel c) q) g.Q.ServerPost.same (λ p c. g.Q.ServerPost.letters_full p Primary) c.args.self.now c.obey.new.self l c.args.post.now c.obey.new.post c.obey.result) (sym c.in-Recall.is)
    c.obey.ensures.obeyed

pub returns-clause-done : goal.returns-clause-done
returns-clause-done g c =
    subst (λ (l : Letter FileCell). IsLetterDone (λ p c q. g.Q.ServerPost.sends p Primary (letter.Parcel c) q) g.Q.ServerPost.same (λ p c. g.Q.ServerPost.letters_full p Primary) c.args.self.now c.args.self.now l c.args.post.now c.args.post.now None) (sym c.in-Report.is)
    (refl, refl, refl)
