use Rattle.std.proofs.Common.{None, ap, sym, subst, ◌∙◌}
use Rattle.ufs_model.specs.declared.data.Actor.TheVariants.{Primary}
use Rattle.ufs_msg.specs.declared.letter.Letter.TheVariants as letter
use Rattle.ufs_serving.specs.Posts.{all_said}
use Rattle.ufs_worker.specs.Worker.{WorkerState, worker_of}
use Rattle.ufs_worker.specs.Turns.{IsNextDone, IsTaken}
use Rattle.ufs_worker.proofs.Turning.{front_is, next_is, taken_front}
use Rattle.ufs_worker.proofs.worker.Worker.take_letter.Goals as goal

pub returns-in-Some-clause-letter : goal.returns-in-Some-clause-letter
returns-in-Some-clause-letter g c =
    let f = c.self.inside in
    let here = ap (λ (w : WorkerState). w.coming) (sym c.self.view_is) ∙ sym c.in-Some.ensures.value in
    let as_none = (λ i. worker_of f.number f.shelf (c.take.ensures.after i) f.pool (all_said f.answers.items)) ∙ (λ i. record (c.self.view_is i) { coming = None }) in
    let taken = taken_front c.args.self.now c.take_in.new.self c.in-Some.parcel c.take_in.result (subst (λ (w : WorkerState). IsTaken w c.take_in.new.self c.in-Some.parcel c.take_in.result) as_none c.take_in.ensures.taken) in
    front_is (λ p c q. g.Q.ServerPost.sends p Primary (letter.Parcel c) q) g.Q.ServerPost.same (λ p c. g.Q.ServerPost.letters_full p Primary) g.Q.ServerPost.gets_letter g.Q.ServerPost.letters_empty c.args.self.now.coming c.args.self.now c.take_in.new.self c.args.post.now c.take_in.result c.in-Some.parcel here taken

pub returns-in-None-clause-letter : goal.returns-in-None-clause-letter
returns-in-None-clause-letter g c =
    let f = c.self.inside in
    let here = ap (λ (w : WorkerState). w.coming) (sym c.self.view_is) ∙ sym c.in-None.ensures.value in
    let as_was = (λ i. worker_of f.number f.shelf ((c.take.ensures.after ∙ c.in-None.ensures.value) i) f.pool (all_said f.answers.items)) ∙ c.self.view_is in
    next_is (λ p c q. g.Q.ServerPost.sends p Primary (letter.Parcel c) q) g.Q.ServerPost.same (λ p c. g.Q.ServerPost.letters_full p Primary) g.Q.ServerPost.gets_letter g.Q.ServerPost.letters_empty c.args.self.now.coming c.args.self.now c.take_next.new.self c.args.post.now c.take_next.new.post c.take_next.result here
    (subst (λ (w : WorkerState). IsNextDone (λ p c q. g.Q.ServerPost.sends p Primary (letter.Parcel c) q) g.Q.ServerPost.same (λ p c. g.Q.ServerPost.letters_full p Primary) g.Q.ServerPost.gets_letter g.Q.ServerPost.letters_empty w c.take_next.new.self c.args.post.now c.take_next.new.post c.take_next.result) as_was c.take_next.ensures.next)
