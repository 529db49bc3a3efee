use Rattle.std.proofs.Common.{subst}
use Rattle.ufs_model.specs.declared.data.Actor.TheVariants.{Primary}
use Rattle.ufs_msg.specs.declared.letter.Letter.TheVariants as letter
use Rattle.ufs_serving.specs.Posts.{all_said}
use Rattle.ufs_worker.specs.Turns.{KeptGoes}
use Rattle.ufs_worker.specs.Worker.{WorkerState, worker_of}
use Rattle.ufs_worker.proofs.Turning.{kept_goes}
use Rattle.ufs_worker.proofs.worker.Worker.send_kept.Goals as goal

pub returns-clause-kept : goal.returns-clause-kept
returns-clause-kept g c =
    let f = c.self.inside in
    subst (λ (w : WorkerState). KeptGoes (λ p c q. g.Q.ServerPost.sends p Primary (letter.Parcel c) q) (λ p c. g.Q.ServerPost.letters_full p Primary) g.Q.ServerPost.answers g.Q.ServerPost.answers_full g.Q.ServerPost.same w
    (worker_of f.number c.send_letters.new.self f.coming f.pool (all_said c.send_answers.new.kept.items)) c.args.post.now c.send_answers.new.post) c.self.view_is
    (kept_goes (λ p c q. g.Q.ServerPost.sends p Primary (letter.Parcel c) q) (λ p c. g.Q.ServerPost.letters_full p Primary) g.Q.ServerPost.answers g.Q.ServerPost.answers_full g.Q.ServerPost.same
    f.number f.shelf c.send_letters.new.self f.coming f.pool (all_said f.answers.items) (all_said c.send_answers.new.kept.items) c.args.post.now c.send_letters.new.post c.send_answers.new.post
    c.send_letters.ensures.gone c.send_letters.ensures.files c.send_answers.ensures.goes)
