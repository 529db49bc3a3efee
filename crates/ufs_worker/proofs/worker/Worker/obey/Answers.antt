use Rattle.std.proofs.Common.{List, ◌≡◌, Some, is_some, ap, sym, subst, ◌∙◌}
use Rattle.std.specs.FinMap as fin
use Rattle.ufs_joint.specs.Cells.{FileCell}
use Rattle.ufs_model.specs.declared.data.Actor.TheVariants.{Primary}
use Rattle.ufs_msg.specs.declared.letter.Letter.TheVariants as letter
use Rattle.ufs_serving.specs.Posts.{all_said}
use Rattle.ufs_worker.specs.Worker.{ShelfState, WorkerState, worker_of}
use Rattle.ufs_worker.specs.declared.turn.WorkerTurn.TheVariants as turn
use Rattle.ufs_serving.specs.Sending.{GoInOrder}
use Rattle.ufs_worker.specs.Turns.{IsObeyed}
use Rattle.ufs_worker.proofs.Turning.{given_back, not_here}
use Rattle.ufs_worker.proofs.worker.Worker.obey.Goals as goal

pub returns-then-not-has-clause-obeyed : goal.returns-then-not-has-clause-obeyed
returns-then-not-has-clause-obeyed g c =
    let here = ap (λ (w : WorkerState). is_some (fin.get w.files c.args.file)) (sym c.self.view_is) ∙ sym c.has.ensures ∙ c.if-not-has.true in
    not_here (λ p c q. g.Q.ServerPost.sends p Primary (letter.Parcel c) q) g.Q.ServerPost.same (λ p c. g.Q.ServerPost.letters_full p Primary) (fin.get c.args.self.now.files c.args.file) c.args.self.now c.args.file c.args.post.now here

pub returns-clause-obeyed : goal.returns-clause-obeyed
returns-clause-obeyed g c =
    let f = c.self.inside in
    let then = c.send_letters.new.self in
    let left : (x : FileCell) → fin.get f.shelf.files c.args.file ≡ Some x → then ≡ record { files = fin.remove f.shelf.files c.args.file; letters = then.letters } =
    λ x at. c.send_letters.ensures.files ∙ (λ i. record (c.let_go.ensures x at i) { letters = then.letters }) in
    subst (λ (w : WorkerState). IsObeyed (λ p c q. g.Q.ServerPost.sends p Primary (letter.Parcel c) q) g.Q.ServerPost.same (λ p c. g.Q.ServerPost.letters_full p Primary) (fin.get w.files c.args.file) w (worker_of f.number then f.coming f.pool (all_said f.answers.items)) c.args.file c.args.post.now c.send_letters.new.post (Some turn.Gave)) c.self.view_is
    (given_back (λ p c q. g.Q.ServerPost.sends p Primary (letter.Parcel c) q) g.Q.ServerPost.same (λ p c. g.Q.ServerPost.letters_full p Primary) (fin.get f.shelf.files c.args.file) (worker_of f.number f.shelf f.coming f.pool (all_said f.answers.items)) (worker_of f.number then f.coming f.pool (all_said f.answers.items)) c.args.file c.args.post.now c.send_letters.new.post
    (sym c.has.ensures ∙ c.if-not-has.false)
    (λ x at. ap (λ (s : ShelfState). worker_of f.number s f.coming f.pool (all_said f.answers.items)) (left x at))
    (λ x at. subst (λ (ls : List FileCell). GoInOrder (λ p c q. g.Q.ServerPost.sends p Primary (letter.Parcel c) q) g.Q.ServerPost.same (λ p c. g.Q.ServerPost.letters_full p Primary) ls then.letters c.args.post.now c.send_letters.new.post) (ap (λ (s : ShelfState). s.letters) (c.let_go.ensures x at)) c.send_letters.ensures.gone))
