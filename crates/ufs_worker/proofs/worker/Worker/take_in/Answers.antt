use Rattle.std.proofs.Common.{ℕ, None, Some, is_some, ap, refl, sym, subst, ◌∙◌}
use Rattle.std.specs.FinMap as fin
use Rattle.ufs_serving.specs.Posts.{all_said}
use Rattle.ufs_worker.specs.Turns.{IsTaken}
use Rattle.ufs_worker.specs.Worker.{WorkerState, worker_of}
use Rattle.ufs_worker.specs.declared.turn.WorkerTurn.TheVariants as turn
use Rattle.ufs_worker.proofs.Turning.{none_is}
use Rattle.ufs_worker.proofs.worker.Worker.take_in.Goals as goal

pub returns-then-has-clause-taken : goal.returns-then-has-clause-taken
returns-then-has-clause-taken g c =
    let f = c.self.inside in
    subst (λ (w : WorkerState). IsTaken w (worker_of f.number f.shelf (Some c.args.parcel) f.pool (all_said f.answers.items)) c.args.parcel None) c.self.view_is
    (sym (c.has.ensures ∙ ap (λ (n : ℕ). is_some (fin.get f.shelf.files n)) c.number.ensures.is) ∙ c.if-has.true, refl)

pub returns-in-Ok-clause-taken : goal.returns-in-Ok-clause-taken
returns-in-Ok-clause-taken g c =
    let f = c.self.inside in
    let none = ap (λ (w : WorkerState). w.coming) c.self.view_is ∙ c.requires in
    let absent = none_is (fin.get f.shelf.files c.args.parcel.value.file.file) (sym (c.has.ensures ∙ ap (λ (n : ℕ). is_some (fin.get f.shelf.files n)) c.number.ensures.is) ∙ c.if-has.false) in
    subst (λ (w : WorkerState). IsTaken w (worker_of f.number c.take_in.new.self f.coming f.pool (all_said f.answers.items)) c.args.parcel (Some turn.Took)) c.self.view_is
    (absent, λ i. worker_of f.number (c.in-Ok.ensures.taken i) (none i) f.pool (all_said f.answers.items))

pub returns-in-Err-clause-taken : goal.returns-in-Err-clause-taken
returns-in-Err-clause-taken g c =
    let f = c.self.inside in
    subst (λ (w : WorkerState). IsTaken w (worker_of f.number c.take_in.new.self (Some c.in-Err.parcel) f.pool (all_said f.answers.items)) c.args.parcel (Some (turn.Memory c.in-Err.memory))) c.self.view_is
    (λ i. worker_of f.number (c.in-Err.ensures.kept i) (Some (c.in-Err.ensures.back i)) f.pool (all_said f.answers.items))
