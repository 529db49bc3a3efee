use Rattle.std.proofs.Common.{List, [], ◌∷◌, ◌++◌, inl, inr, ap, refl, sym, subst, ◌∙◌}
use Rattle.std.specs.FinMap as fin
use Rattle.ufs_baton.proofs.Since.{drawn_with}
use Rattle.ufs_model.specs.declared.data.Actor.TheVariants as actor
use Rattle.ufs_model.specs.declared.data.Actor.{Actor}
use Rattle.ufs_model.specs.declared.data.Ask.{Ask}
use Rattle.ufs_msg.specs.Requests.{Asked}
use Rattle.ufs_msg.specs.There.{MayServe}
use Rattle.ufs_serving.specs.Posts.{AnswersGo, Said, all_said, said}
use Rattle.ufs_serving.specs.Serving.{IsServedBy}
use Rattle.ufs_worker.specs.Turns.{IsRequestDone}
use Rattle.ufs_worker.specs.Worker.{WorkerState, worker_of}
use Rattle.ufs_worker.specs.declared.turn.WorkerTurn.TheVariants as turn
use Rattle.ufs_serving.proofs.Answering.{all_said-more}
use Rattle.ufs_worker.proofs.Turning.{is_redirected, is_served}
use Rattle.ufs_worker.proofs.worker.Worker.serve_front.Goals as goal

pub returns-in-Err-clause-done : goal.returns-in-Err-clause-done
returns-in-Err-clause-done g c =
    let f = c.self.inside in
    inr (inr (c.from.result, refl, (λ i. worker_of f.number f.shelf f.coming f.pool (all_said (c.reserve.ensures.items i))) ∙ c.self.view_is, refl))

pub returns-in_default-take_ask-clause-done : goal.returns-in_default-take_ask-clause-done
returns-in_default-take_ask-clause-done g c =
    let f = c.self.inside in
    let empty = c.in_default-take_ask.ensures.taken in
    inr (inl (empty.0, empty.1, refl, (λ i. worker_of f.number f.shelf f.coming f.pool (all_said (c.reserve.ensures.items i))) ∙ c.self.view_is))

pub file_asked-request-requires : goal.file_asked-request-requires
file_asked-request-requires g c = subst (λ (a : Actor). MayServe a c.in-Some.request.ask) c.requires.mine c.in-Some.ensures.may

pub returns-then-has-clause-done : goal.returns-then-has-clause-done
returns-then-has-clause-done g c =
    let answers = g.Q.ServerPost.answers in
    let same = g.Q.ServerPost.same in
    let full = g.Q.ServerPost.answers_full in
    let visible = g.N.Naming.start.is_visible in
    let before = g.T.Turns.tells c.args.door.now in
    let after = g.T.Turns.tells c.serve-answer.new.door in
    let had = c.args.baton.now in
    let has = c.follow-answer.new.self in
    let f = c.self.inside in
    let file = c.file_asked-request.result.1 in
    let m = c.take_ask.new.self in
    let q = c.send_answers.new.post in
    let new = all_said c.send_answers.new.kept.items in
    let s = said c.follow-answer.result in
    let lent = c.lend-request.ensures.hand in
    let v = worker_of f.number c.serve-answer.new.self f.coming c.serve-answer.new.pool new in
    let list = ap all_said c.push_back_reserved.ensures.items ∙ all_said-more c.reserve.new.self.items c.follow-answer.result ∙ (λ i. all_said (c.reserve.ensures.items i) ++ s ∷ []) in
    let goes = subst (λ (xs : List Said). AnswersGo answers same full xs new m q) list c.send_answers.ensures.goes in
    let done = is_served answers same full visible before after had has (fin.get f.shelf.files file) f.number f.shelf c.serve-answer.new.self f.coming f.pool c.serve-answer.new.pool (all_said f.answers.items) new c.file_asked-request.result.0 file s m q
    (sym c.has.ensures ∙ c.if-has.true) (λ x at.
    let e = c.serve-answer.ensures.served x at in (
      e.0,
      e.1,
      ap said (c.follow-answer.ensures.same ∙ e.2),
      subst (λ (a : Ask). IsServedBy visible before after (actor.Worker f.number) x e.0 f.pool c.serve-answer.new.pool a e.1) c.lend-request.ensures.ask e.3,
      drawn_with c.serve-answer.result e.1 had c.lend-request.result.hand.seen has e.2 c.serve-answer.ensures.drawn lent.seen (c.follow-answer.ensures.seen e.1 e.2),
      e.4,
    )) goes in (
    inl (
      c.in-Some.request,
      file,
      m,
      c.in-Some.ensures.taken,
      c.file_asked-request.ensures.file,
      subst (λ (w : WorkerState). IsRequestDone answers same full visible before after had has (fin.get w.files file) w v c.in-Some.request file m q turn.Served) c.self.view_is
          (subst (λ (r : Asked). IsRequestDone answers same full visible before after had has (fin.get f.shelf.files file) (worker_of f.number f.shelf f.coming f.pool (all_said f.answers.items)) v r file m q turn.Served) c.file_asked-request.ensures.same done),
    )
    )

pub returns-then-has-clause-store : goal.returns-then-has-clause-store
returns-then-has-clause-store g c = λ no. absurd (no refl)

pub returns-clause-done : goal.returns-clause-done
returns-clause-done g c =
    let answers = g.Q.ServerPost.answers in
    let same = g.Q.ServerPost.same in
    let full = g.Q.ServerPost.answers_full in
    let visible = g.N.Naming.start.is_visible in
    let tells = g.T.Turns.tells c.args.door.now in
    let seen = c.args.baton.now in
    let f = c.self.inside in
    let file = c.file_asked-request.result.1 in
    let m = c.take_ask.new.self in
    let q = c.send_answers-2.new.post in
    let new = all_said c.send_answers-2.new.kept.items in
    let v = worker_of f.number f.shelf f.coming f.pool new in
    let list = ap all_said c.push_back_reserved-2.ensures.items ∙ all_said-more c.reserve.new.self.items c.redirect.result
    ∙ (λ i. all_said (c.reserve.ensures.items i) ++ said (c.redirect.ensures i) ∷ []) in
    let goes = subst (λ (xs : List Said). AnswersGo answers same full xs new m q) list c.send_answers-2.ensures.goes in
    let done = is_redirected answers same full visible tells tells seen seen (fin.get f.shelf.files file) f.number f.shelf f.coming f.pool (all_said f.answers.items) new c.file_asked-request.result.0 file m q (sym c.has.ensures ∙ c.if-has.false) goes in (
    inl (
      c.in-Some.request,
      file,
      m,
      c.in-Some.ensures.taken,
      c.file_asked-request.ensures.file,
      subst (λ (w : WorkerState). IsRequestDone answers same full visible tells tells seen seen (fin.get w.files file) w v c.in-Some.request file m q (turn.Redirected file)) c.self.view_is
          (subst (λ (r : Asked). IsRequestDone answers same full visible tells tells seen seen (fin.get f.shelf.files file) (worker_of f.number f.shelf f.coming f.pool (all_said f.answers.items)) v r file m q (turn.Redirected file)) c.file_asked-request.ensures.same done),
    )
    )

pub returns-then-has-clause-seen : goal.returns-then-has-clause-seen
returns-then-has-clause-seen g c = λ no. absurd (no refl)
