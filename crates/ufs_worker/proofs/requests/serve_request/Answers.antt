use Rattle.std.proofs.Common.{◌<◌, ◌≤◌, ◌^◌, ℕ, arith, None, Some, ap, sym, subst, ◌∙◌, refl}
use Rattle.ufs_baton.specs.Baton.{IsToldSince}
use Rattle.ufs_file.specs.Hand.{IsOf}
use Rattle.ufs_joint.specs.Cells.{FileCell}
use Rattle.ufs_model.specs.declared.data.Ask.{Ask}
use Rattle.ufs_model.specs.declared.data.Actor.TheVariants.{Worker}
use Rattle.ufs_msg.specs.Answers.{Told}
use Rattle.ufs_msg.specs.Requests.{Asked}
use Rattle.ufs_msg.specs.There.{IsByHint}
use Rattle.ufs_serving.specs.Serving.{IsServedBy}
use Rattle.ufs_serving.proofs.Told.{told}
use Rattle.ufs_worker.proofs.requests.serve_request.Goals as goal

pub know-requires-clause-hinted : goal.know-requires-clause-hinted
know-requires-clause-hinted g c = subst (λ (r : Asked). IsByHint r.ask) (sym c.into_parts-client.ensures.same) c.requires.hinted

pub serve_asked-held-requires-clause-asked : goal.serve_asked-held-requires-clause-asked
serve_asked-held-requires-clause-asked g c =
    let a = c.know.ensures.asked in
    (a.self, a.alone, c.know.ensures.asks a.self a.alone)

pub serve_asked-held-requires-clause-hinted : goal.serve_asked-held-requires-clause-hinted
serve_asked-held-requires-clause-hinted g c = (subst (λ (r : Asked). IsByHint r.ask) (sym c.into_parts-client.ensures.same) c.requires.hinted).kind

pub serve_asked-held-requires-clause-bounded : goal.serve_asked-held-requires-clause-bounded
serve_asked-held-requires-clause-bounded g c = c.know.ensures.asked.bounded

pub serve_asked-held-requires-clause-named : goal.serve_asked-held-requires-clause-named
serve_asked-held-requires-clause-named g c =
    let here = subst (λ (r : Asked). IsOf r.ask.desc c.args.parcel.value.file.file) (sym c.into_parts-client.ensures.same) c.requires.named in
    subst (λ (q : FileCell). IsOf c.into_parts-client.result.1.desc q.value.file.file) (sym c.into_held-held.ensures.same) here

pub serve_asked-held-requires-clause-low : goal.serve_asked-held-requires-clause-low
serve_asked-held-requires-clause-low g c = c.into_held-held.ensures.out.low

pub serve_asked-held-requires-clause-born : goal.serve_asked-held-requires-clause-born
serve_asked-held-requires-clause-born g c = c.into_held-held.ensures.out.born

pub new-requires : goal.new-requires
new-requires g c =
    let out = c.into_held-held.ensures.out in
    record { low = subst (λ (n : ℕ). n < 2 ^ 31) (sym c.serve_asked-held.ensures.number) out.low; born = c.serve_asked-held.ensures.born ∙ out.born }

pub served_answer-requires : goal.served_answer-requires
served_answer-requires g c =
    let a = c.know.ensures.asked in
    let hinted = subst (λ (r : Asked). IsByHint r.ask) (sym c.into_parts-client.ensures.same) c.requires.hinted in
    let then = c.serve_asked-held.ensures.client a.self a.alone in
    told g.N.Naming.start c.into_parts-client.result.1 c.know.new.hand a hinted (Worker c.args.me) c.requires.there c.serve_asked-held.result.1.entry c.serve_asked-held.result.1.desc c.serve_asked-held.ensures.desc
    c.serve_asked-held.ensures.entry then.0 then.1 c.serve_asked-held.result.1.guest then.2

pub returns-clause-served : goal.returns-clause-served
returns-clause-served g c =
    let s = c.serve_asked-held.ensures in
    let r = c.serve_asked-held.result.1 in
    let ask = ap (λ (q : Asked). q.ask) c.into_parts-client.ensures.same in
    let told : Told = record { hand = r.guest; entry = r.entry; desc = r.desc; owner = Some (Worker c.args.me); lease = None } in (
      told,
      c.served_answer.ensures,
      subst (λ (q : FileCell × FileCell × Ask). IsServedBy g.N.Naming.start.is_visible (g.T.Turns.tells c.args.door.now) (g.T.Turns.tells c.serve_asked-held.new.door) (Worker c.args.me) q.0 q.1 c.args.pool.now c.serve_asked-held.new.pool q.2 told)
          (λ i. (c.into_held-held.ensures.same i, sym c.new.ensures i, ask i))
          (record { of_ask = s.entry; done = s.done; owner = refl; lease = refl; number = s.number; born = s.born }),
    )

pub returns-clause-drawn : goal.returns-clause-drawn
returns-clause-drawn g c =
    let a = c.know.ensures.later in
    let b = c.serve_asked-held.ensures.later in
    let ticket = c.serve_asked-held.result.1.entry.ticket in
    let l : c.into_parts-client.result.0.seen ≤ ticket = omega (arith, a, b) in
    subst (IsToldSince c.args.request.hand.seen) (sym c.served_answer.ensures) (record {
      later = subst (λ (r : Asked). r.hand.seen ≤ ticket) c.into_parts-client.ensures.same l;
      seen = c.serve_asked-held.ensures.seen;
    })
