use Rattle.std.proofs.Common.{◌≡◌, None, Some, true, ap, sym, subst, refl, ◌≤◌, arith}
use Rattle.ufs_baton.specs.Baton.{IsToldSince}
use Rattle.ufs_file.specs.Hand.{IsOf}
use Rattle.ufs_model.specs.FileCalls.{is_on_file}
use Rattle.ufs_model.specs.declared.data.Ask.{Ask}
use Rattle.ufs_model.specs.declared.data.Actor.TheVariants.{Primary}
use Rattle.ufs_msg.specs.Answers.{Told}
use Rattle.ufs_msg.specs.Requests.{Asked}
use Rattle.ufs_at_primary.specs.Here.{IsServedHere}
use Rattle.ufs_serving.proofs.Told.{told_on_file}
use Rattle.ufs_at_primary.proofs.here.serve_here.Goals as goal

pub know_on_file-requires-clause-on_file : goal.know_on_file-requires-clause-on_file
know_on_file-requires-clause-on_file g c = subst (λ (r : Asked). is_on_file r.ask.op ≡ true) (sym c.into_parts-client.ensures.same) c.requires.on_file

pub serve_asked-held-requires-clause-asked : goal.serve_asked-held-requires-clause-asked
serve_asked-held-requires-clause-asked g c =
    let a = c.know_on_file.ensures.asked in
    (a.self, a.alone, c.know_on_file.ensures.asks a.self a.alone)

pub serve_asked-held-requires-clause-on_file : goal.serve_asked-held-requires-clause-on_file
serve_asked-held-requires-clause-on_file g c = subst (λ (r : Asked). is_on_file r.ask.op ≡ true) (sym c.into_parts-client.ensures.same) c.requires.on_file

pub serve_asked-held-requires-clause-bounded : goal.serve_asked-held-requires-clause-bounded
serve_asked-held-requires-clause-bounded g c = c.know_on_file.ensures.asked.bounded

pub serve_asked-held-requires-clause-named : goal.serve_asked-held-requires-clause-named
serve_asked-held-requires-clause-named g c = subst (λ (r : Asked). IsOf r.ask.desc c.args.held.value.file.file) (sym c.into_parts-client.ensures.same) c.requires.named

pub served_answer-requires : goal.served_answer-requires
served_answer-requires g c =
    let a = c.know_on_file.ensures.asked in
    let on_file = subst (λ (r : Asked). is_on_file r.ask.op ≡ true) (sym c.into_parts-client.ensures.same) c.requires.on_file in
    let then = c.serve_asked-held.ensures.client a.self a.alone in
    told_on_file g.N.Naming.start c.into_parts-client.result.1 c.know_on_file.new.hand a on_file Primary tt c.serve_asked-held.result.1.entry c.serve_asked-held.result.1.desc c.serve_asked-held.ensures.desc
    c.serve_asked-held.ensures.entry then.0 then.1 c.serve_asked-held.result.1.guest then.2

pub returns-clause-served : goal.returns-clause-served
returns-clause-served g c =
    let s = c.serve_asked-held.ensures in
    let r = c.serve_asked-held.result.1 in
    let ask = ap (λ (q : Asked). q.ask) c.into_parts-client.ensures.same in
    let told : Told = record { hand = r.guest; entry = r.entry; desc = r.desc; owner = Some Primary; lease = None } in (
      told,
      c.served_answer.ensures,
      subst (λ (q : Ask). IsServedHere g.N.Naming.start.is_visible (g.T.Turns.tells c.args.door.now) (g.T.Turns.tells c.serve_asked-held.new.door) c.args.names.now c.serve_asked-held.new.names c.args.held c.serve_asked-held.result.0 c.args.pool.now c.serve_asked-held.new.pool q told) ask
          (record { of_ask = s.entry; done = s.done; owner = refl; lease = refl; number = s.number }),
    )

pub returns-clause-drawn : goal.returns-clause-drawn
returns-clause-drawn g c =
    let a = c.know_on_file.ensures.later in
    let b = c.serve_asked-held.ensures.later in
    let ticket = c.serve_asked-held.result.1.entry.ticket in
    let l : c.into_parts-client.result.0.seen ≤ ticket = omega (arith, a, b) in
    subst (IsToldSince c.args.request.hand.seen) (sym c.served_answer.ensures) (record {
      later = subst (λ (r : Asked). r.hand.seen ≤ ticket) c.into_parts-client.ensures.same l;
      seen = c.serve_asked-held.ensures.seen;
    })
