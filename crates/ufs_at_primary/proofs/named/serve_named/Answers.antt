use Rattle.std.proofs.Common.{ℕ, None, ap, arith, refl, sym, subst, ◌∙◌, ◌≤◌}
use Rattle.ufs_baton.specs.Baton.{IsDrawnWith}
use Rattle.ufs_held_names.specs.Asked.{IsNamedApart, IsNeeded, number_of}
use Rattle.ufs_model.specs.declared.data.Ask.{Ask}
use Rattle.ufs_msg.specs.Answers.{Told}
use Rattle.ufs_msg.specs.Requests.{Asked}
use Rattle.ufs_msg.specs.declared.answer.Answer.TheVariants as answer
use Rattle.ufs_names.specs.Calls.{IsOfNames}
use Rattle.ufs_crash_laws.specs.Changes.{asks_commit}
use Rattle.ufs_at_primary.specs.Named.{IsNamesServed}
use Rattle.ufs_joint.specs.FirstHand.{HasPoolAlone}
use Rattle.ufs_serving.proofs.Lacking.{off_pool}
use Rattle.ufs_at_primary.proofs.NamesTold.{asks_names, named_apart, names_told}
use Rattle.ufs_at_primary.proofs.named.serve_named.Goals as goal

pub serve_names-entry-requires-clause-pool : goal.serve_names-entry-requires-clause-pool
serve_names-entry-requires-clause-pool g c = subst (λ (n : ℕ). HasPoolAlone n c.args.pool.now c.args.right.now) (sym c.pool_number-number.ensures) c.requires.pool

pub serve_names-entry-requires-clause-asked : goal.serve_names-entry-requires-clause-asked
serve_names-entry-requires-clause-asked g c =
    let a = c.into_parts-client.ensures.asked in
    let ask = sym (ap (λ (q : Asked). q.ask) c.into_parts-client.ensures.same) in
    (a.self, a.alone, asks_names g.N.Naming.start c.into_parts-client.result.1 c.into_parts-client.result.0 a (subst IsOfNames ask c.requires.kind) (ap (λ (q : Ask). asks_commit q.op) (sym ask) ∙ c.requires.no_commit))

pub serve_names-entry-requires-clause-apart : goal.serve_names-entry-requires-clause-apart
serve_names-entry-requires-clause-apart g c =
    subst (λ (n : ℕ). IsNamedApart n c.args.names.now.value.next c.args.file) (sym c.pool_number-number.ensures)
    (named_apart 4294967295 c.args.names.now.value.next c.args.file (off_pool 0 c.args.names.now.value.next (omega arith) c.requires.numbers) (λ file low. off_pool 0 file (omega arith) low) c.requires.low)

pub serve_names-entry-requires-clause-needed : goal.serve_names-entry-requires-clause-needed
serve_names-entry-requires-clause-needed g c = subst (λ (q : Asked). IsNeeded c.args.names.now.value q.ask (number_of c.args.file)) (sym c.into_parts-client.ensures.same) c.requires.needed

pub new-requires : goal.new-requires
new-requires g c =
    let a = c.into_parts-client.ensures.asked in
    let s = c.serve_names-entry in
    let done = s.ensures.done in
    let then = s.ensures.client a.self a.alone in
    names_told g.N.Naming.start c.into_parts-client.result.1 c.into_parts-client.result.0 a c.args.home.now.owners s.result.entry s.result.desc c.told_server-owner.result s.ensures.entry then.0 then.1 s.result.guest then.2
    done.same_desc done.no_desc c.told_server-owner.ensures.is c.told_server-owner.ensures.there

pub returns-clause-pool : goal.returns-clause-pool
returns-clause-pool g c = subst (λ (n : ℕ). HasPoolAlone n c.serve_names-entry.new.pool c.serve_names-entry.new.right) c.pool_number-number.ensures c.serve_names-entry.ensures.pool

pub returns-clause-served : goal.returns-clause-served
returns-clause-served g c =
    let s = c.serve_names-entry in
    let tells = g.T.Turns.tells in
    let ask = ap (λ (q : Asked). q.ask) c.into_parts-client.ensures.same in
    let told : Told = record { hand = s.result.guest; entry = s.result.entry; desc = s.result.desc; owner = c.told_server-owner.result; lease = None } in (
      told,
      ap answer.Served c.new.ensures,
      subst (λ (q : Ask). IsNamesServed (tells c.args.door.now) (tells s.new.door) c.args.home.now.owners c.args.names.now s.new.names c.args.file s.result.file s.result.made c.args.pool.now s.new.pool q told) ask
          (record { of_ask = s.ensures.entry; done = s.ensures.done; owner = c.told_server-owner.ensures.is; lease = refl }),
    )

pub returns-clause-drawn : goal.returns-clause-drawn
returns-clause-drawn g c =
    let s = c.serve_names-entry in
    subst (λ (t : Told). IsDrawnWith c.args.request.hand.seen t.hand.seen t.entry) (sym c.new.ensures) (record {
      later = subst (λ (r : Asked). r.hand.seen ≤ s.result.entry.ticket) c.into_parts-client.ensures.same s.ensures.later;
      seen = s.ensures.seen;
    })
