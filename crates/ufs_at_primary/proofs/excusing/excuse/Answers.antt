use Rattle.std.proofs.Common.{◌≡◌, ℕ, Bool, true, false, None, Some, ap, refl, sym, subst, ◌∙◌, ◌≤◌, arith}
use Rattle.ufs_baton.specs.Baton.{IsDrawnWith}
use Rattle.ufs_crash_laws.specs.Changes.{asks_commit}
use Rattle.ufs_joint.specs.FirstHand.{HasPoolAlone}
use Rattle.ufs_held.specs.Asking.{IsGuest}
use Rattle.ufs_held_names.specs.Dirs.{answered}
use Rattle.ufs_model.specs.declared.data.Ask.{Ask}
use Rattle.ufs_msg.specs.Answers.{Told}
use Rattle.ufs_msg.specs.Requests.{Asked}
use Rattle.ufs_msg.specs.declared.answer.Answer.TheVariants as answer
use Rattle.ufs_at_primary.specs.Excused.{IsExcusedHere, IsOpened}
use Rattle.ufs_at_primary.specs.Named.{server_at}
use Rattle.ufs_at_primary.proofs.Excuses.{excused_told, next_of, tells_stop}
use Rattle.ufs_at_primary.proofs.excusing.excuse.Goals as goal

pub lend_pool-guest-requires : goal.lend_pool-guest-requires
lend_pool-guest-requires g c =
    let a = c.into_parts-client.ensures.asked in
    let p = c.requires.pool in
    record { pool = (4294967295, p.0, p.1); client = (c.into_parts-client.result.1.client, a.self, a.alone) }

pub stop_for-stop-requires : goal.stop_for-stop-requires
stop_for-stop-requires g c =
    let a = c.into_parts-client.ensures.asked in
    let p = c.requires.pool in
    let came = c.lend_pool-guest.ensures.guest 4294967295 p.0 c.into_parts-client.result.1.client a.self p.1 a.alone in
    record { bare = record { files = came.files; names = came.names; away = came.store } }

pub draw_excuse-entry-requires-clause-asked : goal.draw_excuse-entry-requires-clause-asked
draw_excuse-entry-requires-clause-asked g c =
    let a = c.into_parts-client.ensures.asked in
    let p = c.requires.pool in
    let r = c.into_parts-client.result in
    let came = c.lend_pool-guest.ensures.guest 4294967295 p.0 r.1.client a.self p.1 a.alone in
    (a.self, 4294967295, p.0, c.stop_for-stop.ensures.guest r.1.client a.self 4294967295 p.0 came, next_of g.N.Naming.start r.1 c.stop_for-stop.result r.0 a, a.needs, a.desc)

pub draw_excuse-entry-requires-clause-knows : goal.draw_excuse-entry-requires-clause-knows
draw_excuse-entry-requires-clause-knows g c = λ fault is. (c.stop_for-stop.ensures.knows fault is, by (asks_commit c.into_parts-client.result.1.op) refl (λ none. (let other = c.stop_for-stop.ensures.plain none in let clash : None ≡ Some fault = sym other ∙ is in cc)))
  where
    by : (b : Bool) → asks_commit c.into_parts-client.result.1.op ≡ b → (asks_commit c.into_parts-client.result.1.op ≡ false → ⊥) → asks_commit c.into_parts-client.result.1.op ≡ true
    by true is never = is
    by false is never = absurd (never is)

pub draw_excuse-entry-requires-clause-opened : goal.draw_excuse-entry-requires-clause-opened
draw_excuse-entry-requires-clause-opened g c = subst (λ (q : Asked). IsOpened q.ask) (sym c.into_parts-client.ensures.same) c.requires.opened

pub take_pool-guest-requires : goal.take_pool-guest-requires
take_pool-guest-requires g c =
    let a = c.into_parts-client.ensures.asked in
    let p = c.requires.pool in
    let d = c.draw_excuse-entry in
    let r = c.into_parts-client.result in
    let came = c.stop_for-stop.ensures.guest r.1.client a.self 4294967295 p.0 (c.lend_pool-guest.ensures.guest 4294967295 p.0 r.1.client a.self p.1 a.alone) in
    record {
      none = c.lend_pool-guest.ensures.none;
      guest = (r.1.client, answered a.self d.result.0, p.0, subst (λ (m : ℕ). IsGuest r.1.client (answered a.self d.result.0) m p.0 d.result.1) (sym c.pool_number.ensures) (d.ensures.guest a.self 4294967295 p.0 came));
    }

pub new-requires : goal.new-requires
new-requires g c =
    let a = c.into_parts-client.ensures.asked in
    let p = c.requires.pool in
    let d = c.draw_excuse-entry in
    let r = c.into_parts-client.result in
    let came = c.stop_for-stop.ensures.guest r.1.client a.self 4294967295 p.0 (c.lend_pool-guest.ensures.guest 4294967295 p.0 r.1.client a.self p.1 a.alone) in
    let back = subst (λ (m : ℕ). IsGuest r.1.client (answered a.self d.result.0) m p.0 d.result.1) (sym c.pool_number.ensures) (d.ensures.guest a.self 4294967295 p.0 came) in
    excused_told g.N.Naming.start r.1 r.0 a c.args.home.now.owners d.result.0 c.server_of-owner.result c.stop_for-stop.result d.ensures.entry d.ensures.replied c.take_pool-guest.result (c.take_pool-guest.ensures.client r.1.client (answered a.self d.result.0) p.0 back)
    (c.server_of-owner.ensures.is ∙ ap (server_at c.args.home.now.owners) c.file_in.ensures) c.server_of-owner.ensures.there

pub returns-clause-pool : goal.returns-clause-pool
returns-clause-pool g c = λ pool mine.
    let a = c.into_parts-client.ensures.asked in
    let d = c.draw_excuse-entry in
    let r = c.into_parts-client.result in
    let came = c.stop_for-stop.ensures.guest r.1.client a.self 4294967295 pool (c.lend_pool-guest.ensures.guest 4294967295 pool r.1.client a.self mine a.alone) in
    let back = subst (λ (m : ℕ). IsGuest r.1.client (answered a.self d.result.0) m pool d.result.1) (sym c.pool_number.ensures) (d.ensures.guest a.self 4294967295 pool came) in
    subst (λ (m : ℕ). HasPoolAlone m pool c.take_pool-guest.new.right) c.pool_number.ensures (c.take_pool-guest.ensures.pool r.1.client (answered a.self d.result.0) pool back)

pub returns-clause-excused : goal.returns-clause-excused
returns-clause-excused g c =
    let d = c.draw_excuse-entry in
    let x = c.stop_for-stop in
    let ask = ap (λ (q : Asked). q.ask) c.into_parts-client.ensures.same in
    let told : Told = record { hand = c.take_pool-guest.result; entry = d.result.0; desc = c.into_parts-client.result.1.desc; owner = c.server_of-owner.result; lease = None } in (
      told,
      ap answer.Served c.new.ensures,
      subst (λ (q : Ask). IsExcusedHere (g.T.Turns.tells c.args.door.now) (g.T.Turns.tells x.new.door) c.args.home.now.owners q told) ask
          (record { of_ask = d.ensures.entry; stop = x.result; replied = d.ensures.replied; plain = x.ensures.plain; halted = λ asks. tells_stop (g.T.Turns.tells c.args.door.now) x.result d.result.0.reply d.ensures.replied (x.ensures.told asks); rests = x.ensures.rests; desc = refl; owner = c.server_of-owner.ensures.is ∙ ap (server_at c.args.home.now.owners) c.file_in.ensures; lease = refl }),
    )

pub returns-clause-drawn : goal.returns-clause-drawn
returns-clause-drawn g c =
    let ticket = c.draw_excuse-entry.result.0.ticket in
    let a = c.lend_pool-guest.ensures.later in
    let s = c.stop_for-stop.ensures.later in
    let b = c.draw_excuse-entry.ensures.later in
    let d = c.draw_excuse-entry.ensures.seen in
    let e = c.take_pool-guest.ensures.later in
    let l : c.into_parts-client.result.0.seen ≤ ticket = omega (arith, a, s, b) in
    subst (λ (t : Told). IsDrawnWith c.args.request.hand.seen t.hand.seen t.entry) (sym c.new.ensures) (record {
      later = subst (λ (r : Asked). r.hand.seen ≤ ticket) c.into_parts-client.ensures.same l;
      seen = omega (arith, d, e);
    })
