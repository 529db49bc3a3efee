use Rattle.std.proofs.Common.{ℕ, None, ap, arith, refl, sym, subst, ◌∙◌, ◌≤◌}
use Rattle.ufs_baton.specs.Baton.{IsDrawnWith}
use Rattle.ufs_joint.specs.FirstHand.{HasPoolAlone}
use Rattle.ufs_held.specs.Asking.{IsGuest}
use Rattle.ufs_held_names.specs.Dirs.{answered}
use Rattle.ufs_model.specs.declared.data.Ask.{Ask}
use Rattle.ufs_msg.specs.Answers.{Told}
use Rattle.ufs_msg.specs.Requests.{Asked}
use Rattle.ufs_msg.specs.declared.answer.Answer.TheVariants as answer
use Rattle.ufs_serving.proofs.Lacking.{off_pool}
use Rattle.ufs_at_primary.specs.All.{IsAllSynced}
use Rattle.ufs_at_primary.proofs.AllTold.{all_told, asks_sync, none_under, numbers_still}
use Rattle.ufs_at_primary.proofs.all.serve_sync_all.Goals as goal

pub lend_pool-guest-requires : goal.lend_pool-guest-requires
lend_pool-guest-requires g c =
    let a = c.into_parts-client.ensures.asked in
    let p = c.requires.pool in
    record { pool = (4294967295, p.0, p.1); client = (c.into_parts-client.result.1.client, a.self, a.alone) }

pub sync-entry-requires-clause-guest : goal.sync-entry-requires-clause-guest
sync-entry-requires-clause-guest g c =
    let r = c.into_parts-client.result in
    let a = c.into_parts-client.ensures.asked in
    let p = c.requires.pool in
    let ask = ap (λ (q : Asked). q.ask.op) c.into_parts-client.ensures.same in (
      a.self,
      4294967295,
      p.0,
      c.lend_pool-guest.ensures.guest 4294967295 p.0 r.1.client a.self p.1 a.alone,
      asks_sync g.N.Naming.start r.1 r.0 a (ask ∙ c.requires.sync),
      none_under 4294967295 c.args.files.now (λ d has. off_pool 0 d.value.file.file (omega arith) (c.requires.low d has)),
    )

pub take_pool-guest-requires : goal.take_pool-guest-requires
take_pool-guest-requires g c =
    let a = c.into_parts-client.ensures.asked in
    let p = c.requires.pool in
    let came = c.lend_pool-guest.ensures.guest 4294967295 p.0 c.into_parts-client.result.1.client a.self p.1 a.alone in
    record {
      none = c.lend_pool-guest.ensures.none;
      guest = (c.into_parts-client.result.1.client, answered a.self c.sync-entry.result.entry, p.0, subst (λ (m : ℕ). IsGuest c.into_parts-client.result.1.client (answered a.self c.sync-entry.result.entry) m p.0 c.sync-entry.result.guest) (sym c.pool_number.ensures) (c.sync-entry.ensures.guest a.self 4294967295 p.0 came));
    }

pub new-requires : goal.new-requires
new-requires g c =
    let r = c.into_parts-client.result in
    let a = c.into_parts-client.ensures.asked in
    let p = c.requires.pool in
    let came = c.lend_pool-guest.ensures.guest 4294967295 p.0 r.1.client a.self p.1 a.alone in
    let back = subst (λ (m : ℕ). IsGuest r.1.client (answered a.self c.sync-entry.result.entry) m p.0 c.sync-entry.result.guest) (sym c.pool_number.ensures) (c.sync-entry.ensures.guest a.self 4294967295 p.0 came) in
    let ask = ap (λ (q : Asked). q.ask.op) c.into_parts-client.ensures.same in
    all_told g.N.Naming.start r.1 r.0 a (ask ∙ c.requires.sync) c.sync-entry.result.entry c.sync-entry.ensures.entry c.take_pool-guest.result (c.take_pool-guest.ensures.client r.1.client (answered a.self c.sync-entry.result.entry) p.0 back)

pub returns-clause-pool : goal.returns-clause-pool
returns-clause-pool g c = λ pool mine.
    let a = c.into_parts-client.ensures.asked in
    let came = c.lend_pool-guest.ensures.guest 4294967295 pool c.into_parts-client.result.1.client a.self mine a.alone in
    let back = subst (λ (m : ℕ). IsGuest c.into_parts-client.result.1.client (answered a.self c.sync-entry.result.entry) m pool c.sync-entry.result.guest) (sym c.pool_number.ensures) (c.sync-entry.ensures.guest a.self 4294967295 pool came) in
    subst (λ (m : ℕ). HasPoolAlone m pool c.take_pool-guest.new.right) c.pool_number.ensures (c.take_pool-guest.ensures.pool c.into_parts-client.result.1.client (answered a.self c.sync-entry.result.entry) pool back)

pub returns-clause-served : goal.returns-clause-served
returns-clause-served g c =
    let e = c.sync-entry.ensures in
    let before = g.T.Turns.tells c.args.door.now in
    let after = g.T.Turns.tells c.sync-entry.new.door in
    let visible = g.N.Naming.start.is_visible in
    let olds = c.args.files.now in
    let nows = c.sync-entry.new.files in
    let ask = ap (λ (q : Asked). q.ask) c.into_parts-client.ensures.same in
    let told : Told = record { hand = c.take_pool-guest.result; entry = c.sync-entry.result.entry; desc = None; owner = None; lease = None } in (
      told,
      ap answer.Served c.new.ensures,
      subst (λ (q : Ask). IsAllSynced visible before after c.args.names.now c.sync-entry.new.self olds nows q told) ask
          (record {
            of_ask = e.entry;
            replied = e.replied;
            names = e.names;
            files = e.files;
            freed = e.freed;
            short = e.short;
            numbers = numbers_still visible c.args.names.now c.sync-entry.new.self olds nows before after c.sync-entry.result.entry.reply e.replied e.files e.short;
            telling = e.telling;
            halts = e.halts;
            halted = e.halted;
            desc = refl;
            owner = refl;
            lease = refl;
          }),
    )

pub returns-clause-drawn : goal.returns-clause-drawn
returns-clause-drawn g c =
    let ticket = c.sync-entry.result.entry.ticket in
    let a = c.lend_pool-guest.ensures.later in
    let b = c.sync-entry.ensures.later in
    let d = c.sync-entry.ensures.seen in
    let e = c.take_pool-guest.ensures.later in
    let l : c.into_parts-client.result.0.seen ≤ ticket = omega (arith, a, b) in
    subst (λ (t : Told). IsDrawnWith c.args.request.hand.seen t.hand.seen t.entry) (sym c.new.ensures) (record {
      later = subst (λ (r : Asked). r.hand.seen ≤ ticket) c.into_parts-client.ensures.same l;
      seen = omega (arith, d, e);
    })
