use Rattle.std.proofs.Common.{ℕ, None, ap, refl, sym, subst, ◌≤◌, arith}
use Rattle.ufs_baton.specs.Baton.{IsDrawnWith}
use Rattle.ufs_joint.specs.FirstHand.{HasPoolAlone}
use Rattle.ufs_held.specs.Asking.{IsGuest}
use Rattle.ufs_held_names.specs.Dirs.{answered}
use Rattle.ufs_model.specs.declared.data.Ask.{Ask}
use Rattle.ufs_msg.specs.Answers.{Told}
use Rattle.ufs_msg.specs.Requests.{Asked}
use Rattle.ufs_msg.specs.declared.answer.Answer.TheVariants as answer
use Rattle.ufs_at_primary.specs.Dirs.{IsDirServed}
use Rattle.ufs_at_primary.proofs.DirsTold.{AsksSyncOf, asks_dir, asks_unopened, dir_told}
use Rattle.ufs_at_primary.proofs.dirs.serve_dir.Goals as goal

pub lend_pool-guest-requires : goal.lend_pool-guest-requires
lend_pool-guest-requires g c =
    let a = c.into_parts-client.ensures.asked in
    let p = c.requires.pool in
    record { pool = (4294967295, p.0, p.1); client = (c.into_parts-client.result.1.client, a.self, a.alone) }

pub sync_dir-entry-requires : goal.sync_dir-entry-requires
sync_dir-entry-requires g c =
    let a = c.into_parts-client.ensures.asked in
    let p = c.requires.pool in
    let k = g.N.Naming.start in
    let r = c.into_parts-client.result in
    let is = subst (λ (q : Asked). AsksSyncOf q.ask) (sym c.into_parts-client.ensures.same) (record { fsync = c.requires.fsync; dir = c.requires.dir }) in
    (a.self, 4294967295, p.0, c.lend_pool-guest.ensures.guest 4294967295 p.0 r.1.client a.self p.1 a.alone, asks_dir k r.1 r.0 a is, asks_unopened k r.1 r.0 a is)

pub take_pool-guest-requires : goal.take_pool-guest-requires
take_pool-guest-requires g c =
    let a = c.into_parts-client.ensures.asked in
    let p = c.requires.pool in
    let came = c.lend_pool-guest.ensures.guest 4294967295 p.0 c.into_parts-client.result.1.client a.self p.1 a.alone in
    record {
      none = c.lend_pool-guest.ensures.none;
      guest = (c.into_parts-client.result.1.client, answered a.self c.sync_dir-entry.result.entry, p.0, subst (λ (m : ℕ). IsGuest c.into_parts-client.result.1.client (answered a.self c.sync_dir-entry.result.entry) m p.0 c.sync_dir-entry.result.guest) (sym c.pool_number.ensures) (c.sync_dir-entry.ensures.guest a.self 4294967295 p.0 came));
    }

pub new-requires : goal.new-requires
new-requires g c =
    let a = c.into_parts-client.ensures.asked in
    let p = c.requires.pool in
    let came = c.lend_pool-guest.ensures.guest 4294967295 p.0 c.into_parts-client.result.1.client a.self p.1 a.alone in
    let back = subst (λ (m : ℕ). IsGuest c.into_parts-client.result.1.client (answered a.self c.sync_dir-entry.result.entry) m p.0 c.sync_dir-entry.result.guest) (sym c.pool_number.ensures) (c.sync_dir-entry.ensures.guest a.self 4294967295 p.0 came) in
    let is = subst (λ (q : Asked). AsksSyncOf q.ask) (sym c.into_parts-client.ensures.same) (record { fsync = c.requires.fsync; dir = c.requires.dir }) in
    dir_told g.N.Naming.start c.into_parts-client.result.1 c.into_parts-client.result.0 a is c.sync_dir-entry.result.entry c.sync_dir-entry.ensures.entry c.take_pool-guest.result (c.take_pool-guest.ensures.client c.into_parts-client.result.1.client (answered a.self c.sync_dir-entry.result.entry) p.0 back)

pub returns-clause-pool : goal.returns-clause-pool
returns-clause-pool g c = λ pool mine.
    let a = c.into_parts-client.ensures.asked in
    let came = c.lend_pool-guest.ensures.guest 4294967295 pool c.into_parts-client.result.1.client a.self mine a.alone in
    let back = subst (λ (m : ℕ). IsGuest c.into_parts-client.result.1.client (answered a.self c.sync_dir-entry.result.entry) m pool c.sync_dir-entry.result.guest) (sym c.pool_number.ensures) (c.sync_dir-entry.ensures.guest a.self 4294967295 pool came) in
    subst (λ (m : ℕ). HasPoolAlone m pool c.take_pool-guest.new.right) c.pool_number.ensures (c.take_pool-guest.ensures.pool c.into_parts-client.result.1.client (answered a.self c.sync_dir-entry.result.entry) pool back)

pub returns-clause-served : goal.returns-clause-served
returns-clause-served g c =
    let e = c.sync_dir-entry.ensures in
    let tells = g.T.Turns.tells in
    let ask = ap (λ (q : Asked). q.ask) c.into_parts-client.ensures.same in
    let told : Told = record { hand = c.take_pool-guest.result; entry = c.sync_dir-entry.result.entry; desc = c.into_parts-client.result.1.desc; owner = None; lease = None } in (
      told,
      ap answer.Served c.new.ensures,
      subst (λ (q : Ask). IsDirServed g.N.Naming.start.is_visible (tells c.args.door.now) (tells c.sync_dir-entry.new.door) c.args.names.now c.sync_dir-entry.new.names q told) ask
          (record { of_ask = e.entry; done = e.done; desc = refl; owner = refl; lease = refl }),
    )

pub returns-clause-drawn : goal.returns-clause-drawn
returns-clause-drawn g c =
    let ticket = c.sync_dir-entry.result.entry.ticket in
    let a = c.lend_pool-guest.ensures.later in
    let b = c.sync_dir-entry.ensures.later in
    let d = c.sync_dir-entry.ensures.seen in
    let e = c.take_pool-guest.ensures.later in
    let l : c.into_parts-client.result.0.seen ≤ ticket = omega (arith, a, b) in
    subst (λ (t : Told). IsDrawnWith c.args.request.hand.seen t.hand.seen t.entry) (sym c.new.ensures) (record {
      later = subst (λ (r : Asked). r.hand.seen ≤ ticket) c.into_parts-client.ensures.same l;
      seen = omega (arith, d, e);
    })
