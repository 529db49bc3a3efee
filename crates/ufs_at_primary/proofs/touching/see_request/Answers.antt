use Rattle.std.proofs.Common.{◌≡◌, ℕ, Some, sym, subst, ◌≤◌, arith}
use Rattle.std.specs.Prelude.{IsSome}
use Rattle.std.specs.FinMap as fin
use Rattle.ufs_joint.specs.FirstHand.{HasPoolAlone}
use Rattle.ufs_held.specs.Asking.{IsGuest}
use Rattle.ufs_held_names.specs.Asked.{IsNeeded}
use Rattle.ufs_model.specs.Asks.{file_in}
use Rattle.ufs_msg.specs.Requests.{Asked}
use Rattle.ufs_at_primary.proofs.Trials.{asked_by, guest_still, still_new}
use Rattle.ufs_at_primary.proofs.touching.see_request.Goals as goal

pub lend_pool-guest-requires : goal.lend_pool-guest-requires
lend_pool-guest-requires g c =
    let a = c.into_parts-client.ensures.asked in
    let p = c.requires.pool in
    record { pool = (4294967295, p.0, p.1); client = (c.into_parts-client.result.1.client, a.self, a.alone) }

pub see-requires : goal.see-requires
see-requires g c =
    let a = c.into_parts-client.ensures.asked in
    let p = c.requires.pool in
    record { guest = (a.self, 4294967295, p.0, c.lend_pool-guest.ensures.guest 4294967295 p.0 c.into_parts-client.result.1.client a.self p.1 a.alone, a.told) }

pub take_pool-client-requires : goal.take_pool-client-requires
take_pool-client-requires g c =
    let a = c.into_parts-client.ensures.asked in
    let p = c.requires.pool in
    let came = c.lend_pool-guest.ensures.guest 4294967295 p.0 c.into_parts-client.result.1.client a.self p.1 a.alone in
    let still = guest_still c.into_parts-client.result.1.client a.self 4294967295 p.0 c.lend_pool-guest.result c.see.new.guest c.see.ensures.still came in
    record {
      none = c.lend_pool-guest.ensures.none;
      guest = (c.into_parts-client.result.1.client, a.self, p.0, subst (λ (m : ℕ). IsGuest c.into_parts-client.result.1.client a.self m p.0 c.see.new.guest) (sym c.pool_number.ensures) still);
    }

pub new-requires : goal.new-requires
new-requires g c =
    let a = c.into_parts-client.ensures.asked in
    let p = c.requires.pool in
    let came = c.lend_pool-guest.ensures.guest 4294967295 p.0 c.into_parts-client.result.1.client a.self p.1 a.alone in
    let still = guest_still c.into_parts-client.result.1.client a.self 4294967295 p.0 c.lend_pool-guest.result c.see.new.guest c.see.ensures.still came in
    asked_by g.N.Naming.start c.into_parts-client.result.1 c.into_parts-client.result.0 c.take_pool-client.result a
    (c.take_pool-client.ensures.client c.into_parts-client.result.1.client a.self p.0 (subst (λ (m : ℕ). IsGuest c.into_parts-client.result.1.client a.self m p.0 c.see.new.guest) (sym c.pool_number.ensures) still))

pub returns-clause-pool : goal.returns-clause-pool
returns-clause-pool g c = λ pool mine.
    let a = c.into_parts-client.ensures.asked in
    let came = c.lend_pool-guest.ensures.guest 4294967295 pool c.into_parts-client.result.1.client a.self mine a.alone in
    let still = guest_still c.into_parts-client.result.1.client a.self 4294967295 pool c.lend_pool-guest.result c.see.new.guest c.see.ensures.still came in
    subst (λ (m : ℕ). HasPoolAlone m pool c.take_pool-client.new.right) c.pool_number.ensures
    (c.take_pool-client.ensures.pool c.into_parts-client.result.1.client a.self pool (subst (λ (m : ℕ). IsGuest c.into_parts-client.result.1.client a.self m pool c.see.new.guest) (sym c.pool_number.ensures) still))

pub returns-clause-still : goal.returns-clause-still
returns-clause-still g c =
    let r = c.into_parts-client.result in
    let p = c.requires.pool in
    still_new c.args.request c.new.result r.0 c.take_pool-client.result r.1 r.2 c.into_parts-client.ensures.same c.new.ensures (λ self mine.
    let came = c.lend_pool-guest.ensures.guest 4294967295 p.0 r.1.client self p.1 mine in
    let still = guest_still r.1.client self 4294967295 p.0 c.lend_pool-guest.result c.see.new.guest c.see.ensures.still came in
    c.take_pool-client.ensures.client r.1.client self p.0 (subst (λ (m : ℕ). IsGuest r.1.client self m p.0 c.see.new.guest) (sym c.pool_number.ensures) still))

pub returns-clause-needed : goal.returns-clause-needed
returns-clause-needed g c =
    subst (λ (q : Asked). (file : ℕ) → IsNeeded c.args.names.now.value q.ask (Some file) → IsSome (fin.get c.args.names.now.value.held file)) c.into_parts-client.ensures.same c.see.ensures.needed

pub returns-clause-opened : goal.returns-clause-opened
returns-clause-opened g c =
    subst (λ (q : Asked). (file : ℕ) → file_in q.ask.desc ≡ Some file → IsSome (fin.get c.args.names.now.value.held file)) c.into_parts-client.ensures.same c.see.ensures.opened

pub returns-clause-later : goal.returns-clause-later
returns-clause-later g c =
    let a = c.lend_pool-guest.ensures.kept in
    let b = c.take_pool-client.ensures.own in
    let l : c.into_parts-client.result.0.seen ≤ c.take_pool-client.result.seen = omega (arith, a, b) in
    subst (λ (r : Asked). r.hand.seen ≤ c.new.result.hand.seen) c.into_parts-client.ensures.same (subst (λ (r : Asked). c.into_parts-client.result.0.seen ≤ r.hand.seen) (sym c.new.ensures) l)
