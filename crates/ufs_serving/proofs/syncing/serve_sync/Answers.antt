use Rattle.std.proofs.Common.{refl, arith}
use Rattle.ufs_held.specs.Asking.{IsAnswered}
use Rattle.ufs_serving.proofs.Visits.{client_back, pool_back, visited}
use Rattle.ufs_serving.proofs.syncing.serve_sync.Goals as goal

pub lend_pool-guest-requires : goal.lend_pool-guest-requires
lend_pool-guest-requires g c =
    let a = c.requires.asked in
    record { pool = (c.args.number, c.args.pool.now, c.requires.pool); client = (c.args.ask.client, a.0, a.1) }

pub sync-entry-requires-clause-guest : goal.sync-entry-requires-clause-guest
sync-entry-requires-clause-guest g c =
    let a = c.requires.asked in
    let n = c.args.number in
    (a.0, n, c.args.pool.now, c.lend_pool-guest.ensures.guest n c.args.pool.now c.args.ask.client a.0 c.requires.pool a.1, a.2, c.requires.apart)

pub take_pool-guest-requires : goal.take_pool-guest-requires
take_pool-guest-requires g c =
    let a = c.requires.asked in
    let e = c.sync-entry in
    let v = visited c.args.right.now c.args.client c.lend_pool-guest.result e.result.guest c.lend_pool-guest.ensures.guest c.args.ask.client c.args.number c.args.pool.now c.args.pool.now c.requires.pool a.0 a.1 (IsAnswered a.0 e.result.entry e.result.desc) (λ came. e.ensures.guest a.0 c.args.number c.args.pool.now came c.requires.apart) in
    record { none = c.lend_pool-guest.ensures.none; guest = (c.args.ask.client, v.0, c.args.pool.now, v.2) }

pub returns-clause-pool : goal.returns-clause-pool
returns-clause-pool g c =
    let a = c.requires.asked in
    let e = c.sync-entry in
    pool_back c.args.right.now c.args.client c.lend_pool-guest.result e.result.guest c.lend_pool-guest.ensures.guest c.args.ask.client c.args.number c.args.pool.now c.args.pool.now c.requires.pool a.0 a.1 (IsAnswered a.0 e.result.entry e.result.desc) (λ came. e.ensures.guest a.0 c.args.number c.args.pool.now came c.requires.apart) c.take_pool-guest.new.right c.take_pool-guest.ensures.pool

pub returns-clause-client : goal.returns-clause-client
returns-clause-client g c = λ part alone.
    let e = c.sync-entry in
    client_back c.args.right.now c.args.client c.lend_pool-guest.result e.result.guest c.lend_pool-guest.ensures.guest c.args.ask.client c.args.number c.args.pool.now c.args.pool.now c.requires.pool part alone (IsAnswered part e.result.entry e.result.desc) (λ came. e.ensures.guest part c.args.number c.args.pool.now came c.requires.apart) c.take_pool-guest.result c.take_pool-guest.ensures.client

pub returns-clause-done : goal.returns-clause-done
returns-clause-done g c =
    let e = c.sync-entry.ensures in
    record { replied = e.replied; committed = e.committed; known = e.known; kept = e.kept; rest = e.rest; freed = e.freed; unfreed = e.unfreed; halts = e.halts; halted = e.halted; same_pool = refl; same_desc = e.desc }

pub returns-clause-later : goal.returns-clause-later
returns-clause-later g c =
    let a = c.lend_pool-guest.ensures.later in
    let b = c.sync-entry.ensures.later in
    omega (arith, a, b)

pub returns-clause-seen : goal.returns-clause-seen
returns-clause-seen g c =
    let a = c.sync-entry.ensures.seen in
    let b = c.take_pool-guest.ensures.later in
    omega (arith, a, b)
