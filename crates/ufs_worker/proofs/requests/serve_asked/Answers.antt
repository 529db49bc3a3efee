use Rattle.std.proofs.Common.{◌≢◌, ℕ, ap, sym, subst}
use Rattle.ufs_joint.specs.Cells.{FileCell}
use Rattle.ufs_crash_laws.specs.Changes.{asks_commit}
use Rattle.ufs_serving.specs.Serving.{IsDoneAt}
use Rattle.ufs_serving.proofs.Asked.{commits_none}
use Rattle.ufs_serving.proofs.Lacking.{off_pool, some_of}
use Rattle.ufs_worker.proofs.requests.serve_asked.Goals as goal
use Rattle.ufs_joint.specs.FirstHand.{HasPoolAlone}

pub serve_sync-requires-clause-pool : goal.serve_sync-requires-clause-pool
serve_sync-requires-clause-pool g c = subst (λ (n : ℕ). HasPoolAlone n c.args.pool.now c.args.right.now) (sym c.pool_number-number.ensures) c.requires.pool

pub serve_sync-requires-clause-apart : goal.serve_sync-requires-clause-apart
serve_sync-requires-clause-apart g c =
    subst (λ (n : ℕ). n ≢ c.args.held.value.file.file) (sym c.pool_number-number.ensures) (off_pool c.args.me c.args.held.value.file.file c.ranges.me.fits c.requires.low)

pub returns-in-Fsync-clause-pool : goal.returns-in-Fsync-clause-pool
returns-in-Fsync-clause-pool g c = subst (λ (n : ℕ). HasPoolAlone n c.args.pool.now c.serve_sync.new.right) c.pool_number-number.ensures c.serve_sync.ensures.pool

pub serve_change-requires-clause-pool : goal.serve_change-requires-clause-pool
serve_change-requires-clause-pool g c = subst (λ (n : ℕ). HasPoolAlone n c.args.pool.now c.args.right.now) (sym c.pool_number-number.ensures) c.requires.pool

pub serve_change-requires-clause-apart : goal.serve_change-requires-clause-apart
serve_change-requires-clause-apart g c =
    subst (λ (n : ℕ). n ≢ c.args.held.value.file.file) (sym c.pool_number-number.ensures) (off_pool c.args.me c.args.held.value.file.file c.ranges.me.fits c.requires.low)

pub returns-clause-pool : goal.returns-clause-pool
returns-clause-pool g c = subst (λ (n : ℕ). HasPoolAlone n c.serve_change.new.pool c.serve_change.new.right) c.pool_number-number.ensures c.serve_change.ensures.pool

pub returns-in-Fsync-clause-done : goal.returns-in-Fsync-clause-done
returns-in-Fsync-clause-done g c =
    subst (IsDoneAt g.N.Naming.start.is_visible (g.T.Turns.tells c.args.door.now) (g.T.Turns.tells c.serve_sync.new.door) c.args.held c.serve_sync.result.0 c.args.pool.now c.args.pool.now c.args.ask c.serve_sync.result.1.entry c.serve_sync.result.1.desc)
    (sym (ap asks_commit c.in-Fsync.is)) c.serve_sync.ensures.done

pub returns-in-Fsync-clause-desc : goal.returns-in-Fsync-clause-desc
returns-in-Fsync-clause-desc g c = some_of c.serve_sync.result.1.desc c.args.ask.desc c.args.held.value.file.file c.serve_sync.ensures.desc c.requires.named

pub returns-in-Fsync-clause-born : goal.returns-in-Fsync-clause-born
returns-in-Fsync-clause-born g c = ap (λ (q : FileCell). q.born) c.serve_sync.ensures.done.rest

pub serve_change-requires-clause-no_commit : goal.serve_change-requires-clause-no_commit
serve_change-requires-clause-no_commit g c = commits_none c.args.ask.op c.requires.hinted c.in_default.not-Fsync

pub returns-clause-done : goal.returns-clause-done
returns-clause-done g c =
    subst (IsDoneAt g.N.Naming.start.is_visible (g.T.Turns.tells c.args.door.now) (g.T.Turns.tells c.serve_change.new.door) c.args.held c.serve_change.result.0 c.args.pool.now c.serve_change.new.pool c.args.ask c.serve_change.result.1.entry c.serve_change.result.1.desc)
    (sym (commits_none c.args.ask.op c.requires.hinted c.in_default.not-Fsync)) c.serve_change.ensures.done
