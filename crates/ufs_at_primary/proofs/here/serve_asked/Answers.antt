use Rattle.std.proofs.Common.{◌≢◌, ℕ, ap, arith, refl, sym, subst}
use Rattle.ufs_crash_laws.specs.Changes.{asks_commit}
use Rattle.ufs_at_primary.specs.Here.{IsDoneHere}
use Rattle.ufs_serving.proofs.Asked.{none_committed}
use Rattle.ufs_at_primary.proofs.SyncedHere.{synced_number}
use Rattle.ufs_joint.specs.FirstHand.{HasPoolAlone}
use Rattle.ufs_serving.proofs.Lacking.{off_pool, some_of}
use Rattle.ufs_at_primary.proofs.here.serve_asked.Goals as goal

pub sync_here-requires-clause-pool : goal.sync_here-requires-clause-pool
sync_here-requires-clause-pool g c = subst (λ (n : ℕ). HasPoolAlone n c.args.pool.now c.args.right.now) (sym c.pool_number-number.ensures) c.requires.pool

pub sync_here-requires-clause-apart : goal.sync_here-requires-clause-apart
sync_here-requires-clause-apart g c = subst (λ (n : ℕ). n ≢ c.args.held.value.file.file) (sym c.pool_number-number.ensures) (off_pool 0 c.args.held.value.file.file (omega arith) c.requires.low)

pub returns-in-Fsync-clause-pool : goal.returns-in-Fsync-clause-pool
returns-in-Fsync-clause-pool g c = subst (λ (n : ℕ). HasPoolAlone n c.args.pool.now c.sync_here.new.right) c.pool_number-number.ensures c.sync_here.ensures.pool

pub returns-in-Fsync-clause-desc : goal.returns-in-Fsync-clause-desc
returns-in-Fsync-clause-desc g c = some_of c.sync_here.result.1.desc c.args.ask.desc c.args.held.value.file.file c.sync_here.ensures.desc c.requires.named

pub returns-in-Fsync-clause-done : goal.returns-in-Fsync-clause-done
returns-in-Fsync-clause-done g c =
    subst (IsDoneHere g.N.Naming.start.is_visible (g.T.Turns.tells c.args.door.now) (g.T.Turns.tells c.sync_here.new.door) c.args.names.now c.sync_here.new.names c.args.held c.sync_here.result.0 c.args.pool.now c.args.pool.now c.args.ask c.sync_here.result.1.entry c.sync_here.result.1.desc)
    (sym (ap asks_commit c.in-Fsync.is)) c.sync_here.ensures.done

pub returns-in-Fsync-clause-number : goal.returns-in-Fsync-clause-number
returns-in-Fsync-clause-number g c = synced_number g.N.Naming.start.is_visible (g.T.Turns.tells c.args.door.now) (g.T.Turns.tells c.sync_here.new.door) c.args.names.now c.sync_here.new.names c.args.held c.sync_here.result.0 c.args.pool.now c.args.pool.now c.args.ask c.sync_here.result.1.entry c.sync_here.result.1.desc c.sync_here.ensures.done

pub serve_change-requires-clause-pool : goal.serve_change-requires-clause-pool
serve_change-requires-clause-pool g c = subst (λ (n : ℕ). HasPoolAlone n c.args.pool.now c.args.right.now) (sym c.pool_number-number.ensures) c.requires.pool

pub serve_change-requires-clause-no_commit : goal.serve_change-requires-clause-no_commit
serve_change-requires-clause-no_commit g c = none_committed c.args.ask.op c.requires.on_file c.in_default.not-Fsync

pub serve_change-requires-clause-apart : goal.serve_change-requires-clause-apart
serve_change-requires-clause-apart g c = subst (λ (n : ℕ). n ≢ c.args.held.value.file.file) (sym c.pool_number-number.ensures) (off_pool 0 c.args.held.value.file.file (omega arith) c.requires.low)

pub returns-clause-pool : goal.returns-clause-pool
returns-clause-pool g c = subst (λ (n : ℕ). HasPoolAlone n c.serve_change.new.pool c.serve_change.new.right) c.pool_number-number.ensures c.serve_change.ensures.pool

pub returns-clause-done : goal.returns-clause-done
returns-clause-done g c =
    subst (IsDoneHere g.N.Naming.start.is_visible (g.T.Turns.tells c.args.door.now) (g.T.Turns.tells c.serve_change.new.door) c.args.names.now c.args.names.now c.args.held c.serve_change.result.0 c.args.pool.now c.serve_change.new.pool c.args.ask c.serve_change.result.1.entry c.serve_change.result.1.desc)
    (sym (none_committed c.args.ask.op c.requires.on_file c.in_default.not-Fsync)) (record { served = c.serve_change.ensures.done; names = refl; born = c.serve_change.ensures.born })
