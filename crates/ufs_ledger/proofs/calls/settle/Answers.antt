use Rattle.std.proofs.Common.{sym, subst}
use Rattle.std.proofs.lemmas.Result.{on_ok_weaker}
use Rattle.ufs_disk.specs.Disk.{IsImage}
use Rattle.ufs_disk.proofs.Runs.{weaker}
use Rattle.ufs_ledger.specs.Ledger.{IsLeftBy, IsLedgerOf}
use Rattle.ufs_ledger.specs.Changes.{settled}
use Rattle.ufs_ledger.proofs.States.{barrier_quiet, barrier_settles}
use Rattle.ufs_ledger.proofs.Committing.{ready_less, unused_less}
use Rattle.ufs_ledger.proofs.calls.settle.Goals as goal

pub returns-clause-crash : goal.returns-clause-crash
returns-clause-crash g c visible l is =
    weaker g.D.Disk.keeps (IsImage (g.D.Disk.moments c.args.disk.now).state) (IsLeftBy (g.D.Disk.size c.args.disk.now) l) (λ image left. is.images image left) (g.D.Disk.moments c.args.disk.now) (g.D.Disk.moments c.barrier.new.self) (c.barrier.ensures.crash visible)

pub returns-clause-ledger : goal.returns-clause-ledger
returns-clause-ledger g c visible l is = subst (λ n. IsLedgerOf n (g.D.Disk.moments c.barrier.new.self).state l) (sym c.barrier.ensures.size)
    (barrier_quiet (g.D.Disk.size c.args.disk.now) (g.D.Disk.moments c.args.disk.now).state (g.D.Disk.moments c.barrier.new.self).state l is (c.barrier.ensures.crash visible).after (c.barrier.ensures.content visible))

pub returns-clause-ok : goal.returns-clause-ok
returns-clause-ok g c visible = on_ok_weaker c.barrier.result
    (λ still l is none. subst (λ n. IsLedgerOf n (g.D.Disk.moments c.barrier.new.self).state (settled l)) (sym c.barrier.ensures.size)
    (barrier_settles (g.D.Disk.size c.args.disk.now) (g.D.Disk.moments c.args.disk.now).state (g.D.Disk.moments c.barrier.new.self).state l none is (c.barrier.ensures.crash visible).after (c.barrier.ensures.content visible) still)) (c.barrier.ensures.ok visible)

pub returns-clause-ready : goal.returns-clause-ready
returns-clause-ready g c visible geometry epoch used number is = ready_less geometry epoch used number (g.D.Disk.moments c.args.disk.now).state (g.D.Disk.moments c.barrier.new.self).state (c.barrier.ensures.crash visible).after is

pub returns-clause-unused : goal.returns-clause-unused
returns-clause-unused g c visible geometry epoch txn is = unused_less geometry epoch txn (g.D.Disk.moments c.args.disk.now).state (g.D.Disk.moments c.barrier.new.self).state (c.barrier.ensures.crash visible).after is
