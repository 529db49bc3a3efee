use Rattle.std.proofs.Common.{◌≡◌, List, Option, sym, subst}
use Rattle.std.specs.Prelude.{Err, IfSome}
use Rattle.std.proofs.lemmas.Result.{err_from_is_err_and}
use Rattle.ufs_disk.specs.Moments.{LeavesOnly}
use Rattle.ufs_ilog.specs.Deltas.{IsDelta}
use Rattle.ufs_layout.specs.declared.records.LogRecord.{LogRecord}
use Rattle.ufs_store.specs.Ledgers.{HasAny, HasLedger, IsLeftByAny, MayCommitNext, after_commit, stages}
use Rattle.ufs_store.specs.Tables.{state_of}
use Rattle.ufs_store.specs.declared.fault.StoreFault.TheVariants as refusal
use Rattle.ufs_store.proofs.Deltas.{one_delta}
use Rattle.ufs_store.proofs.store.commit_delta.Goals as goal

pub returns-in_err-number-in-Some-clause-crash : goal.returns-in_err-number-in-Some-clause-crash
returns-in_err-number-in-Some-clause-crash g c visible records delta some l has may =
    let s = state_of (g.D.Disk.size c.args.disk.now) (g.D.Disk.moments c.args.disk.now) (g.D.Disk.faults c.args.disk.now) c.args.tables.now in
    let log = c.args.log.now in
    let found = subst (λ (o : Option (List LogRecord)). IfSome o (IsDelta log.inode log.committed log.noted)) c.in-Some.is c.in_ok-records.ensures.delta in
    let same = one_delta log.inode log.committed log.noted c.in-Some.records records found delta in
    subst (λ (rs : List LogRecord). LeavesOnly g.D.Disk.keeps (IsLeftByAny (g.D.Disk.size c.args.disk.now) (stages s rs l)) (g.D.Disk.moments c.args.disk.now) (g.D.Disk.moments c.commit.new.disk)) same
    (c.commit.ensures.crash visible l has (subst (λ (rs : List LogRecord). MayCommitNext s rs l) (sym same) may))

pub returns-in_err-number-in-Some-clause-device : goal.returns-in_err-number-in-Some-clause-device
returns-in_err-number-in-Some-clause-device g c visible records delta some fault is l has may =
    let s = state_of (g.D.Disk.size c.args.disk.now) (g.D.Disk.moments c.args.disk.now) (g.D.Disk.faults c.args.disk.now) c.args.tables.now in
    let t = state_of (g.D.Disk.size c.commit.new.disk) (g.D.Disk.moments c.commit.new.disk) (g.D.Disk.faults c.commit.new.disk) c.commit.new.tables in
    let log = c.args.log.now in
    let found = subst (λ (o : Option (List LogRecord)). IfSome o (IsDelta log.inode log.committed log.noted)) c.in-Some.is c.in_ok-records.ensures.delta in
    let same = one_delta log.inode log.committed log.noted c.in-Some.records records found delta in
    let p = err_from_is_err_and c.from_residual-in_err-number-in-Some.result c.from_residual-in_err-number-in-Some.ensures.1 in
    let was = c.in_err-number-in-Some.was in
    let failed : c.commit.result ≡ Err (refusal.Device fault) = cc in
    subst (λ (rs : List LogRecord). HasAny t (stages s rs l)) same
    (c.commit.ensures.device visible fault failed l has (subst (λ (rs : List LogRecord). MayCommitNext s rs l) (sym same) may))

pub returns-in_ok-number-in-Some-clause-crash : goal.returns-in_ok-number-in-Some-clause-crash
returns-in_ok-number-in-Some-clause-crash g c visible records delta some l has may =
    let s = state_of (g.D.Disk.size c.args.disk.now) (g.D.Disk.moments c.args.disk.now) (g.D.Disk.faults c.args.disk.now) c.args.tables.now in
    let log = c.args.log.now in
    let found = subst (λ (o : Option (List LogRecord)). IfSome o (IsDelta log.inode log.committed log.noted)) c.in-Some.is c.in_ok-records.ensures.delta in
    let same = one_delta log.inode log.committed log.noted c.in-Some.records records found delta in
    subst (λ (rs : List LogRecord). LeavesOnly g.D.Disk.keeps (IsLeftByAny (g.D.Disk.size c.args.disk.now) (stages s rs l)) (g.D.Disk.moments c.args.disk.now) (g.D.Disk.moments c.commit.new.disk)) same
    (c.commit.ensures.crash visible l has (subst (λ (rs : List LogRecord). MayCommitNext s rs l) (sym same) may))

pub returns-in_ok-number-in-Some-clause-ok : goal.returns-in_ok-number-in-Some-clause-ok
returns-in_ok-number-in-Some-clause-ok g c visible records delta some l has may =
    let s = state_of (g.D.Disk.size c.args.disk.now) (g.D.Disk.moments c.args.disk.now) (g.D.Disk.faults c.args.disk.now) c.args.tables.now in
    let t = state_of (g.D.Disk.size c.commit.new.disk) (g.D.Disk.moments c.commit.new.disk) (g.D.Disk.faults c.commit.new.disk) c.commit.new.tables in
    let log = c.args.log.now in
    let found = subst (λ (o : Option (List LogRecord)). IfSome o (IsDelta log.inode log.committed log.noted)) c.in-Some.is c.in_ok-records.ensures.delta in
    let same = one_delta log.inode log.committed log.noted c.in-Some.records records found delta in
    subst (λ (rs : List LogRecord). HasLedger t (after_commit s rs l)) same
    (c.in_ok-number-in-Some.ensures.ok visible l has (subst (λ (rs : List LogRecord). MayCommitNext s rs l) (sym same) may))
