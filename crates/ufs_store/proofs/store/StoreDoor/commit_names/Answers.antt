use Rattle.std.proofs.Common.{◌≡◌, List, sym, subst}
use Rattle.std.specs.Prelude.{Err}
use Rattle.std.proofs.lemmas.Result.{err_from_is_err_and}
use Rattle.ufs_disk.specs.Moments.{LeavesOnly}
use Rattle.ufs_layout.specs.declared.records.LogRecord.{LogRecord}
use Rattle.ufs_store.specs.Ledgers.{HasAny, IsLeftByAny, MayCommitNext, stages}
use Rattle.ufs_store.specs.Tables.{state_of}
use Rattle.ufs_store.specs.declared.fault.StoreFault.TheVariants as refusal
use Rattle.ufs_store.proofs.store.StoreDoor.commit_names.Goals as goal

pub returns-in_err-number-clause-crash : goal.returns-in_err-number-clause-crash
returns-in_err-number-clause-crash g c visible some l has may =
    let s = state_of (g.D.Disk.size c.args.self.now.disk) (g.D.Disk.moments c.args.self.now.disk) (g.D.Disk.faults c.args.self.now.disk) c.args.self.now.tables in
    subst (λ (rs : List LogRecord). LeavesOnly g.D.Disk.keeps (IsLeftByAny (g.D.Disk.size c.args.self.now.disk) (stages s rs l)) (g.D.Disk.moments c.args.self.now.disk) (g.D.Disk.moments c.commit.new.disk)) c.records-2.ensures.records
    (c.commit.ensures.crash visible l has (subst (λ (rs : List LogRecord). MayCommitNext s rs l) (sym c.records-2.ensures.records) may))

pub returns-in_err-number-clause-device : goal.returns-in_err-number-clause-device
returns-in_err-number-clause-device g c visible fault is l has may =
    let s = state_of (g.D.Disk.size c.args.self.now.disk) (g.D.Disk.moments c.args.self.now.disk) (g.D.Disk.faults c.args.self.now.disk) c.args.self.now.tables in
    let t = state_of (g.D.Disk.size c.commit.new.disk) (g.D.Disk.moments c.commit.new.disk) (g.D.Disk.faults c.commit.new.disk) c.commit.new.tables in
    let p = err_from_is_err_and c.from_residual-in_err-number.result c.from_residual-in_err-number.ensures.1 in
    let was = c.in_err-number.was in
    let failed : c.commit.result ≡ Err (refusal.Device fault) = cc in
    subst (λ (rs : List LogRecord). HasAny t (stages s rs l)) c.records-2.ensures.records
    (c.commit.ensures.device visible fault failed l has (subst (λ (rs : List LogRecord). MayCommitNext s rs l) (sym c.records-2.ensures.records) may))

pub returns-clause-crash : goal.returns-clause-crash
returns-clause-crash g c visible some l has may =
    let s = state_of (g.D.Disk.size c.args.self.now.disk) (g.D.Disk.moments c.args.self.now.disk) (g.D.Disk.faults c.args.self.now.disk) c.args.self.now.tables in
    subst (λ (rs : List LogRecord). LeavesOnly g.D.Disk.keeps (IsLeftByAny (g.D.Disk.size c.args.self.now.disk) (stages s rs l)) (g.D.Disk.moments c.args.self.now.disk) (g.D.Disk.moments c.commit.new.disk)) c.records-2.ensures.records
    (c.commit.ensures.crash visible l has (subst (λ (rs : List LogRecord). MayCommitNext s rs l) (sym c.records-2.ensures.records) may))
