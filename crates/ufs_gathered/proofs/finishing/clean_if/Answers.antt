use Rattle.std.proofs.Common.{Result, Err, ap, refl, subst, sym}
use Rattle.ufs_disk.specs.Disk.{IsImage}
use Rattle.ufs_disk.proofs.Runs.{started}
use Rattle.ufs_brink.specs.declared.closing.CloseFault.{CloseFault}
use Rattle.ufs_brink.proofs.Cleaned.{as_it_was}
use Rattle.ufs_store.specs.declared.fault.StoreFault.{StoreFault}
use Rattle.ufs_gathered.specs.Finished.{EndsBehind}
use Rattle.ufs_gathered.proofs.finishing.clean_if.Goals as goal

pub returns-in-Ok-clause-ends : goal.returns-in-Ok-clause-ends
returns-in-Ok-clause-ends g c =
    subst (λ (r : Result (Unit {0}) StoreFault). EndsBehind r (g.D.Disk.faults c.args.disk.now) (g.D.Disk.faults c.clean.new.disk) c.clean.result) (sym c.in-Ok.is) (c.clean.ensures.cause, c.clean.ensures.going)

pub returns-in-Err-clause-ends : goal.returns-in-Err-clause-ends
returns-in-Err-clause-ends g c =
    let count = g.D.Disk.faults c.args.disk.now in
    subst (λ (r : Result (Unit {0}) StoreFault). EndsBehind r count count (Err c.fault_of.result)) (sym c.in-Err.is) (refl, ap (λ (x : CloseFault). Err x) c.fault_of.ensures)

pub returns-in-Err-clause-tree : goal.returns-in-Err-clause-tree
returns-in-Err-clause-tree g c visible proper =
    let now = g.D.Disk.moments c.args.disk.now in
    as_it_was g.D.Disk.keeps (g.D.Disk.size c.args.disk.now) now now (started g.D.Disk.keeps (IsImage now.state) now (λ image left. left))
