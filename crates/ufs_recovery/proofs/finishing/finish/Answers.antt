use Rattle.std.proofs.Common.{sym, subst}
use Rattle.std.proofs.lemmas.Result.{on_ok_weaker}
use Rattle.ufs_disk.specs.Moments.{reads}
use Rattle.ufs_recovery.specs.Home.{KeepsTree, MayClose, HasClosed}
use Rattle.ufs_recovery.specs.Orphans.{IsPruned}
use Rattle.ufs_recovery.proofs.Done.{on_done}
use Rattle.ufs_recovery.proofs.Finished.{may_close, has_finished}
use Rattle.ufs_recovery.proofs.SuperblockPut.{kept_on}
use Rattle.ufs_recovery.proofs.finishing.finish.Goals as goal

pub returns-clause-finished : goal.returns-clause-finished
returns-clause-finished g c visible = on_ok_weaker c.of_device.result (λ closing settled may.
    let size = g.D.Disk.size c.args.disk.now in
    let superblock = c.args.plan.now.superblock in
    let before = reads (g.D.Disk.moments c.args.disk.now) in
    let mid = reads (g.D.Disk.moments c.tidy.new.disk) in
    let after = reads (g.D.Disk.moments c.close.new.disk) in
    let tidy = c.in_ok-taken.ensures.tidy visible superblock may.prune may.read in
    let pruned : IsPruned size superblock before mid = tidy.pruned in
    let can = may_close size superblock before mid c.args.geometry.now c.args.findings.now c.args.plan.now.orphans.numbers.items c.args.plan.now.orphans.dirs.items may pruned c.in_ok-taken.taken (c.in_ok-taken.ensures.taken visible may.read) in
    let closed = closing (c.in_ok-taken.ensures.settled visible settled) (subst (λ n. MayClose n superblock mid c.args.geometry.now c.in_ok-taken.taken) (sym c.tidy.ensures.size) can) in
    has_finished size superblock before mid c.args.geometry.now c.args.findings.now c.args.plan.now.orphans.numbers.items c.args.plan.now.orphans.dirs.items may pruned tidy.fitted after
    (subst (λ n. HasClosed n superblock mid after) c.tidy.ensures.size closed)) (on_done _ c.close.result c.of_device.result c.of_device.ensures.done (c.close.ensures.closed visible))

pub returns-clause-settled : goal.returns-clause-settled
returns-clause-settled g c visible = on_done _ c.close.result c.of_device.result c.of_device.ensures.done (c.close.ensures.settled visible)

pub returns-clause-tree : goal.returns-clause-tree
returns-clause-tree g c visible settled may =
    let size = g.D.Disk.size c.args.disk.now in
    let superblock = c.args.plan.now.superblock in
    let before = reads (g.D.Disk.moments c.args.disk.now) in
    let mid = reads (g.D.Disk.moments c.tidy.new.disk) in
    let tidy = c.in_ok-taken.ensures.tidy visible superblock may.prune may.read in
    let pruned : IsPruned size superblock before mid = tidy.pruned in
    let can = may_close size superblock before mid c.args.geometry.now c.args.findings.now c.args.plan.now.orphans.numbers.items c.args.plan.now.orphans.dirs.items may pruned c.in_ok-taken.taken (c.in_ok-taken.ensures.taken visible may.read) in
    kept_on _ size _ _ _ (c.tidy.ensures.tree visible settled superblock may.prune may.read)
    (subst (λ n. KeepsTree g.D.Disk.keeps n (g.D.Disk.moments c.tidy.new.disk) (g.D.Disk.moments c.close.new.disk)) c.tidy.ensures.size
    (c.close.ensures.tree visible (c.in_ok-taken.ensures.settled visible settled) (subst (λ n. MayClose n superblock mid c.args.geometry.now c.in_ok-taken.taken) (sym c.tidy.ensures.size) can)))
