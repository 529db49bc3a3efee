use Rattle.std.proofs.Common.{sym, subst}
use Rattle.std.proofs.lemmas.Result.{IfErr-weaker, err_from_is_err_and, on_ok_weaker}
use Rattle.ufs_disk.specs.Moments.{reads}
use Rattle.ufs_disk.proofs.Runs.{started}
use Rattle.ufs_metadata.specs.Faults.{LacksMemory}
use Rattle.ufs_volume.specs.Volumes.{volume_in, folded_image}
use Rattle.ufs_recovery.specs.Finished.{HasFinished, MayFinish}
use Rattle.ufs_recovery.specs.Home.{HasBegun, KeepsTree}
use Rattle.ufs_recovery.specs.Orphans.{LacksForPlan}
use Rattle.ufs_recovery.proofs.Done.{was_done}
use Rattle.ufs_recovery.proofs.Finished.{is_written, may_finish, may_follow, over}
use Rattle.ufs_recovery.proofs.PlanLacks.{memory_for_plan, not_at_end, of_numbers}
use Rattle.ufs_recovery.proofs.SuperblockPut.{kept_on, still_opens}
use Rattle.ufs_metadata.specs.Reading.{IsReadOnly}
use Rattle.ufs_metadata.proofs.Quiet.{read_none}
use Rattle.ufs_recovery.specs.Recovered.{IsAtEnd}
use Rattle.ufs_recovery.proofs.finishing.write_back.Goals as goal

pub returns-in_err-plan-clause-outside : goal.returns-in_err-plan-clause-outside
returns-in_err-plan-clause-outside g c =
    let p = err_from_is_err_and c.from_residual.result c.from_residual.ensures.1 in
    rw (p.1, p.2) (of_numbers c.args.volume.now.superblock.superblock c.args.findings.now.forms c.args.volume.now.highest _ c.in_err-plan.ensures.lack)

pub returns-in_err-plan-clause-tree : goal.returns-in_err-plan-clause-tree
returns-in_err-plan-clause-tree g c visible settled may = started _ _ _ (still_opens (g.D.Disk.size c.args.disk.now) (g.D.Disk.moments c.args.disk.now).state settled)

pub returns-clause-written : goal.returns-clause-written
returns-clause-written g c visible =
    let size = g.D.Disk.size c.args.disk.now in
    let image = reads (g.D.Disk.moments c.args.disk.now) in
    let mid = reads (g.D.Disk.moments c.begin.new.disk) in
    let after = reads (g.D.Disk.moments c.finish.new.disk) in
    let v = c.args.volume.now in
    let f = c.args.findings.now in
    let plan = c.in_ok-plan.plan in
    on_ok_weaker c.finish.result (λ fin settled may.
    let is = over size image v f may v.same in
    let follow = may_follow size image v f may plan.superblock c.in_ok-plan.ensures.geometry c.in_ok-plan.ensures.epoch c.in_ok-plan.ensures.in_use in
    let begun : HasBegun size (volume_in v image) plan.superblock mid = was_done _ c.in_ok-of_device.ensures.done (c.begin.ensures.begun visible) (volume_in v image) settled is follow in
    let can = may_finish size image v f may plan.superblock c.in_ok-plan.ensures.geometry c.in_ok-plan.ensures.epoch c.in_ok-plan.ensures.in_use mid begun plan.orphans.numbers.items plan.orphans.dirs.items
    (c.in_ok-plan.ensures.orphans (folded_image v image) may.found may.whole) (c.in_ok-plan.ensures.dirs (folded_image v image) may.found may.whole) (c.in_ok-plan.ensures.inodes (folded_image v image) may.found) in
    let finished : HasFinished size plan.superblock mid after = subst (λ n. HasFinished n plan.superblock mid after) c.begin.ensures.size
    (fin (was_done _ c.in_ok-of_device.ensures.done (c.begin.ensures.settled visible)) (subst (λ n. MayFinish n plan.superblock mid v.superblock.geometry f plan.orphans.numbers.items plan.orphans.dirs.items) (sym c.begin.ensures.size) can)) in
    is_written size image v f may plan.superblock c.in_ok-plan.ensures.geometry c.in_ok-plan.ensures.epoch c.in_ok-plan.ensures.in_use mid after v.highest begun finished c.in_ok-plan.ensures.version c.in_ok-plan.ensures.known c.in_ok-plan.ensures.above
    (c.in_ok-plan.ensures.least (folded_image v image) may.found) v.superblock.same)
    (c.finish.ensures.finished visible)

pub returns-clause-tree : goal.returns-clause-tree
returns-clause-tree g c visible settled may =
    let size = g.D.Disk.size c.args.disk.now in
    let image = reads (g.D.Disk.moments c.args.disk.now) in
    let mid = reads (g.D.Disk.moments c.begin.new.disk) in
    let v = c.args.volume.now in
    let f = c.args.findings.now in
    let plan = c.in_ok-plan.plan in
    let is = over size image v f may v.same in
    let follow = may_follow size image v f may plan.superblock c.in_ok-plan.ensures.geometry c.in_ok-plan.ensures.epoch c.in_ok-plan.ensures.in_use in
    let begun : HasBegun size (volume_in v image) plan.superblock mid = was_done _ c.in_ok-of_device.ensures.done (c.begin.ensures.begun visible) (volume_in v image) settled is follow in
    let can = may_finish size image v f may plan.superblock c.in_ok-plan.ensures.geometry c.in_ok-plan.ensures.epoch c.in_ok-plan.ensures.in_use mid begun plan.orphans.numbers.items plan.orphans.dirs.items
    (c.in_ok-plan.ensures.orphans (folded_image v image) may.found may.whole) (c.in_ok-plan.ensures.dirs (folded_image v image) may.found may.whole) (c.in_ok-plan.ensures.inodes (folded_image v image) may.found) in
    kept_on _ size _ _ _ (c.begin.ensures.tree visible (volume_in v image) settled is follow)
    (subst (λ n. KeepsTree g.D.Disk.keeps n (g.D.Disk.moments c.begin.new.disk) (g.D.Disk.moments c.finish.new.disk)) c.begin.ensures.size
    (c.finish.ensures.tree visible (was_done _ c.in_ok-of_device.ensures.done (c.begin.ensures.settled visible)) (subst (λ n. MayFinish n plan.superblock mid v.superblock.geometry f plan.orphans.numbers.items plan.orphans.dirs.items) (sym c.begin.ensures.size) can)))

pub returns-in_err-of_device-clause-tree : goal.returns-in_err-of_device-clause-tree
returns-in_err-of_device-clause-tree g c visible settled may =
    let size = g.D.Disk.size c.args.disk.now in
    let image = reads (g.D.Disk.moments c.args.disk.now) in
    let v = c.args.volume.now in
    let f = c.args.findings.now in
    c.begin.ensures.tree visible (volume_in v image) settled (over size image v f may v.same) (may_follow size image v f may c.in_ok-plan.plan.superblock c.in_ok-plan.ensures.geometry c.in_ok-plan.ensures.epoch c.in_ok-plan.ensures.in_use)

pub returns-in_err-plan-clause-lack : goal.returns-in_err-plan-clause-lack
returns-in_err-plan-clause-lack g c =
    let p = err_from_is_err_and c.from_residual.result c.from_residual.ensures.1 in
    rw (p.1, p.2) c.in_err-plan.ensures.lack

pub returns-in_err-of_device-clause-lack : goal.returns-in_err-of_device-clause-lack
returns-in_err-of_device-clause-lack g c =
    let p = err_from_is_err_and c.from_residual-in_err-of_device.result c.from_residual-in_err-of_device.ensures.1 in
    rw (p.1, p.2) (memory_for_plan c.args.volume.now.superblock.superblock c.args.findings.now.forms c.args.volume.now.highest _ c.in_err-of_device.ensures.memory)

pub returns-clause-lack : goal.returns-clause-lack
returns-clause-lack g c =
    let lacks = LacksForPlan c.args.volume.now.superblock.superblock c.args.findings.now.forms c.args.volume.now.highest in
    IfErr-weaker c.finish.result LacksMemory lacks (memory_for_plan c.args.volume.now.superblock.superblock c.args.findings.now.forms c.args.volume.now.highest) c.finish.ensures.memory

pub returns-in_err-plan-clause-early : goal.returns-in_err-plan-clause-early
returns-in_err-plan-clause-early g c visible =
    let p = err_from_is_err_and c.from_residual.result c.from_residual.ensures.1 in
    rw (p.1) (λ at. read_none g.D.Disk.keeps (g.D.Disk.moments c.args.disk.now))

pub returns-in_err-of_device-clause-early : goal.returns-in_err-of_device-clause-early
returns-in_err-of_device-clause-early g c visible =
    let p = err_from_is_err_and c.from_residual-in_err-of_device.result c.from_residual-in_err-of_device.ensures.1 in
    rw (p.1, p.2) (not_at_end _ c.in_err-of_device.ensures.memory)

pub returns-clause-early : goal.returns-clause-early
returns-clause-early g c visible =
    IfErr-weaker c.finish.result LacksMemory (λ f. IsAtEnd f → IsReadOnly g.D.Disk.keeps (g.D.Disk.moments c.args.disk.now) (g.D.Disk.moments c.finish.new.disk)) (λ f is. not_at_end f is) c.finish.ensures.memory
