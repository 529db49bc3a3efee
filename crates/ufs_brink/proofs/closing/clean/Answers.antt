use Rattle.std.proofs.Common.{ℕ, subst, ◌∙◌, ap, sym}
use Rattle.ufs_recovery.specs.Home.{KeepsTree}
use Rattle.ufs_recovery.specs.Recovered.{IsCleanDisk, IsProperDisk, IsRecovered}
use Rattle.ufs_store.specs.Refusals.{IsTold}
use Rattle.ufs_brink.specs.Closes.{device_told_by}
use Rattle.ufs_base.specs.Images.{Image}
use Rattle.ufs_disk.specs.Moments.{reads}
use Rattle.ufs_image.specs.Volume.{superblock_of}
use Rattle.ufs_brink.proofs.Cleaned.{as_it_was, cleaned, proper_behind}
use Rattle.ufs_brink.proofs.closing.clean.Goals as goal

pub returns-in-Err-clause-tree : goal.returns-in-Err-clause-tree
returns-in-Err-clause-tree g c visible proper =
    as_it_was g.D.Disk.keeps (g.D.Disk.size c.args.disk.now) (g.D.Disk.moments c.args.disk.now) (g.D.Disk.moments c.barrier.new.self) (c.barrier.ensures.crash visible)

pub returns-in-Ok-clause-tree : goal.returns-in-Ok-clause-tree
returns-in-Ok-clause-tree g c visible =
    let mid = g.D.Disk.moments c.barrier.new.self in
    let new = g.D.Disk.moments c.recover.new.disk in
    cleaned g.D.Disk.keeps (g.D.Disk.size c.args.disk.now) (g.D.Disk.moments c.args.disk.now) mid new (c.barrier.ensures.crash visible) (c.barrier.ensures.content visible) (c.in_default.ensures.ok visible)
    (subst (λ (sectors : ℕ). IsProperDisk sectors mid.state → KeepsTree g.D.Disk.keeps sectors mid new) c.barrier.ensures.size (c.recover.ensures.tree visible))

pub returns-in-Err-recover-clause-tree : goal.returns-in-Err-recover-clause-tree
returns-in-Err-recover-clause-tree g c visible =
    let mid = g.D.Disk.moments c.barrier.new.self in
    let new = g.D.Disk.moments c.recover.new.disk in
    cleaned g.D.Disk.keeps (g.D.Disk.size c.args.disk.now) (g.D.Disk.moments c.args.disk.now) mid new (c.barrier.ensures.crash visible) (c.barrier.ensures.content visible) (c.in_default.ensures.ok visible)
    (subst (λ (sectors : ℕ). IsProperDisk sectors mid.state → KeepsTree g.D.Disk.keeps sectors mid new) c.barrier.ensures.size (c.recover.ensures.tree visible))

pub returns-in-Ok-clause-clean : goal.returns-in-Ok-clause-clean
returns-in-Ok-clause-clean g c visible proper =
    let mid = g.D.Disk.moments c.barrier.new.self in
    let new = g.D.Disk.moments c.recover.new.disk in
    subst (λ (sectors : ℕ). IsProperDisk sectors mid.state → IsCleanDisk sectors new.state) c.barrier.ensures.size (c.in-Ok.ensures.clean visible)
    (proper_behind (g.D.Disk.size c.args.disk.now) (g.D.Disk.moments c.args.disk.now).state mid.state (c.barrier.ensures.content visible) (c.in_default.ensures.ok visible) proper)

pub returns-in-Err-recover-clause-cause : goal.returns-in-Err-recover-clause-cause
returns-in-Err-recover-clause-cause g c =
    let now = g.D.Disk.faults c.recover.new.disk in
    subst (λ (before : ℕ). IsTold before now (device_told_by c.unclean.result)) c.in_default.ensures.cause.passed
    (c.unclean.ensures.cause (g.D.Disk.faults c.barrier.new.self) now c.in-Err-recover.ensures.cause)

pub returns-in-Ok-clause-recovered : goal.returns-in-Ok-clause-recovered
returns-in-Ok-clause-recovered g c visible proper used =
    let mid = g.D.Disk.moments c.barrier.new.self in
    let new = g.D.Disk.moments c.recover.new.disk in
    let same = c.barrier.ensures.content visible in
    subst (λ (d : Image). IsRecovered d (reads new)) same
    (c.in-Ok.ensures.recovered visible
    (subst (λ (sectors : ℕ). IsProperDisk sectors mid.state) (sym c.barrier.ensures.size) (proper_behind (g.D.Disk.size c.args.disk.now) (g.D.Disk.moments c.args.disk.now).state mid.state same (c.in_default.ensures.ok visible) proper))
    (ap (λ (d : Image). (superblock_of d).clean) same ∙ used))

pub returns-in-Err-recover-clause-sound : goal.returns-in-Err-recover-clause-sound
returns-in-Err-recover-clause-sound g c visible proper =
    let mid = g.D.Disk.moments c.barrier.new.self in
    let behind : IsProperDisk (g.D.Disk.size c.barrier.new.self) mid.state =
    subst (λ (sectors : ℕ). IsProperDisk sectors mid.state) (sym c.barrier.ensures.size)
    (proper_behind (g.D.Disk.size c.args.disk.now) (g.D.Disk.moments c.args.disk.now).state mid.state (c.barrier.ensures.content visible) (c.in_default.ensures.ok visible) proper) in
    c.unclean.ensures.sound (c.in-Err-recover.ensures.outside visible behind.proper)
