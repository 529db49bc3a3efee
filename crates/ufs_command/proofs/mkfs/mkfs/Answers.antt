use Rattle.std.proofs.Common.{◌≡◌, ℕ, subst}
use Rattle.ufs_disk.specs.Moments.{LeavesOnly, reads}
use Rattle.ufs_layout.specs.declared.geometry.Geometry.{Geometry}
use Rattle.ufs_recover.specs.Stopped.{IsNewDisk, IsStopped}
use Rattle.ufs_recover.specs.Tables.{IsOutside}
use Rattle.ufs_command.proofs.mkfs.mkfs.Goals as goal

pub returns-in-Ok-clause-formatted : goal.returns-in-Ok-clause-formatted
returns-in-Ok-clause-formatted g c visible zero =
    subst (λ (x : Geometry). IsNewDisk x (g.D.Disk.size c.args.disk.now) (g.D.Disk.moments c.format_disk.new.disk).state) c.in-Ok.ensures.made (c.format_disk.ensures.formatted visible zero)

pub returns-in-Ok-clause-crash : goal.returns-in-Ok-clause-crash
returns-in-Ok-clause-crash g c visible =
    let old = g.D.Disk.moments c.args.disk.now in
    subst (λ (x : Geometry). LeavesOnly g.D.Disk.keeps (IsStopped x (g.D.Disk.size c.args.disk.now) old.state) old (g.D.Disk.moments c.format_disk.new.disk)) c.in-Ok.ensures.made (c.format_disk.ensures.crash visible)

pub returns-in-Ok-clause-others : goal.returns-in-Ok-clause-others
returns-in-Ok-clause-others g c visible =
    subst (λ (x : Geometry). (s : ℕ) → IsOutside x s → reads (g.D.Disk.moments c.format_disk.new.disk) s ≡ reads (g.D.Disk.moments c.args.disk.now) s) c.in-Ok.ensures.made (c.format_disk.ensures.others visible)
