use Rattle.std.proofs.Common.{◌≡◌, ◌+◌, subst, arith}
use Rattle.ufs_disk.specs.Disk.{IsPartlyWritten, overwritten}
use Rattle.ufs_disk.specs.Moments.{LeavesOnly, reads}
use Rattle.ufs_journal.specs.Found.{journal_sector}
use Rattle.ufs_journal.proofs.AppendRun.{off_journal}
use Rattle.ufs_journal.proofs.writes.put_group.Goals as goal

pub returns-clause-ok : goal.returns-clause-ok
returns-clause-ok g c visible =
    let at : c.journal_start.result + c.args.place ≡ journal_sector c.args.geometry.now c.args.place = omega (arith, c.journal_start.ensures) in
    subst (λ n. Rattle.std.specs.Prelude.OnOk c.write.result (reads (g.D.Disk.moments c.write.new.self) ≡ overwritten n c.args.bytes.now (reads (g.D.Disk.moments c.args.disk.now)))) at (c.write.ensures.ok visible)

pub returns-clause-elsewhere : goal.returns-clause-elsewhere
returns-clause-elsewhere g c visible =
    let at : c.journal_start.result + c.args.place ≡ journal_sector c.args.geometry.now c.args.place = omega (arith, c.journal_start.ensures) in
    off_journal c.args.geometry.now _ c.args.place c.args.count c.args.bytes.now _ _ at c.requires.inside c.requires.sized (c.write.ensures.content visible)

pub returns-clause-crash : goal.returns-clause-crash
returns-clause-crash g c visible =
    let at : c.journal_start.result + c.args.place ≡ journal_sector c.args.geometry.now c.args.place = omega (arith, c.journal_start.ensures) in
    subst (λ n. LeavesOnly g.D.Disk.keeps (IsPartlyWritten n c.args.bytes.now (g.D.Disk.moments c.args.disk.now).state) (g.D.Disk.moments c.args.disk.now) (g.D.Disk.moments c.write.new.self)) at (c.write.ensures.crash visible)
