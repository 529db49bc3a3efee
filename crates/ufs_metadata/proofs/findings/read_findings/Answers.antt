use Rattle.ufs_metadata.proofs.Quiet.{read_more}
use Rattle.ufs_metadata.proofs.findings.read_findings.Goals as goal

pub returns-in_err-dirs-clause-read_only : goal.returns-in_err-dirs-clause-read_only
returns-in_err-dirs-clause-read_only g c visible =
    read_more g.D.Disk.keeps (g.D.Disk.moments c.args.disk.now) (g.D.Disk.moments c.read_forms.new.disk) (g.D.Disk.moments c.read_dirs.new.disk) (c.read_forms.ensures.read_only visible) (c.read_dirs.ensures.read_only visible)

pub returns-clause-read_only : goal.returns-clause-read_only
returns-clause-read_only g c visible =
    read_more g.D.Disk.keeps (g.D.Disk.moments c.args.disk.now) (g.D.Disk.moments c.read_forms.new.disk) (g.D.Disk.moments c.read_dirs.new.disk) (c.read_forms.ensures.read_only visible) (c.read_dirs.ensures.read_only visible)
