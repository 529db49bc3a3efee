use Rattle.ufs_metadata.proofs.Quiet.{read_more}
use Rattle.ufs_check.proofs.checking.check_volume.Goals as goal

pub returns-in_err-compare_bits-clause-read_only : goal.returns-in_err-compare_bits-clause-read_only
returns-in_err-compare_bits-clause-read_only g c visible =
    read_more g.D.Disk.keeps (g.D.Disk.moments c.args.disk.now) (g.D.Disk.moments c.told_of.new.disk) (g.D.Disk.moments c.compare_bits.new.disk) (c.told_of.ensures.read_only visible) (c.compare_bits.ensures.read_only visible)

pub returns-clause-read_only : goal.returns-clause-read_only
returns-clause-read_only g c visible =
    read_more g.D.Disk.keeps (g.D.Disk.moments c.args.disk.now) (g.D.Disk.moments c.told_of.new.disk) (g.D.Disk.moments c.compare_bits.new.disk) (c.told_of.ensures.read_only visible) (c.compare_bits.ensures.read_only visible)
