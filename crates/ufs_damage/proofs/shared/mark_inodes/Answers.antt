use Rattle.std.proofs.Common.{◌+◌, arith}
use Rattle.ufs_damage.proofs.Marked.{inodes_more}
use Rattle.ufs_damage.proofs.shared.mark_inodes.Goals as goal

pub loop-k-preserved : goal.loop-k-preserved
loop-k-preserved c are =
    inodes_more c.loop-k.marks c.mark_inode.new.marks c.args.geometry.now c.args.forms.now c.loop-k.k (c.loop-k.k + 1) c.index-forms-k.result c.loop-k-test.true c.index-forms-k.is (omega arith) (c.loop-k.invariant are) c.mark_inode.ensures
