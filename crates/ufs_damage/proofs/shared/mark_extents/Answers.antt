use Rattle.ufs_damage.proofs.Marked.{extents_more}
use Rattle.ufs_damage.proofs.shared.mark_extents.Goals as goal

pub loop-extent-preserved : goal.loop-extent-preserved
loop-extent-preserved c holders are =
    extents_more c.loop-extent.marks c.mark_run.new.marks holders c.args.inode c.args.extents.now c.loop-extent.extent-index _ c.loop-extent-test.true (c.loop-extent.invariant holders are) c.mark_run.ensures
