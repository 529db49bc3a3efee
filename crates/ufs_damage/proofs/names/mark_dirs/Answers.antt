use Rattle.ufs_damage.proofs.Marked.{dirs_more}
use Rattle.ufs_damage.proofs.names.mark_dirs.Goals as goal

pub loop-dir-preserved : goal.loop-dir-preserved
loop-dir-preserved c are =
    dirs_more c.loop-dir.marks c.mark_dir.new.marks c.args.dirs.now c.loop-dir.dir-index c.dir-item.result c.loop-dir-test.true c.dir-item.is (c.loop-dir.invariant are) c.mark_dir.ensures
