use Rattle.std.proofs.Common.{◌+◌, refl}
use Rattle.std.specs.List.{range_with_len}
use Rattle.ufs_damage.specs.Marks.{all_more}
use Rattle.ufs_damage.proofs.Marked.{run_more}
use Rattle.ufs_damage.proofs.marks.mark_run.Goals as goal

pub loop-k-preserved : goal.loop-k-preserved
loop-k-preserved c holders are =
    run_more c.loop-k.marks c.mark.new.marks holders c.args.holder c.args.start c.loop-k.k (c.args.start + c.loop-k.k) refl (c.loop-k.invariant holders are)
    (c.mark.ensures (all_more holders c.args.holder (range_with_len c.args.start c.loop-k.k)))
