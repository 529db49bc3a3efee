use Rattle.ufs_damage.proofs.Marked.{slots_more}
use Rattle.ufs_damage.proofs.names.mark_names_of.Goals as goal

pub loop-slot-preserved : goal.loop-slot-preserved
loop-slot-preserved c held are =
    slots_more c.loop-slot.marks c.mark_name.new.marks held c.args.dir c.args.slots.now c.loop-slot.slot-index c.slot-item.result c.loop-slot-test.true c.slot-item.is (c.loop-slot.invariant held are) c.mark_name.ensures
