use Rattle.std.proofs.Common.{arith}
use Rattle.std.specs.Option.{option_map}
use Rattle.ufs_damage.specs.Meaning.{meaning}
use Rattle.ufs_damage.specs.Kinds.{slot_damage}
use Rattle.ufs_damage.proofs.Lists.{told_numbered}
use Rattle.ufs_damage.proofs.slots.push_slots_of.Goals as goal

pub loop-place-preserved : goal.loop-place-preserved
loop-place-preserved c =
    told_numbered (slot_damage c.args.kind c.args.forms.now c.args.dir) 0 c.loop-place.place c.args.slots.now c.loop-place.place c.index-slots-place.result c.args.list.now c.loop-place.list c.push_some.new.self (option_map meaning c.slot_damage.result)
    c.loop-place-test.true c.index-slots-place.is (omega arith) c.loop-place.invariant c.slot_damage.ensures c.in_ok-push_some.ensures
