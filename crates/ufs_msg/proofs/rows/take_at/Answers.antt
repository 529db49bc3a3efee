use Rattle.ufs_msg.proofs.Places.{at_place, take_there}
use Rattle.ufs_msg.proofs.rows.take_at.Goals as goal

pub returns : goal.returns
returns g c =
    take_there g.G.Ring.loses g.G.Ring.was_empty c.args.rings.now.items c.args.place c.index_mut.result.now c.take.new.self c.take.result
    (at_place c.args.rings.now.items c.args.place c.index_mut.result.now c.requires c.index_mut.ensures.value) c.take.ensures
