use Rattle.ufs_msg.proofs.Places.{at_place, put_there}
use Rattle.ufs_msg.proofs.rows.put_at.Goals as goal

pub returns : goal.returns
returns g c =
    put_there g.G.Ring.gains g.G.Ring.was_full c.args.rings.now.items c.args.place c.args.item c.index_mut.result.now c.put.new.self c.put.result
    (at_place c.args.rings.now.items c.args.place c.index_mut.result.now c.requires c.index_mut.ensures.value) c.put.ensures
