use Rattle.ufs_links.proofs.PointerLemmas.{parted}
use Rattle.ufs_links.proofs.pointers.Pointers.part.Goals as goal

pub returns : goal.returns
returns c = parted c.args.self.now c.set_after.new.self c.set_before.new.self c.set_place.new.self _ c.args.place c.set_after.ensures c.set_before.ensures c.set_place.ensures
