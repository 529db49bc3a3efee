use Rattle.ufs_links.proofs.PointerLemmas.{joined}
use Rattle.ufs_links.proofs.pointers.Pointers.join.Goals as goal

pub returns : goal.returns
returns c = joined c.args.self.now c.set_place.new.self c.set_after.new.self c.set_before.new.self _ _ _ _ c.set_place.ensures c.set_after.ensures c.set_before.ensures
