use Rattle.std.proofs.Common.{ap, sym, ◌∙◌}
use Rattle.ufs_worker.specs.Worker.{filled}
use Rattle.ufs_worker.proofs.Places.{flat, get-filled, remove-filled}
use Rattle.ufs_worker.proofs.room.take_place.Goals as goal

pub returns-in-Some-clause-taken : goal.returns-in-Some-clause-taken
returns-in-Some-clause-taken g c = ap flat c.in-Some.ensures.value ∙ sym (get-filled c.args.places.now.entries c.args.file)

pub returns-in-Some-clause-gone : goal.returns-in-Some-clause-gone
returns-in-Some-clause-gone g c = ap filled c.remove.ensures.entries ∙ remove-filled c.args.places.now.entries c.args.file c.len-count.ensures.ordered

pub returns-in-None-clause-taken : goal.returns-in-None-clause-taken
returns-in-None-clause-taken g c = ap flat c.in-None.ensures.value ∙ sym (get-filled c.args.places.now.entries c.args.file)

pub returns-in-None-clause-gone : goal.returns-in-None-clause-gone
returns-in-None-clause-gone g c = ap filled c.remove.ensures.entries ∙ remove-filled c.args.places.now.entries c.args.file c.len-count.ensures.ordered
