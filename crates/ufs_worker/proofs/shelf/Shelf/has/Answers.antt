use Rattle.std.proofs.Common.{ap, is_some, sym, ◌∙◌}
use Rattle.ufs_worker.proofs.Places.{flat, told}
use Rattle.ufs_worker.proofs.shelf.Shelf.has.Goals as goal

pub returns-in-Some : goal.returns-in-Some
returns-in-Some g c = c.is_some.ensures ∙ ap is_some (sym (told c.args.self.now c.self.inside.leaving.items c.self.inside.places c.self.view_is c.args.file ∙ ap flat (sym c.in-Some.ensures.value)))

pub returns-in-None : goal.returns-in-None
returns-in-None g c = ap is_some (sym (told c.args.self.now c.self.inside.leaving.items c.self.inside.places c.self.view_is c.args.file ∙ ap flat (sym c.in-None.ensures.value)))
