use Rattle.std.proofs.Common.{ap, is_some, sym, ◌∙◌}
use Rattle.ufs_home.specs.Places.{in_place}
use Rattle.ufs_home.proofs.Shelves.{told}
use Rattle.ufs_home.proofs.shelf.Shelf.has.Goals as goal

pub returns-in-Some : goal.returns-in-Some
returns-in-Some g c = c.is_some.ensures ∙ ap is_some (sym (ap in_place (told c.self.inside.places c.args.self.now c.self.view_is c.args.file ∙ sym c.in-Some.ensures.value)))

pub returns-in-None : goal.returns-in-None
returns-in-None g c = ap is_some (sym (ap in_place (told c.self.inside.places c.args.self.now c.self.view_is c.args.file ∙ sym c.in-None.ensures.value)))
