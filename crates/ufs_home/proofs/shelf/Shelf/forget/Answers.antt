use Rattle.std.proofs.Common.{refl, sym, subst}
use Rattle.ufs_home.specs.Places.{AreNumbered}
use Rattle.ufs_home.proofs.Shelves.{freed, numbered_removed, seen_in}
use Rattle.ufs_home.proofs.shelf.Shelf.forget.Goals as goal

pub invariant_of-self : goal.invariant_of-self
invariant_of-self g c =
    subst AreNumbered (sym (freed c.self.inside.places (seen_in c.self.inside.places) refl c.args.file c.remove-place.new.self c.len-count.ensures.ordered c.remove-place.ensures.entries)) (numbered_removed (seen_in c.self.inside.places) c.args.file c.self.invariant)

pub returns : goal.returns
returns g c = freed c.self.inside.places c.args.self.now c.self.view_is c.args.file c.remove-place.new.self c.len-count.ensures.ordered c.remove-place.ensures.entries
