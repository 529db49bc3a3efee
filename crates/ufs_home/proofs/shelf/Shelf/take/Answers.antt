use Rattle.std.proofs.Common.{None, ap, is_some, refl, sym, subst, ◌∙◌}
use Rattle.std.specs.FinMap as fin
use Rattle.std.specs.Prelude.{IsSome}
use Rattle.ufs_home.specs.Places.{AreNumbered, in_place}
use Rattle.ufs_home.proofs.Shelves.{numbered_emptied, place_of_here, seen_in, told, written}
use Rattle.ufs_home.proofs.shelf.Shelf.take.Goals as goal

pub empty_place-requires : goal.empty_place-requires
empty_place-requires g c = subst IsSome (told c.self.inside.places c.args.self.now c.self.view_is c.args.file) (place_of_here (fin.get c.args.self.now c.args.file) c.requires)

pub unreachable-requires : goal.unreachable-requires
unreachable-requires g c =
    let e = ap is_some (ap in_place (told c.self.inside.places c.args.self.now c.self.view_is c.args.file ∙ c.in-None.ensures.value)) in
    let h = c.requires in
    cc

pub invariant_of-self : goal.invariant_of-self
invariant_of-self g c =
    subst AreNumbered (sym (written c.self.inside.places (seen_in c.self.inside.places) refl c.args.file c.empty_place.new.places None c.empty_place.ensures.entries)) (numbered_emptied (seen_in c.self.inside.places) c.args.file c.self.invariant)

pub returns-clause-file : goal.returns-clause-file
returns-clause-file g c = ap in_place (told c.self.inside.places c.args.self.now c.self.view_is c.args.file ∙ c.in-Some.ensures.value)

pub returns-clause-empty : goal.returns-clause-empty
returns-clause-empty g c = written c.self.inside.places c.args.self.now c.self.view_is c.args.file c.empty_place.new.places None c.empty_place.ensures.entries

pub returns-clause-number : goal.returns-clause-number
returns-clause-number g c = c.self.invariant c.args.file c.in-Some.at_home (ap in_place (told c.self.inside.places (seen_in c.self.inside.places) refl c.args.file ∙ c.in-Some.ensures.value))
