use Rattle.std.proofs.Common.{None, ap, false, is_some, not, refl, sym, subst, true, ◌∙◌}
use Rattle.ufs_home.specs.Places.{AreNumbered}
use Rattle.ufs_home.proofs.Shelves.{has_place, numbered_emptied, seen_in, told, unchanged, written}
use Rattle.ufs_home.proofs.shelf.Shelf.make_place.Goals as goal

pub returns-then-contains_key-clause-ok : goal.returns-then-contains_key-clause-ok
returns-then-contains_key-clause-ok g c =
    has_place c.args.self.now c.args.file true (ap is_some (told c.self.inside.places c.args.self.now c.self.view_is c.args.file) ∙ sym c.contains_key.ensures ∙ c.if-contains_key.true)

pub returns-then-contains_key-clause-made : goal.returns-then-contains_key-clause-made
returns-then-contains_key-clause-made g c =
    sym (ap not (ap is_some (told c.self.inside.places c.args.self.now c.self.view_is c.args.file) ∙ sym c.contains_key.ensures ∙ c.if-contains_key.true))

pub returns-clause-made : goal.returns-clause-made
returns-clause-made g c =
    sym (ap not (ap is_some (told c.self.inside.places c.args.self.now c.self.view_is c.args.file) ∙ sym c.contains_key.ensures ∙ c.if-contains_key.false))

pub invariant_of-self : goal.invariant_of-self
invariant_of-self g c = subst AreNumbered (sym (unchanged c.self.inside.places c.insert.new.self c.in_err-insert.ensures.err)) c.self.invariant

pub invariant_of-self-2 : goal.invariant_of-self-2
invariant_of-self-2 g c =
    subst AreNumbered (sym (written c.self.inside.places (seen_in c.self.inside.places) refl c.args.file c.insert.new.self None c.in_ok-insert.ensures.entries)) (numbered_emptied (seen_in c.self.inside.places) c.args.file c.self.invariant)

pub returns-clause-ok : goal.returns-clause-ok
returns-clause-ok g c =
    written c.self.inside.places c.args.self.now c.self.view_is c.args.file c.insert.new.self None c.in_ok-insert.ensures.entries
    ∙ has_place c.args.self.now c.args.file false (ap is_some (told c.self.inside.places c.args.self.now c.self.view_is c.args.file) ∙ sym c.contains_key.ensures ∙ c.if-contains_key.false)
