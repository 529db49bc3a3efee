use Rattle.std.proofs.Common.{ℕ, Some, ap, refl, sym, subst, ◌∙◌}
use Rattle.std.specs.FinMap as fin
use Rattle.ufs_home.specs.Places.{AreNumbered}
use Rattle.ufs_home.proofs.Shelves.{numbered_filled, seen_in, told, written}
use Rattle.ufs_home.proofs.shelf.Shelf.fill.Goals as goal

pub unreachable-requires : goal.unreachable-requires
unreachable-requires g c =
    let at = sym c.requires ∙ ap (fin.get c.args.self.now) (sym c.number-number.ensures) ∙ told c.self.inside.places c.args.self.now c.self.view_is c.number-number.result ∙ c.in-Err.ensures.absent in
    cc

pub invariant_of-self : goal.invariant_of-self
invariant_of-self g c =
    subst AreNumbered (sym (written c.self.inside.places (seen_in c.self.inside.places) refl c.number-number.result c.insert.new.self (Some c.args.file) c.in-Ok.ensures.entries))
    (numbered_filled (seen_in c.self.inside.places) c.number-number.result c.args.file c.self.invariant (sym c.number-number.ensures))

pub returns : goal.returns
returns g c =
    written c.self.inside.places c.args.self.now c.self.view_is c.number-number.result c.insert.new.self (Some c.args.file) c.in-Ok.ensures.entries
    ∙ ap (λ (n : ℕ). fin.insert c.args.self.now n (Some c.args.file)) c.number-number.ensures
