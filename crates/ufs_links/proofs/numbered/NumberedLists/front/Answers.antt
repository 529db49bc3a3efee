use Rattle.std.proofs.Common.{◌∙◌, ap, sym, List, ℕ, slice_get}
use Rattle.ufs_links.proofs.StandLemmas.{list_below}
use Rattle.ufs_links.specs.Numbered.{table_of}
use Rattle.ufs_links.proofs.TableLemmas.{slot_tells}
use Rattle.ufs_links.proofs.NumberedLemmas.{listed_below, seen_some, seen_none}
use Rattle.ufs_links.proofs.numbered.NumberedLists.front.Goals as goal

pub slot_of-requires : goal.slot_of-requires
slot_of-requires c = listed_below c.self.inside c.args.self.now c.self.view_is c.self.invariant

pub front-requires : goal.front-requires
front-requires c =
    let f = slot_tells (table_of c.self.inside) c.self.invariant.table c.args.list c.in-Some.slot (sym c.slot_of.ensures ∙ c.in-Some.is) in
    list_below c.self.inside.slots.lists c.in-Some.slot f.1.0 f.1.1

pub returns-in-Some : goal.returns-in-Some
returns-in-Some c =
    c.front.ensures.front ∙ ap (λ (xs : List ℕ). slice_get xs 0)
    (sym (seen_some c.self.inside c.args.self.now c.self.view_is c.self.invariant c.args.list c.in-Some.slot c.ranges.list.fits (sym c.slot_of.ensures ∙ c.in-Some.is)))

pub returns-in-None : goal.returns-in-None
returns-in-None c =
    ap (λ (xs : List ℕ). slice_get xs 0) (sym (seen_none c.self.inside c.args.self.now c.self.view_is c.self.invariant c.args.list c.ranges.list.fits (sym c.slot_of.ensures ∙ c.in-None.is)))
