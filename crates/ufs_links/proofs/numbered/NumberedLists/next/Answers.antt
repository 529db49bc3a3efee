use Rattle.std.proofs.Common.{◌∙◌, ap, sym, List, ℕ}
use Rattle.ufs_links.specs.Nodes.{next_in}
use Rattle.ufs_links.proofs.NumberedLemmas.{slot_with}
use Rattle.ufs_links.proofs.numbered.NumberedLists.next.Goals as goal

pub next-requires : goal.next-requires
next-requires c = let f = slot_with c.self.inside c.args.self.now c.self.view_is c.self.invariant c.requires.0 c.args.node c.requires.1 in (f.0, f.1)

pub returns : goal.returns
returns c = λ list h.
    let f = slot_with c.self.inside c.args.self.now c.self.view_is c.self.invariant list c.args.node h in
    c.next.ensures f.0 f.1 ∙ ap (λ (xs : List ℕ). next_in xs c.args.node) (sym f.2)
