use Rattle.std.proofs.Common.{◌≡◌, ◌∙◌, true, true≢false, ap, sym, subst, ℕ, List}
use Rattle.ufs_links.specs.Nodes.{has, nodes_in}
use Rattle.ufs_links.proofs.NodeLemmas.{lacks_from}
use Rattle.ufs_links.proofs.NumberedLemmas.{slot_with, seen_slot, number_read}
use Rattle.ufs_links.proofs.numbered.NumberedLists.list_of.Goals as goal

pub returns-in-Some-clause-on : goal.returns-in-Some-clause-on
returns-in-Some-clause-on c =
    let l = c.self.inside in
    let v = c.args.self.now in
    let on : has (nodes_in l.slots.lists c.in-Some.slot) c.args.node ≡ true = c.in-Some.ensures.on in
    let at = number_read l v c.self.view_is c.self.invariant c.in-Some.slot c.args.node c.index.result.now on c.index.ensures in
    subst (λ (xs : List ℕ). has xs c.args.node ≡ true) (sym (ap (nodes_in v.lists) at ∙ seen_slot l v c.self.view_is c.self.invariant c.in-Some.slot c.args.node on)) on

pub returns-in-None-clause-off : goal.returns-in-None-clause-off
returns-in-None-clause-off c = λ list. lacks_from c.args.node (nodes_in c.args.self.now.lists list) (λ h.
    let f = slot_with c.self.inside c.args.self.now c.self.view_is c.self.invariant list c.args.node h in
    true≢false (sym f.1 ∙ c.in-None.ensures.off f.0))
