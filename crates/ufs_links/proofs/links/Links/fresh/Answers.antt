use Rattle.std.proofs.Common.{◌∙◌, List, ap, sym, ℕ}
use Rattle.std.specs.FinSet as set
use Rattle.ufs_links.specs.Linked.{Linked}
use Rattle.ufs_links.specs.Kept.{given_of}
use Rattle.ufs_links.proofs.KeptLemmas.{kept_popped, popped_tells, given_again, given_next, not_given_released, not_given_past}
use Rattle.ufs_links.proofs.links.Links.fresh.Goals as goal

pub invariant_of-self : goal.invariant_of-self
invariant_of-self c = kept_popped c.self.inside c.pop.new.self c.in-Some.node c.self.invariant c.in-Some.ensures.items c.in-Some.ensures.capacity

pub returns-in-Some-clause-was_spare : goal.returns-in-Some-clause-was_spare
returns-in-Some-clause-was_spare c =
    ap (λ (v : Linked). set.contains v.given c.in-Some.node) (sym c.self.view_is) ∙ ap (λ (l : List ℕ). set.contains (given_of c.self.inside.used l) c.in-Some.node) c.in-Some.ensures.items
    ∙ not_given_released c.self.inside.used c.pop.new.self.items c.in-Some.node

pub returns-in-Some-clause-given : goal.returns-in-Some-clause-given
returns-in-Some-clause-given c =
    let t = popped_tells c.self.inside c.pop.new.self.items c.in-Some.node c.self.invariant c.in-Some.ensures.items in
    given_again c.self.inside.used c.pop.new.self.items c.in-Some.node t.0 t.1
    ∙ ap (λ (l : List ℕ). set.insert (given_of c.self.inside.used l) c.in-Some.node) (sym c.in-Some.ensures.items) ∙ ap (λ (v : Linked). set.insert v.given c.in-Some.node) c.self.view_is

pub returns-in-None-clause-was_spare : goal.returns-in-None-clause-was_spare
returns-in-None-clause-was_spare c =
    ap (λ (v : Linked). set.contains v.given c.self.inside.used) (sym c.self.view_is) ∙ not_given_past c.self.inside.used c.self.inside.released.items

pub returns-in-None-clause-given : goal.returns-in-None-clause-given
returns-in-None-clause-given c =
    given_next c.self.inside.used c.self.inside.released c.pop.new.self c.in-None.ensures.cases.0 c.in-None.ensures.cases.1 ∙ ap (λ (v : Linked). set.insert v.given c.self.inside.used) c.self.view_is
