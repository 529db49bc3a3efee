use Rattle.std.proofs.Common.{◌∙◌, ap}
use Rattle.ufs_links.specs.NodeLists.{NodeLists}
use Rattle.ufs_links.proofs.StandLemmas.{more_places, stands_again, lists_are}
use Rattle.ufs_links.proofs.lists.Lists.reserve_nodes.Goals as goal

pub invariant_of-self : goal.invariant_of-self
invariant_of-self c = stands_again c.add_places.new.self _ (more_places c.self.inside.pointers c.add_places.new.self _ c.self.invariant c.add_places.ensures.places c.add_places.ensures.ends)

pub returns-clause-lists : goal.returns-clause-lists
returns-clause-lists c =
    lists_are c.add_places.new.self _ (more_places c.self.inside.pointers c.add_places.new.self _ c.self.invariant c.add_places.ensures.places c.add_places.ensures.ends) ∙ ap (λ (v : NodeLists). v.lists) c.self.view_is
