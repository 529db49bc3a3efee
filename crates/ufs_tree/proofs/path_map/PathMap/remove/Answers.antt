use Rattle.std.proofs.Common.{ap, sym, ◌-◌, ◌∙◌, cond}
use Rattle.std.specs.FinMap as map
use Rattle.ufs_model.specs.PosixTree.{Paths}
use Rattle.ufs_tree.specs.Counted.{file_count}
use Rattle.ufs_model.proofs.Facts.Orders.{path_total, path_same}
use Rattle.ufs_calls.proofs.Facts.Inserts.{remove_absent}
use Rattle.ufs_tree.proofs.CountedLemmas.{removed_counted}
use Rattle.ufs_tree.proofs.path_map.PathMap.remove.Goals as goal

pub invariant_of-self : goal.invariant_of-self
invariant_of-self c =
    removed_counted c.self.inside.nodes c.self.inside.entries c.self.inside.links c.self.invariant c.remove.new.self c.lower_parent.new.entries c.lower_file.new.counts c.args.path.now c.in-Some.node
    (ap (λ (m : Paths). map.get m c.args.path.now) c.self.view_is ∙ sym c.in-Some.ensures) c.remove.ensures c.lower_parent.ensures
    (λ f. c.lower_file.ensures f ∙ ap (λ b. file_count c.self.inside.links f - cond b 1 0) (c.number_of.ensures f))

pub returns-in_default : goal.returns-in_default
returns-in_default c = sym (remove_absent path_total path_same c.args.self.now c.args.path.now (sym c.get.ensures ∙ c.in_default.is))
