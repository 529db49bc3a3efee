use Rattle.std.proofs.Common.{ap, ◌+◌, ◌∙◌, cond}
use Rattle.std.specs.FinMap as map
use Rattle.ufs_model.specs.PosixTree.{Paths}
use Rattle.ufs_tree.specs.Counted.{file_count}
use Rattle.ufs_tree.proofs.CountedLemmas.{added_counted}
use Rattle.ufs_tree.proofs.path_map.PathMap.add.Goals as goal

pub invariant_of-self-in-Ok : goal.invariant_of-self-in-Ok
invariant_of-self-in-Ok c =
    added_counted c.self.inside.nodes c.self.inside.entries c.self.inside.links c.self.invariant c.place.new.nodes c.place.new.entries c.raise_file.new.counts c.args.path.items c.args.node
    (ap (λ (m : Paths). map.get m c.args.path.items) c.self.view_is ∙ c.requires.absent) c.requires.whole c.in-Ok.ensures.ok c.in-Ok.ensures.counted
    (λ f. c.in_ok-raise_file.ensures.ok f ∙ ap (λ b. file_count c.self.inside.links f + cond b 1 0) (c.number_of-file.ensures f))
