use Rattle.std.proofs.Common.{ap, ◌∙◌}
use Rattle.ufs_model.specs.Directories.{has_entries}
use Rattle.ufs_model.specs.PosixTree.{Paths}
use Rattle.ufs_tree.proofs.CountedLemmas.{entries_by_count}
use Rattle.ufs_tree.proofs.path_map.PathMap.has_entries.Goals as goal

pub returns : goal.returns
returns c =
    entries_by_count c.self.inside.nodes c.self.inside.entries c.self.inside.links c.self.invariant c.args.dir.now c.get.result c.get.ensures
    ∙ ap (λ (m : Paths). has_entries m c.args.dir.now) c.self.view_is
