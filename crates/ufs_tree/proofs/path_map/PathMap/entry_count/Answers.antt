use Rattle.std.proofs.Common.{ap, ◌∙◌}
use Rattle.ufs_model.specs.Directories.{entry_count}
use Rattle.ufs_model.specs.PosixTree.{Paths}
use Rattle.ufs_tree.proofs.path_map.PathMap.entry_count.Goals as goal

pub returns : goal.returns
returns c = c.get.ensures ∙ c.self.invariant.entries_are c.args.dir.now ∙ ap (λ (m : Paths). entry_count m c.args.dir.now) c.self.view_is
