use Rattle.std.proofs.Common.{ap, ◌∙◌}
use Rattle.std.specs.List.{list_any}
use Rattle.std.specs.FinMap as map
use Rattle.ufs_model.specs.PosixTree.{Paths, is_node_of}
use Rattle.ufs_tree.proofs.CountedLemmas.{named_by_count}
use Rattle.ufs_tree.proofs.path_map.PathMap.names_file.Goals as goal

pub returns : goal.returns
returns c =
    named_by_count c.self.inside.nodes c.self.inside.entries c.self.inside.links c.self.invariant c.args.file c.get.result c.get.ensures
    ∙ ap (λ (m : Paths). list_any (is_node_of c.args.file) (map.values m)) c.self.view_is
