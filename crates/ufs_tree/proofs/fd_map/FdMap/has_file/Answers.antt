use Rattle.std.proofs.Common.{ap, ◌∙◌}
use Rattle.std.specs.List.{list_any}
use Rattle.std.specs.FinMap as map
use Rattle.ufs_model.specs.PosixTree.{Fds, is_desc_of}
use Rattle.ufs_tree.proofs.HolderLemmas.{open_by_count}
use Rattle.ufs_tree.proofs.fd_map.FdMap.has_file.Goals as goal

pub returns : goal.returns
returns c =
    open_by_count c.self.inside.entries c.self.inside.opens c.self.invariant c.args.file c.get.result c.get.ensures
    ∙ ap (λ (m : Fds). list_any (is_desc_of c.args.file) (map.values m)) c.self.view_is
