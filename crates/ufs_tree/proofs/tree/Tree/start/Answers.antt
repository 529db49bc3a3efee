use Rattle.std.proofs.Common.{subst, sym}
use Rattle.ufs_model.specs.Start.{PathNodes, IsPathTree}
use Rattle.ufs_tree.proofs.PlacedLemmas.{anew}
use Rattle.ufs_tree.proofs.tree.Tree.start.Goals as goal

pub numbered-requires-clause-paths : goal.numbered-requires-clause-paths
numbered-requires-clause-paths c =
    subst (λ (nodes : PathNodes). IsPathTree nodes) (sym (anew c.as_slice.result.now c.args.paths.now c.as_slice.ensures.entries)) c.requires.paths
