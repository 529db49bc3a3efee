use Rattle.std.proofs.Common.{[], subst, sym}
use Rattle.ufs_disk.specs.Disk.{seen}
use Rattle.ufs_ledger.specs.Kept.{OpensExplained, paths_of}
use Rattle.ufs_model.specs.PosixTree.{PosixTree}
use Rattle.ufs_promise_laws.specs.Starts.{image_start}
use Rattle.ufs_crash_laws.specs.Explained.{IsExplained}
use Rattle.ufs_command.proofs.laws.unserved_law.Goals as goal

pub returns : goal.returns
returns c state start proper with image is =
    let nodes = paths_of with.tree in
    let begun = c.trees_are_explained.ensures.opening (image_start with.tree) nodes (c.a_start_is_a_tree.ensures.tree nodes (c.image_start_law.ensures.paths (seen state) with.tree with.opened)) (c.a_start_is_a_tree.ensures.contents nodes) in
    subst (OpensExplained c.args.sectors start []) (sym (proper.settled image is))
    (record { tree = with.tree; opened = with.opened; explained = subst (λ (t : PosixTree). IsExplained nodes t []) (sym with.start_is) begun })
