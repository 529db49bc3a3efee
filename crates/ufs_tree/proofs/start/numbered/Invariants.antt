use Rattle.std.proofs.Common.{◌≡◌, take}
use Rattle.ufs_model.specs.PathEntries.{pairs_of}
use Rattle.ufs_model.specs.Start.{start_from}
use Rattle.ufs_tree.specs.Parts.{tree_of}
use Rattle.ufs_tree.proofs.start.numbered.Given as goal

abbrev pub invariant-loop-entry : goal.invariant-loop-entry
invariant-loop-entry l = tree_of l.parts ≡ start_from (pairs_of (take l.entry-index l.entries))
