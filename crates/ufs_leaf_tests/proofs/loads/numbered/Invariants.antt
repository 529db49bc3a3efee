use Rattle.ufs_load.specs.Laws.{AreOfFiles}
use Rattle.ufs_leaf_tests.proofs.FileLemmas.{AreBelow}
use Rattle.ufs_leaf_tests.proofs.loads.numbered.Given as goal

abbrev pub invariant-loop-i : goal.invariant-loop-i
invariant-loop-i l = record {
  distinct : AreOfFiles l.loads.items;
  low : AreBelow l.loads.items l.i;
}
