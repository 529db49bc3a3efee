use Rattle.std.proofs.Common.{◌≡◌}
use Rattle.ufs_start.proofs.DirLemmas.{AreFilled}
use Rattle.ufs_start.proofs.dirs.fill.Given as goal

abbrev pub invariant-loop-place : goal.invariant-loop-place
invariant-loop-place l = record {
  blocks : l.dir.blocks ≡ l.fn.dir.blocks;
  slots : AreFilled l.slots l.place l.dir.slots;
}
