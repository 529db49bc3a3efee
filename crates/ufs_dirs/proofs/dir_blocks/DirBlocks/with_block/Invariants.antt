use Rattle.std.proofs.Common.{◌≡◌, ◌+◌, length}
use Rattle.ufs_dirs.specs.Reading.{IsReadSoFar}
use Rattle.ufs_dirs.proofs.dir_blocks.DirBlocks.with_block.Given as goal

abbrev pub invariant-loop-k : goal.invariant-loop-k
invariant-loop-k l = record {
  so_far : IsReadSoFar l.fn.self l.block l.bytes l.k l.dir;
  first : l.first ≡ length l.fn.self.slots;
  size : length l.dir.slots ≡ l.first + 64;
}
