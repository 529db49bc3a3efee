use Rattle.std.proofs.Common.{◌≡◌, ◌-◌, ◌≤◌}
use Rattle.std.specs.FinSet as set
use Rattle.ufs_extent.specs.Runs.{blocks_from}
use Rattle.ufs_bitmap.proofs.word_set.WordSet.insert_all.Given as goal

abbrev pub invariant-loop-block : goal.invariant-loop-block
invariant-loop-block l = record {
  so_far : l.self ≡ record l.initial.self { blocks = set.union l.initial.self.blocks (set.from_list (blocks_from l.first (l.block - l.first))) };
  not_past : l.block - l.first ≤ l.end - l.first;
}
