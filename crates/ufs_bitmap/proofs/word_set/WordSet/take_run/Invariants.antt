use Rattle.std.proofs.Common.{◌≡◌, ℕ, ◌-◌, ◌+◌, ◌<◌, ◌≤◌, true}
use Rattle.std.specs.FinSet as set
use Rattle.ufs_extent.specs.Runs.{blocks_from}
use Rattle.ufs_bitmap.proofs.word_set.WordSet.take_run.Given as goal

abbrev pub invariant-loop-length : goal.invariant-loop-length
invariant-loop-length l = record {
  taken : l.self ≡ record l.initial.self { blocks = set.difference l.initial.self.blocks (set.from_list (blocks_from l.start l.length)) };
  held : (b : ℕ) → l.start ≤ b → b < l.start + l.length → set.contains l.initial.self.blocks b ≡ true;
  at_most : l.length ≤ l.want;
  small : l.start + l.length ≤ 65536;
}

abbrev pub decreases-loop-length : goal.decreases-loop-length
decreases-loop-length l = l.want - l.length
