use Rattle.std.proofs.Common.{◌≡◌, ◌-◌}
use Rattle.std.specs.FinSet as set
use Rattle.ufs_extent.specs.Runs.{blocks_from}
use Rattle.ufs_bitmap.proofs.word_set.WordSet.claim.Given as goal

abbrev pub invariant-loop-block : goal.invariant-loop-block
invariant-loop-block l = l.self ≡ record l.initial.self { blocks = set.difference l.initial.self.blocks (set.from_list (blocks_from l.fn.run.start (l.block - l.fn.run.start))) }
