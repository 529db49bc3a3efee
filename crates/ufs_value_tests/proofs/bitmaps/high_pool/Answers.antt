use Rattle.std.proofs.Common.{ap, ◌∙◌}
use Rattle.std.specs.FinSet as set
use Rattle.ufs_bitmap.specs.Blocks.{BlockSet}
use Rattle.ufs_bitmap.proofs.SetLemmas.{has-empty}
use Rattle.ufs_value_tests.proofs.bitmaps.high_pool.Goals as goal

pub give-requires-clause-apart : goal.give-requires-clause-apart
give-requires-clause-apart c b l h = ap (λ (s : BlockSet). set.contains s b) c.in_ok-pool.ensures ∙ has-empty b
