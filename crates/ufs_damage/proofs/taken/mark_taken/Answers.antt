use Rattle.std.proofs.Common.{◌++◌, ◌∷◌, [], sym, ◌∙◌}
use Rattle.ufs_damage.proofs.UsedBlocks.{marks_more}
use Rattle.ufs_damage.proofs.taken.mark_taken.Goals as goal

pub loop-block-preserved : goal.loop-block-preserved
loop-block-preserved c =
    c.in_ok-push.ensures.items ∙ (λ t. c.loop-block.invariant t ++ c.is_taken.ensures t ∷ []) ∙ sym (marks_more c.args.first c.args.held.now c.loop-block.block _ c.loop-block-test.true)
