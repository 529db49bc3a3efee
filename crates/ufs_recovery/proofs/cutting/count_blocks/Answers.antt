use Rattle.std.proofs.Common.{◌+◌, length, take, ap, sym, ◌∙◌, arith}
use Rattle.ufs_recovery.proofs.FirstBlocks.{blocks_in, blocks_more}
use Rattle.ufs_recovery.proofs.cutting.count_blocks.Goals as goal

pub loop-extent-preserved : goal.loop-extent-preserved
loop-extent-preserved c =
    let es = c.args.extents.now in
    let i = c.loop-extent.extent-index in
    record {
      blocks = ap (λ n. n + c.from-blocks.result) c.loop-extent.invariant.blocks ∙ ap (λ n. length (blocks_in (take i es)) + n) c.from-blocks.ensures ∙ sym (blocks_more es i _ c.loop-extent-test.true);
      few = omega arith;
    }
