use Rattle.std.proofs.Common.{arith, List, ℕ}
use Rattle.ufs_file.specs.declared.blocks.Block.{Block}
use Rattle.ufs_file.proofs.CoverLemmas.{absent_more, absent_same}
use Rattle.ufs_file.proofs.cover.absent_count.Goals as goal
use Rattle.ufs_file.proofs.cover.absent_count.Goals.{then-not-table-k, else-not-table-k}

pub loop-k-preserved : goal.loop-k-preserved
loop-k-preserved c =
    let bs : List Block = c.args.table.now in
    let k : ℕ = c.loop-k.k in
    let so_far = c.loop-k.invariant.counted in
    elim c.if-not-table-k.branch [
      | then-not-table-k w ↦ record {
        counted = omega (arith, so_far, w.count-is, absent_more bs k c.args.to c.index-table-k.result c.loop-k-test.true c.requires w.if-not-table-k.true);
        few = omega (arith, w.count-is, c.loop-k.invariant.few);
      }
      | else-not-table-k w ↦ record {
        counted = omega (arith, so_far, w.count-is, absent_same bs k c.args.to c.index-table-k.result c.loop-k-test.true c.requires w.if-not-table-k.false);
        few = omega (arith, w.count-is, c.loop-k.invariant.few);
      }
    ]
