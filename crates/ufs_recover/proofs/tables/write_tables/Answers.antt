use Rattle.std.proofs.Common.{ℕ, sym, ◌∙◌, ap, subst, arith}
use Rattle.std.proofs.lemmas.Result.{on_ok_weaker}
use Rattle.ufs_base.specs.Images.{Image}
use Rattle.ufs_disk.specs.Moments.{reads}
use Rattle.ufs_disk.proofs.Runs.{goes_on_quietly}
use Rattle.ufs_recover.specs.Tables.{HasTablesBelow}
use Rattle.ufs_recover.specs.Stopped.{IsBlank}
use Rattle.ufs_recover.proofs.Written.{block_laid, block_others, still_blank}
use Rattle.ufs_recover.proofs.tables.write_tables.Goals as goal

pub returns-in_err-write-clause-crash : goal.returns-in_err-write-clause-crash
returns-in_err-write-clause-crash g c visible = still_blank c.loop-block.block c.lay_block.new.bytes (omega arith) _ _ _ _ (c.loop-block.invariant.crash visible) (c.write.ensures.crash visible)

pub returns-clause-written : goal.returns-clause-written
returns-clause-written g c visible = on_ok_weaker c.barrier.result (λ settled.
    subst (λ (n : ℕ). HasTablesBelow c.args.geometry.now n (reads (g.D.Disk.moments c.barrier.new.self))) (omega arith)
    (subst (HasTablesBelow c.args.geometry.now c.loop-block.block) (sym (c.barrier.ensures.content visible)) (c.loop-block.invariant.written visible))) (c.barrier.ensures.ok visible)

pub returns-clause-others : goal.returns-clause-others
returns-clause-others g c visible s outside = ap (λ (d : Image). d s) (c.barrier.ensures.content visible) ∙ c.loop-block.invariant.others visible s outside

pub returns-clause-crash : goal.returns-clause-crash
returns-clause-crash g c visible = goes_on_quietly _ IsBlank _ _ _ (c.loop-block.invariant.crash visible) (c.barrier.ensures.crash visible)

pub loop-block-preserved : goal.loop-block-preserved
loop-block-preserved g c =
    let i = c.loop-block.invariant in
    record {
      written = λ visible. block_laid c.args.geometry.now c.loop-block.block c.lay_block.new.bytes (omega arith) _ _ (c.in_ok-write.ensures.ok visible) c.lay_block.ensures (i.written visible);
      others = λ visible s outside. block_others c.args.geometry.now c.loop-block.block c.lay_block.new.bytes (omega arith) _ _ (c.write.ensures.content visible) (omega arith) (omega arith) s outside ∙ i.others visible s outside;
      crash = λ visible. still_blank c.loop-block.block c.lay_block.new.bytes (omega arith) _ _ _ _ (i.crash visible) (c.write.ensures.crash visible);
      size = c.write.ensures.size ∙ i.size;
      faults = c.in_ok-write.ensures.cause.passed ∙ i.faults;
    }
