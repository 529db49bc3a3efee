use Rattle.std.proofs.Common.{◌∙◌, ap, arith}
use Rattle.std.proofs.lemmas.Result.{on_ok_weaker}
use Rattle.ufs_base.specs.Images.{Image}
use Rattle.ufs_disk.proofs.Images.{put_one}
use Rattle.ufs_recover.proofs.Written.{superblock_written, superblock_settled, superblock_others}
use Rattle.ufs_recover.proofs.superblock.put_superblock.Goals as goal

pub returns-in_err-write-clause-crash : goal.returns-in_err-write-clause-crash
returns-in_err-write-clause-crash g c visible = superblock_written _ c.args.bytes.now (omega arith) _ _ (c.write.ensures.crash visible)

pub returns-clause-written : goal.returns-clause-written
returns-clause-written g c visible = on_ok_weaker c.barrier.result (λ settled. c.barrier.ensures.content visible ∙ c.in_ok-write.ensures.ok visible ∙ put_one 0 c.args.bytes.now _ (omega arith)) (c.barrier.ensures.ok visible)

pub returns-clause-others : goal.returns-clause-others
returns-clause-others g c visible s ne =
    ap (λ (d : Image). d s) (c.barrier.ensures.content visible) ∙ superblock_others c.args.bytes.now _ _ (omega arith) (c.write.ensures.content visible) s ne

pub returns-clause-crash : goal.returns-clause-crash
returns-clause-crash g c visible = superblock_settled _ c.args.bytes.now (omega arith) _ _ (c.write.ensures.crash visible) _ (c.barrier.ensures.crash visible)
