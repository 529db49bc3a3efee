use Rattle.std.proofs.Common.{◌∙◌, arith}
use Rattle.std.proofs.lemmas.Result.{on_ok_weaker}
use Rattle.ufs_disk.proofs.Images.{put_one}
use Rattle.ufs_disk.proofs.Runs.{weaker}
use Rattle.ufs_recovery.proofs.SuperblockPut.{one_put}
use Rattle.ufs_recovery.proofs.sector.put_sector.Goals as goal

pub returns-clause-written : goal.returns-clause-written
returns-clause-written g c visible = on_ok_weaker c.write.result (λ is. is ∙ put_one c.args.sector c.args.bytes.now _ (omega arith)) (c.write.ensures.ok visible)

pub returns-clause-crash : goal.returns-clause-crash
returns-clause-crash g c visible = weaker _ _ _ (λ image from. one_put c.args.sector c.args.bytes.now _ image (omega arith) from) _ _ (c.write.ensures.crash visible)
