use Rattle.std.proofs.Common.{◌+◌, ◌*◌, arith, refl}
use Rattle.ufs_metadata.proofs.Pieces.{applied_more, applied_all}
use Rattle.ufs_metadata.proofs.reading.apply_block.Goals as goal

pub loop-i-preserved : goal.loop-i-preserved
loop-i-preserved c =
    let i = c.loop-i.i in
    let e = c.apply_at.ensures in
    applied_more c.args.overlay.now (8 * c.args.block) i (512 * i) (512 * i + 512) c.args.buf.now c.loop-i.buf c.apply_at.new.buf c.loop-i-test.true refl refl c.loop-i.invariant e.front e.there e.behind

pub returns : goal.returns
returns c = applied_all c.args.overlay.now (8 * c.args.block) c.loop-i.i c.args.buf.now c.loop-i.buf (omega (arith, c.loop-i-test.false)) c.loop-i.invariant
