use Rattle.std.proofs.Common.{◌+◌, ◌*◌, ap, ◌∙◌, arith}
use Rattle.ufs_base.specs.Images.{Image}
use Rattle.ufs_disk.specs.Bytes.{image_of}
use Rattle.ufs_disk.specs.Moments.{reads}
use Rattle.ufs_front.specs.Fronts.{bytes_of}
use Rattle.ufs_start.proofs.Copied.{block_there, put_before, sector_there}
use Rattle.ufs_start.proofs.copy.copy_block.Goals as goal

pub returns-in-Ok-clause-there : goal.returns-in-Ok-clause-there
returns-in-Ok-clause-there g c visible =
    let block = c.args.block in
    let old = g.D.Disk.moments c.args.disk.now in
    let inside = c.requires.inside in
    block_there (reads old) (image_of (bytes_of c.args.copy.now)) (image_of (bytes_of c.put.new.self)) c.read.new.buf block c.put.ensures.image c.read.auto.buf (c.in-Ok.ensures.bytes visible)
    (λ i less. (sector_there (g.D.Disk.size c.args.disk.now) old.state (g.met.D.Disk.whole visible c.args.disk.now) (8 * block + i) (omega (arith, less, inside))).sized)

pub returns-in-Ok-clause-before : goal.returns-in-Ok-clause-before
returns-in-Ok-clause-before g c s less =
    ap (λ (d : Image). d s) c.put.ensures.image ∙ put_before (image_of (bytes_of c.args.copy.now)) c.read.new.buf (8 * c.args.block) s (omega (arith, less))
