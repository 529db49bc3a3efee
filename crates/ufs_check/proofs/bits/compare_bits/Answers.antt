use Rattle.std.proofs.Common.{◌≡◌, ◌+◌, ◌-◌, ◌*◌, ◌++◌, sym, subst, ◌∙◌, arith}
use Rattle.std.specs.List.{range_with_len}
use Rattle.ufs_base.specs.Images.{Image}
use Rattle.ufs_metadata.specs.Folded.{IsFolded}
use Rattle.ufs_image.specs.Damage.{BitmapDiffers, differing}
use Rattle.ufs_metadata.proofs.Quiet.{read_more}
use Rattle.ufs_check.proofs.Sectors.{bits_behind}
use Rattle.ufs_check.proofs.bits.compare_bits.Goals as goal

pub returns-in_err-compare_block-clause-read_only : goal.returns-in_err-compare_block-clause-read_only
returns-in_err-compare_block-clause-read_only g c told =
    read_more g.D.Disk.keeps (g.D.Disk.moments c.args.disk.now) (g.D.Disk.moments c.loop-place.disk) (g.D.Disk.moments c.compare_block.new.disk) (c.loop-place.invariant.read_only told) (c.compare_block.ensures.read_only told)

pub loop-place-preserved : goal.loop-place-preserved
loop-place-preserved g c =
    let inv = c.loop-place.invariant in
    let place = c.loop-place.place in
    let geometry = c.args.geometry.now in
    let n = 32768 * (place + 1) - 32768 * place in
    let few : n ≡ 32768 = omega arith in
    let from : 32768 * place ≡ 0 + 32768 * place = omega arith in
    let long : 32768 * (place + 1) ≡ 32768 * place + n = omega arith in
    record {
      told = λ told image is nodes taken.
          bits_behind geometry image nodes 0 (32768 * place) (32768 * place) n (32768 * (place + 1)) c.args.list.now c.loop-place.list c.compare_block.new.list from long (inv.told told image is nodes taken)
          (c.in_ok-compare_block.ensures.told told image (subst (λ (d : Image). IsFolded c.args.overlay.now d image) (sym (inv.read_only told).content) is) geometry nodes taken n few);
      read_only = λ told. read_more g.D.Disk.keeps (g.D.Disk.moments c.args.disk.now) (g.D.Disk.moments c.loop-place.disk) (g.D.Disk.moments c.compare_block.new.disk) (inv.read_only told) (c.compare_block.ensures.read_only told);
      size = c.compare_block.ensures.size ∙ inv.size;
      faults = c.in_ok-compare_block.ensures.passed ∙ inv.faults;
    }
