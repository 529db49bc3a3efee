use Rattle.std.proofs.Common.{◌≡◌, ◌*◌, ◌++◌, ℕ, length, map, ap, subst, ◌∙◌, arith}
use Rattle.std.specs.List.{range_with_len}
use Rattle.std.proofs.lemmas.Grind.{common_steps}
use Rattle.ufs_image.specs.Damage.{BitmapDiffers, differing}
use Rattle.ufs_metadata.specs.Reading.{AreSectors}
use Rattle.ufs_check.proofs.bits.compare_block.Goals as goal

pub returns-in-Ok-clause-told : goal.returns-in-Ok-clause-told
returns-in-Ok-clause-told g c visible image is g' nodes taken n long =
    let sized : length c.read_block.new.buf ≡ 4096 = grind (arith, common_steps) in
    let whole : 8 * length c.read_block.new.buf ≡ n = omega (arith, sized, long) in
    c.in-Ok.ensures g' image nodes taken (subst (λ (b : ℕ). AreSectors image (8 * b) c.read_block.new.buf) c.requires.there (c.in_ok-read_block.ensures.sectors visible image is))
    ∙ ap (λ (m : ℕ). c.args.list.now ++ map BitmapDiffers (differing g' image nodes (range_with_len (32768 * c.args.place) m))) whole
