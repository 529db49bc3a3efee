use Rattle.std.proofs.Common.{◌≡◌, ◌+◌, ◌-◌, length, take, drop, ap, sym, ◌∙◌, arith, rules}
use Rattle.std.proofs.lemmas.Slice.{between-put_mid, drop-put_mid}
use Rattle.ufs_base.specs.Images.{Image}
use Rattle.ufs_metadata.proofs.reading.apply_at.Goals as goal
use borrow.Rule.Slice.PartMut.{put_mid}

pub returns-clause-there : goal.returns-clause-there
returns-clause-there c home image is old =
    let at = c.args.at in
    let size : at + 512 - at ≡ 512 = omega arith in
    let long : length c.apply.new.buf ≡ at + 512 - at = search rules in
    ap (λ n. take n (drop at (put_mid at (at + 512 - at) c.args.buf.now c.apply.new.buf))) (sym size)
    ∙ between-put_mid at (at + 512 - at) c.args.buf.now c.apply.new.buf (at + 512) (omega (arith, c.requires)) long
    ∙ c.apply.ensures is.added home is.has (ap (λ n. take n (drop at c.args.buf.now)) size ∙ old)
    ∙ ap (λ (d : Image). d c.args.sector) (sym is.same)

pub returns-clause-behind : goal.returns-clause-behind
returns-clause-behind c =
    let at = c.args.at in
    let long : length c.apply.new.buf ≡ at + 512 - at = search rules in
    drop-put_mid at (at + 512 - at) c.args.buf.now c.apply.new.buf (at + 512) (omega arith) (omega (arith, c.requires)) long
