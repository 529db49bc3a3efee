use Rattle.std.proofs.Common.{◌≡◌, ◌+◌, ◌/◌, length, ap, ◌∙◌, arith}
use Rattle.ufs_base.specs.Images.{Image}
use Rattle.ufs_disk.specs.Bytes.{image_of}
use Rattle.ufs_front.specs.Fronts.{bytes_of}
use Rattle.ufs_start.proofs.Copied.{put_there}
use Rattle.ufs_start.proofs.copy.with_first.Goals as goal

pub returns-clause-first : goal.returns-clause-first
returns-clause-first c s less =
    let first = c.args.first.now in
    let whole = c.requires.whole in
    let none : s ≡ 0 + s = omega arith in
    ap (λ n. image_of (bytes_of c.put.new.self) n) none
    ∙ ap (λ (d : Image). d (0 + s)) c.put.ensures.image
    ∙ put_there (image_of (bytes_of c.in_ok-copy.copy)) first 0 (length first / 512) (omega (arith, whole)) s (omega (arith, less, whole))
