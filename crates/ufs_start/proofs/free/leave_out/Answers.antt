use Rattle.std.proofs.Common.{ap, ◌∙◌}
use Rattle.std.specs.FinSet as set
use Rattle.ufs_bitmap.specs.Space.{Space}
use Rattle.ufs_load_image.proofs.Left.{taken_out}
use Rattle.ufs_start.proofs.free.leave_out.Goals as goal

pub returns-then-used-clause-left : goal.returns-then-used-clause-left
returns-then-used-clause-left c b =
    ap (λ (s : Space). set.contains s.free b) c.claim.ensures
    ∙ taken_out c.args.free.now.free c.args.inode c.args.used c.if-used.true b
