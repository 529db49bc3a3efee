use Rattle.std.proofs.Common.{false, slice_index_or, ap, sym, ◌∙◌}
use Rattle.std.specs.FinSet as set
use Rattle.ufs_bitmap.specs.Space.{Space}
use Rattle.ufs_load_image.proofs.Left.{taken_out}
use Rattle.ufs_load_image.proofs.free.leave_out.Goals as goal

pub returns-then-is_taken-clause-left : goal.returns-then-is_taken-clause-left
returns-then-is_taken-clause-left c b =
    ap (λ (s : Space). set.contains s.free b) c.claim.ensures
    ∙ taken_out c.args.free.now.free c.args.block (slice_index_or c.args.taken.now c.args.block false) (sym c.is_taken.ensures ∙ c.if-is_taken.true) b
