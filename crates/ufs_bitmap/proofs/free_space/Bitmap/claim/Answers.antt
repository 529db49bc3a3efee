use Rattle.std.proofs.Common.{ap, sym, ◌∙◌, arith}
use Rattle.std.specs.FinSet as set
use Rattle.ufs_bitmap.specs.Blocks.{run_set}
use Rattle.ufs_bitmap.specs.Words.{Members}
use Rattle.ufs_bitmap.proofs.SetLemmas.{difference_from}
use Rattle.ufs_bitmap.proofs.free_space.Bitmap.claim.Goals as goal

pub invariant_of-self : goal.invariant_of-self
invariant_of-self c =
    let limit_is = ap (λ (m : Members). m.limit) c.claim.ensures in (
      c.self.invariant.0,
      omega (arith, c.self.invariant.1, limit_is),
      λ b h. c.self.invariant.2 b (difference_from c.self.inside.free.blocks (run_set c.args.run) b (ap (λ (m : Members). set.contains m.blocks b) (sym c.claim.ensures) ∙ h)),
    )
