use Rattle.std.proofs.Common.{◌≡◌, ◌<◌, ◌≤◌, true, ap, sym, ◌∙◌, arith, ⊎_elim}
use Rattle.std.specs.FinSet as set
use Rattle.ufs_extent.specs.Runs.{end_of}
use Rattle.ufs_bitmap.specs.Words.{Members}
use Rattle.ufs_bitmap.specs.Space.{Space}
use Rattle.ufs_bitmap.proofs.SetLemmas.{union_cases}
use Rattle.ufs_bitmap.proofs.free_space.Bitmap.give.Goals as goal

pub invariant_of-self : goal.invariant_of-self
invariant_of-self c =
    let run = c.args.run in
    let first_is = ap (λ (s : Space). s.first) c.self.view_is in
    let blocks_is = ap (λ (s : Space). s.blocks) c.self.view_is in
    let limit_is = ap (λ (m : Members). m.limit) c.give.ensures in (
      c.self.invariant.0,
      omega (arith, c.self.invariant.1, limit_is),
      λ b h.
          ⊎_elim (λ (e : set.contains c.self.inside.free.blocks b ≡ true). c.self.invariant.2 b e)
          (λ (e : (run.start ≤ b) × (b < end_of run)). (omega (arith, e.0, c.requires.inside.0, first_is), omega (arith, e.1, c.requires.inside.1, blocks_is)))
          (union_cases c.self.inside.free.blocks run b (ap (λ (m : Members). set.contains m.blocks b) (sym c.give.ensures) ∙ h)),
    )
