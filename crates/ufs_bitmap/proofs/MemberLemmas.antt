-- What a set kept in words has after a take.
use Rattle.std.proofs.Common.{◌≡◌, ℕ, Option, None, Some, true, ap, sym, ◌∙◌}
use Rattle.std.specs.Prelude.{IfSome, IfNone}
use Rattle.std.specs.FinSet as set
use Rattle.ufs_extent.specs.declared.Run.{Run}
use Rattle.ufs_bitmap.specs.Blocks.{run_set}
use Rattle.ufs_bitmap.specs.Words.{Members}
use Rattle.ufs_bitmap.proofs.SetLemmas.{difference_from}

pub after_take : (old new : Members) (o : Option Run) → IfSome o (λ r. let left : Members = record old { blocks = set.difference old.blocks (run_set r) } in new ≡ left) → IfNone o (new ≡ old) → (new.limit ≡ old.limit) × ((b : ℕ) → set.contains new.blocks b ≡ true → set.contains old.blocks b ≡ true)
after_take old new None taken same = (ap (λ (m : Members). m.limit) same, λ b h. ap (λ (m : Members). set.contains m.blocks b) (sym same) ∙ h)
after_take old new (Some r) taken same =
    (ap (λ (m : Members). m.limit) taken, λ b h. difference_from old.blocks (run_set r) b (ap (λ (m : Members). set.contains m.blocks b) (sym taken) ∙ h))
