use Rattle.std.proofs.Common.{◌≡◌, ◌≤◌, ◌+◌, ℕ, Bool, true, false, Some, if◌then◌else◌, ap, arith, ◌∙◌}
use Rattle.std.specs.FinMap as fin
use Rattle.ufs_worker.specs.Worker.{filled}
use Rattle.ufs_worker.proofs.Places.{insert-filled}
use Rattle.ufs_worker.proofs.room.make_place.Goals as goal

one_at_most : (n m : ℕ) (b : Bool) → n ≡ m + (if b then 0 else 1) → n ≤ m + 1
one_at_most n m true is = omega (arith, is)
one_at_most n m false is = omega (arith, is)

pub returns-clause-made : goal.returns-clause-made
returns-clause-made g c =
    ap filled c.in_default.ensures.entries ∙ insert-filled c.args.places.now.entries c.number-number.result (Some c.args.parcel) ∙ ap (λ (n : ℕ). fin.insert (filled c.args.places.now.entries) n c.args.parcel) c.number-number.ensures.is

pub returns-clause-len : goal.returns-clause-len
returns-clause-len g c = one_at_most _ _ _ c.in_default.ensures.len
