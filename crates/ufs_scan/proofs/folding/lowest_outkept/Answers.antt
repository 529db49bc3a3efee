use Rattle.std.proofs.Common.{◌≡◌, ℕ, ◌+◌, List, [], ◌∷◌, ◌++◌, Bool, true, false, Option, Some, None, drop, ap, sym, ◌∙◌, drop-cons, add-one, arith}
use Rattle.std.specs.Prelude.{if◌then◌else◌}
use Rattle.ufs_found.specs.Off.{lower, lowest_of}
use Rattle.ufs_scan.specs.Edits.{StepValue, effects, outkept, outkeeps, after}
use Rattle.ufs_scan.proofs.Lowest.{lower_assoc}
use Rattle.ufs_scan.proofs.PerInode.{below_none}
use Rattle.ufs_scan.proofs.folding.lowest_outkept.Goals as goal

turn : (xs rest : List StepValue) (x : StepValue) (total low next : Option ℕ) (count : ℕ) → xs ≡ x ∷ rest → total ≡ lower low (lowest_of (outkept (effects xs) count))
    → next ≡ lower low (if outkeeps count x.edit.does then Some x.edit.does.sector else None) → (more : ℕ) → more ≡ after count x.edit.does → total ≡ lower next (lowest_of (outkept (effects rest) more))
turn xs rest x total low next count split so_far is more more_is =
    so_far ∙ ap (λ l. lower low (lowest_of (outkept (effects l) count))) split ∙ by (outkeeps count x.edit.does)
    ∙ sym (λ i. lower (is i) (lowest_of (outkept (effects rest) (more_is i))))
  where
    others : List ℕ
    others = outkept (effects rest) (after count x.edit.does)

    by : (b : Bool) → lower low (lowest_of ((if b then x.edit.does.sector ∷ [] else []) ++ others)) ≡ lower (lower low (if b then Some x.edit.does.sector else None)) (lowest_of others)
    by true = sym (lower_assoc low (Some x.edit.does.sector) (lowest_of others))
    by false = ap (λ o. lower o (lowest_of others)) (sym (below_none low))

pub loop-step-preserved : goal.loop-step-preserved
loop-step-preserved c =
    let split : drop c.loop-step.step-index c.args.steps.now ≡ c.step-item.result ∷ drop (c.loop-step.step-index + 1) c.args.steps.now =
    drop-cons c.args.steps.now c.loop-step.step-index c.step-item.result (omega (arith, c.loop-step-test.true)) ∙ (λ i. sym c.step-item.is i ∷ drop (sym (add-one c.loop-step.step-index) i) c.args.steps.now) in
    turn (drop c.loop-step.step-index c.args.steps.now) (drop (c.loop-step.step-index + 1) c.args.steps.now) c.step-item.result _ c.loop-step.lowest c.lower-lowest.result c.loop-step.there split c.loop-step.invariant
    (c.lower-lowest.ensures ∙ ap (lower c.loop-step.lowest) c.outkept.ensures) c.after-there.result c.after-there.ensures
