use Rattle.std.proofs.Common.{◌≡◌, ◌∙◌, ◌/◌, ◌<◌, ◌≤◌, ℕ, List, ap, sym, refl, length, arith}
use Rattle.std.proofs.lemmas.Grind.{common_steps}
use Rattle.std.specs.declared.cmp.Ordering.TheVariants.{Less, Equal, Greater}
use Rattle.ufs_model.specs.Order.{path_cmp}
use Rattle.ufs_image_paths.proofs.LookupLemmas.{IsPart, part_here, part_over, part_under}
use Rattle.ufs_image_paths.proofs.lookup.entry_at.Goals as goal

pub loop-path-init : goal.loop-path-init
loop-path-init c = record { few = omega arith; rising = c.requires; same = refl }

pub loop-path-preserved-in-Less : goal.loop-path-preserved-in-Less
loop-path-preserved-in-Less c =
    let left = c.loop-path.left.now in
    let e = c.index-left-mid.result in
    let below : length left / 2 < length left = grind (arith, common_steps) in
    let compared : path_cmp c.args.path.now e.path ≡ Less = ap (λ (n : List ℕ). path_cmp c.args.path.now n) (sym c.as_slice.ensures) ∙ sym c.cmp.ensures ∙ c.in-Less.is in
    part_under c.args.entries.now c.args.path.now left c.loop-path.invariant (length left / 2) e below c.index-left-mid.is compared

pub loop-path-preserved : goal.loop-path-preserved
loop-path-preserved c =
    let left = c.loop-path.left.now in
    let e = c.index-left-mid.result in
    let below : length left / 2 < length left = grind (arith, common_steps) in
    let compared : path_cmp c.args.path.now e.path ≡ Greater = ap (λ (n : List ℕ). path_cmp c.args.path.now n) (sym c.as_slice.ensures) ∙ sym c.cmp.ensures ∙ c.in-Greater.is in
    part_over c.args.entries.now c.args.path.now left c.loop-path.invariant (length left / 2) e below c.index-left-mid.is compared

pub returns-in-Equal : goal.returns-in-Equal
returns-in-Equal c =
    let left = c.loop-path.left.now in
    let e = c.index-left-mid.result in
    let below : length left / 2 < length left = grind (arith, common_steps) in
    let compared : path_cmp c.args.path.now e.path ≡ Equal = ap (λ (n : List ℕ). path_cmp c.args.path.now n) (sym c.as_slice.ensures) ∙ sym c.cmp.ensures ∙ c.in-Equal.is in
    part_here c.args.entries.now c.args.path.now left c.loop-path.invariant (length left / 2) e below c.index-left-mid.is compared
