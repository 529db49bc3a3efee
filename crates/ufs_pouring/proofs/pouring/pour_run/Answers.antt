use Rattle.std.proofs.Common.{◌≡◌, ap, sym, refl, ◌∙◌, subst, ℕ, ◌≤◌, ◌-◌, arith}
use Rattle.std.specs.FinSet as set
use Rattle.std.specs.Ordering.{nat_cmp}
use Rattle.ufs_bitmap.specs.Blocks.{BlockSet, run_set}
use Rattle.ufs_pouring.proofs.Lemmas.{fewer, poured}
use Rattle.ufs_pouring.proofs.pouring.pour_run.Goals as goal

pub returns-in-Some-clause-all : goal.returns-in-Some-clause-all
returns-in-Some-clause-all c =
    (λ i. set.union (c.add_run.ensures i) (c.in-Some.ensures.taken i)) ∙ poured c.args.into.now c.args.from.now c.in-Some.lowest c.in-Some.ensures.lowest.held

pub returns-in-Some-clause-less : goal.returns-in-Some-clause-less
returns-in-Some-clause-less c =
    subst (λ (s : BlockSet). set.len s ≤ set.len c.args.from.now - 1) (sym c.in-Some.ensures.taken) (fewer c.args.from.now c.in-Some.lowest c.in-Some.ensures.lowest.held c.in-Some.ensures.run)

pub returns-in-None-clause-less : goal.returns-in-None-clause-less
returns-in-None-clause-less c =
    let left : set.len c.take.new.self ≡ 0 = ap (λ (s : BlockSet). set.len s) (c.in-None.ensures.same ∙ c.in-None.ensures.none.0 refl) ∙ set.len-empty nat_cmp in
    omega (arith, left)
