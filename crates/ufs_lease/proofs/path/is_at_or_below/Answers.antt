use Rattle.std.proofs.Common.{sym, ◌∙◌, arith, rules, ◌≡◌, ◌≢◌, ◌<◌, length}
use Rattle.ufs_lease.proofs.BelowLemmas.{below-all, below-short, below-other, below-more}
use Rattle.ufs_lease.proofs.path.is_at_or_below.Goals as goal

pub returns-in_default-first_name : goal.returns-in_default-first_name
returns-in_default-first_name c =
    sym (below-short c.loop-name.dir.now c.loop-name.below.now _ _ c.in-Some.ensures.some c.in_default-first_name.ensures.none) ∙ c.loop-name.invariant

pub returns-then-ne : goal.returns-then-ne
returns-then-ne c =
    let differs : c.in-Some-first_name.own.now ≢ c.in-Some.name.now = search rules in
    sym (below-other c.loop-name.dir.now c.loop-name.below.now _ _ _ _ c.in-Some.ensures.some c.in-Some-first_name.ensures.some differs) ∙ c.loop-name.invariant

pub loop-name-preserved : goal.loop-name-preserved
loop-name-preserved c =
    let same : c.in-Some-first_name.own.now ≡ c.in-Some.name.now = search rules in
    sym (below-more c.loop-name.dir.now c.loop-name.below.now _ _ c.in-Some.names.now c.in-Some-first_name.rest.now c.in-Some.ensures.some c.in-Some-first_name.ensures.some same) ∙ c.loop-name.invariant

pub loop-name-smaller : goal.loop-name-smaller
loop-name-smaller c =
    let h : length c.in-Some.names.now < length c.loop-name.dir.now = c.in-Some.ensures.shorter in
    omega (arith, h)

pub returns : goal.returns
returns c = sym (below-all c.loop-name.dir.now c.loop-name.below.now c.in_default.ensures.none) ∙ c.loop-name.invariant
