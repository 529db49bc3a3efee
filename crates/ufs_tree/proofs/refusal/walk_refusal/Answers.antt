use Rattle.std.proofs.Common.{◌≡◌, ◌+◌, ◌-◌, ◌<◌, [], Option, Some, None, ap, sym, ◌∙◌, length, take, drop, arith}
use Rattle.std.specs.FinMap as map
use Rattle.ufs_base.specs.Choices.{first_of}
use Rattle.ufs_model.specs.Paths.{whole_path}
use Rattle.ufs_model.specs.Walk.{walk_refusal_from, dir_refusal}
use Rattle.ufs_model.specs.declared.data.Errno.{Errno}
use Rattle.ufs_tree.proofs.WalkLemmas.{walk_on, walk_end}
use Rattle.ufs_tree.proofs.refusal.walk_refusal.Goals as goal
use Rattle.ufs_tree.proofs.refusal.walk_refusal.Goals.{After-dir_refusal}

-- what was looked at, and then the walk below it
passed : (c : After-dir_refusal) (o : Option Errno) → c.dir_refusal.result ≡ o
    → walk_refusal_from c.args.nodes.now [] c.args.text.now
    ≡ first_of o (walk_refusal_from c.args.nodes.now (take (c.loop-above.above + 1) c.args.text.now) (drop (c.loop-above.above + 1) c.args.text.now))
passed c o is =
    let names = c.args.text.now in
    let below : c.loop-above.above < length names - 1 = omega (arith, c.loop-above-test.true, c.saturating_sub-above-end.ensures, c.len.ensures.value) in
    let there : dir_refusal (map.get c.args.nodes.now (whole_path (take (c.loop-above.above + 1) names))) ≡ o =
    ap (λ p. dir_refusal (map.get c.args.nodes.now p)) (sym c.prefix.ensures) ∙ ap dir_refusal (sym c.get.ensures) ∙ sym c.dir_refusal.ensures ∙ is in
    c.loop-above.invariant
    ∙ walk_on c.args.nodes.now names c.loop-above.above below
    ∙ ap (λ o. first_of o (walk_refusal_from c.args.nodes.now (take (c.loop-above.above + 1) names) (drop (c.loop-above.above + 1) names))) there

pub returns-in-Some : goal.returns-in-Some
returns-in-Some c = sym (passed c.before (Some c.in-Some.e) c.in-Some.is)

pub loop-above-preserved : goal.loop-above-preserved
loop-above-preserved c = passed c.before None c.in_default.is

pub returns : goal.returns
returns c =
    let end = walk_end c.args.nodes.now c.args.text.now c.loop-above.above (omega (arith, c.loop-above-test.false, c.saturating_sub-above-end.ensures, c.len.ensures.value)) in
    sym (c.loop-above.invariant ∙ end)
