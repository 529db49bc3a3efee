use Rattle.std.proofs.Common.{◌∙◌, arith}
use Rattle.std.proofs.lemmas.Bool.{eq-eqb, ne_eqb}
use Rattle.ufs_calls.proofs.BelowLemmas.{below_short, below_other, below_slash}
use Rattle.ufs_calls.proofs.nodes.is_below.Goals as goal
use Rattle.ufs_calls.proofs.nodes.is_below.Goals.{then-path-size-via-then-path-size, then-path-size-via-else-path-size+then-path-size-ne47}

pub returns-then-path-size : goal.returns-then-path-size
returns-then-path-size c = elim c.then-path-size.branch [
  | then-path-size-via-then-path-size w ↦ below_short c.args.dir.now c.args.path.now (omega (arith, w.if-path-size.true))
  | then-path-size-via-else-path-size+then-path-size-ne47 w ↦
      below_other c.args.dir.now c.args.path.now (omega (arith, w.if-path-size.false)) (ne_eqb _ 47 w.if-path-size-ne47.true)
]

pub returns : goal.returns
returns c =
    c.eq.ensures
    ∙ below_slash c.args.dir.now c.args.path.now (omega (arith, c.if-path-size.false)) (eq-eqb _ 47 c.if-path-size-ne47.false)
