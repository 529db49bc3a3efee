use Rattle.std.proofs.Common.{◌≡◌, ap, sym, ◌∙◌, ◌≤◌, ◌-◌, ℕ, arith}
use Rattle.std.specs.FinSet as set
use Rattle.ufs_pouring.proofs.Lemmas.{none_left, union_nothing}
use Rattle.ufs_pouring.proofs.pouring.pour.Goals as goal

pub returns-clause-from : goal.returns-clause-from
returns-clause-from c =
    let left = c.loop-turn.invariant.left in
    let past : c.count-count.result ≤ c.loop-turn._turn = c.loop-turn-test.false in
    none_left c.loop-turn.from (omega (arith, left, past))

pub returns-clause-into : goal.returns-clause-into
returns-clause-into c = sym (union_nothing c.loop-turn.into c.loop-turn.from (returns-clause-from c)) ∙ c.loop-turn.invariant.all
