use Rattle.std.proofs.Common.{◌≡◌, ◌+◌, ◌-◌, ◌≤◌, ◌<◌, ◌∷◌, ℕ, List, refl, arith, subst, sym, true, false, Some, None, Option}
use Rattle.std.specs.Prelude.{codes, is_some}
use Rattle.ufs_lines.specs.Replies.{AreNames}
use Rattle.ufs_lines.proofs.ReplyLemmas.{some_names_not, names_step, last_name}
use Rattle.ufs_lines.proofs.replies.are_names.Goals as goal

pub returns-in_default : goal.returns-in_default
returns-in_default c = (
  (λ bad. cc),
  (λ are. absurd (some_names_not c.loop-more.more c.loop-more.rest.now c.loop-more.invariant.some (c.in_default.ensures.none refl) (c.loop-more.invariant.names.1 are))),
)

pub loop-more-preserved : goal.loop-more-preserved
loop-more-preserved c =
    let step = names_step c.loop-more.more c.loop-more.rest.now c.in-Some.name.now c.first_word.result.front.now c.first_word.result.rest.now c.loop-more-test.true c.in-Some.ensures.some c.first_word.ensures in
    let more = c.loop-more-test.true in
    record {
      names = ((λ are. c.loop-more.invariant.names.0 (step.0 are)), (λ are. step.1 (c.loop-more.invariant.names.1 are)));
      some = omega (arith, more);
    }

pub returns : goal.returns
returns c =
    let last = last_name c.loop-more.more c.loop-more.rest.now c.behind-2.result c.loop-more-test.false c.loop-more.invariant.some c.behind-2.ensures.some c.behind-2.ensures.none c.is_some.result c.is_some.ensures in
    ((λ t. c.loop-more.invariant.names.0 (last.0 t)), (λ are. last.1 (c.loop-more.invariant.names.1 are)))
