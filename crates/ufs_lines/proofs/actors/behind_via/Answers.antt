use Rattle.std.proofs.Common.{◌≡◌, ◌++◌, [], ℕ, List, Ok, None, ap, sym, subst, ◌∙◌, refl, true, false}
use Rattle.ufs_lines.proofs.WordLemmas.{no_via, via_found, via_only}
use Rattle.ufs_lines.proofs.actors.behind_via.Goals as goal

pub returns-in_default-clause-all : goal.returns-in_default-clause-all
returns-in_default-clause-all c = λ via why all is. ((λ bad. cc), no_via c.args.tail.now (c.in_default.ensures.none refl) via why is)

pub returns-then-branch-clause-some : goal.returns-then-branch-clause-some
returns-then-branch-clause-some c =
    via_found c.args.tail.now c.in-Some.list.now c.first_word-word.result.front.now c.first_word-word.result.rest.now c.in-Some.ensures.some c.first_word-word.ensures (c.in_ok-are_actors.ensures.0 c.if-branch.true)

pub returns-then-branch-clause-all : goal.returns-then-branch-clause-all
returns-then-branch-clause-all c = λ via why all is. (
  (λ bad. cc),
  (via_only c.args.tail.now c.in-Some.list.now c.first_word-word.result.front.now c.first_word-word.result.rest.now c.in-Some.ensures.some c.first_word-word.ensures via why all is).rest_is,
)

pub returns-else-branch-clause-all : goal.returns-else-branch-clause-all
returns-else-branch-clause-all c = λ via why all is.
    let found = via_only c.args.tail.now c.in-Some.list.now c.first_word-word.result.front.now c.first_word-word.result.rest.now c.in-Some.ensures.some c.first_word-word.ensures via why all is in
    let bad : true ≡ false = sym (c.in_ok-are_actors.ensures.1 found.are) ∙ c.if-branch.false in
    cc
