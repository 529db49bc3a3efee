use Rattle.std.proofs.Common.{◌≡◌, ◌≤◌, ◌<◌, ◌^◌, ℕ, Ok, None, Option, IfSome, subst, ap, arith}
use Rattle.std.specs.Fmt.{decimal}
use Rattle.ufs_lines.proofs.WordLemmas.{numbered_none, numbered_bound}
use Rattle.ufs_lines.proofs.words.numbered.Goals as goal

pub returns-in_default-2-clause-none : goal.returns-in_default-2-clause-none
returns-in_default-2-clause-none c = λ none m few is.
    let most = c.ranges.most.fits in
    numbered_none c.args.text.now c.args.word.now c.in-Some.digits.now m c.in-Some.ensures.some
    (λ e. c.in_ok-n.ensures.none (ap Ok c.in_default-2.is) m (omega (arith, few, most)) e) is

pub returns-then-n-most-clause-none : goal.returns-then-n-most-clause-none
returns-then-n-most-clause-none c = λ none m few is.
    let printed = subst (λ (o : Option ℕ). IfSome o (λ n. c.in-Some.digits.now ≡ decimal n)) c.in-Some-2.is c.in_ok-n.ensures.some in
    let small = subst (λ (o : Option ℕ). IfSome o (λ n. n < 2 ^ 64)) c.in-Some-2.is c.in_ok-n.ensures.few in
    numbered_bound c.args.text.now c.args.word.now c.in-Some.digits.now c.in-Some-2.n m c.args.most c.in-Some.ensures.some printed small c.if-n-most.true few is
