use Rattle.std.proofs.Common.{◌≡◌, ◌≤◌, ◌<◌, ◌^◌, ◌++◌, ◌∷◌, ℕ, List, Ok, None, Option, IfSome, ap, sym, subst, ◌∙◌, refl, arith}
use Rattle.std.specs.Prelude.{codes}
use Rattle.std.specs.Fmt.{decimal}
use Rattle.ufs_lines.proofs.WordLemmas.{decimal_free, extents_cut, extents_join, number_cut}
use Rattle.ufs_lines.proofs.excuses.read_extents.Goals as goal

pub returns-in_default-clause-none : goal.returns-in_default-clause-none
returns-in_default-clause-none c = λ none need n is. c.in_default.ensures.none refl (decimal need ++ codes " 56") is

pub returns-in_default-cut_text-clause-none : goal.returns-in_default-cut_text-clause-none
returns-in_default-cut_text-clause-none c = λ none need n is.
    c.in_default-cut_text.ensures.none refl (decimal need) (codes "56") (decimal_free 32 need (omega arith) (omega (arith, n)), extents_cut c.args.words.now c.in-Some.numbers.now need c.in-Some.ensures.some is)

pub returns-then-not-same_bytes-clause-none : goal.returns-then-not-same_bytes-clause-none
returns-then-not-same_bytes-clause-none c = λ none need n is.
    let cut = number_cut c.in-Some.numbers.now c.in-Some-cut_text.pair.front.now c.in-Some-cut_text.pair.rest.now (codes "56") need c.in-Some-cut_text.ensures.some (omega (arith, n)) (extents_cut c.args.words.now c.in-Some.numbers.now need c.in-Some.ensures.some is) in
    let bad = c.if-not-same_bytes.ensures.1 cut.more_is in
    cc

pub returns-in_default-2-clause-none : goal.returns-in_default-2-clause-none
returns-in_default-2-clause-none c = λ none need n is.
    let cut = number_cut c.in-Some.numbers.now c.in-Some-cut_text.pair.front.now c.in-Some-cut_text.pair.rest.now (codes "56") need c.in-Some-cut_text.ensures.some (omega (arith, n)) (extents_cut c.args.words.now c.in-Some.numbers.now need c.in-Some.ensures.some is) in
    c.in_ok-need.ensures.none (ap Ok c.in_default-2.is) need (omega (arith, n)) cut.line_is
