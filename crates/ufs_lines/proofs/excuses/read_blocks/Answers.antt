use Rattle.std.proofs.Common.{◌≡◌, ◌≤◌, ◌<◌, ◌^◌, ◌++◌, ◌∷◌, ℕ, List, Ok, None, Option, IfSome, ap, sym, subst, ◌∙◌, refl, arith}
use Rattle.std.specs.Prelude.{codes}
use Rattle.std.specs.Fmt.{decimal}
use Rattle.ufs_lines.proofs.WordLemmas.{decimal_free, blocks_cut, blocks_join, number_cut}
use Rattle.ufs_lines.proofs.excuses.read_blocks.Goals as goal

pub returns-in_default-clause-none : goal.returns-in_default-clause-none
returns-in_default-clause-none c = λ none need had n h is. c.in_default.ensures.none refl ((decimal need ++ codes " ") ++ decimal had) is

pub returns-in_default-cut_text-clause-none : goal.returns-in_default-cut_text-clause-none
returns-in_default-cut_text-clause-none c = λ none need had n h is.
    c.in_default-cut_text.ensures.none refl (decimal need) (decimal had) (decimal_free 32 need (omega arith) (omega (arith, n)), blocks_cut c.args.words.now c.in-Some.numbers.now need had c.in-Some.ensures.some is)

pub returns-in_default-2-clause-none : goal.returns-in_default-2-clause-none
returns-in_default-2-clause-none c = λ none need had n h is.
    let cut = number_cut c.in-Some.numbers.now c.in-Some-cut_text.pair.front.now c.in-Some-cut_text.pair.rest.now (decimal had) need c.in-Some-cut_text.ensures.some (omega (arith, n)) (blocks_cut c.args.words.now c.in-Some.numbers.now need had c.in-Some.ensures.some is) in
    c.in_ok-need.ensures.none (ap Ok c.in_default-2.is) need (omega (arith, n)) cut.line_is

pub returns-in_default-3-clause-none : goal.returns-in_default-3-clause-none
returns-in_default-3-clause-none c = λ none need had n h is.
    let cut = number_cut c.in-Some.numbers.now c.in-Some-cut_text.pair.front.now c.in-Some-cut_text.pair.rest.now (decimal had) need c.in-Some-cut_text.ensures.some (omega (arith, n)) (blocks_cut c.args.words.now c.in-Some.numbers.now need had c.in-Some.ensures.some is) in
    c.in_ok-had.ensures.none (ap Ok c.in_default-3.is) had (omega (arith, h)) cut.more_is
