use Rattle.std.proofs.Common.{◌≤◌, ◌∷◌, ◌++◌, [], ◌∙◌, length, length-append, refl, subst, sym, inr, arith}
use Rattle.ufs_script.specs.Requests.{IsCauseOf}
use Rattle.ufs_script.proofs.TurnLemmas.{first_cause, limited_cause, limited_many, word_read, words_end}
use Rattle.ufs_script.proofs.schedule.too_many.Goals as goal

pub loop-word-init : goal.loop-word-init
loop-word-init c = (c.args.turns.now, omega arith, refl)

pub loop-word-preserved : goal.loop-word-preserved
loop-word-preserved c =
    let i = c.loop-word.word-index in
    let all = c.loop-word.invariant.0 in (
      all ++ c.in-Ok._turn ∷ [],
      omega (arith, c.loop-word.invariant.1, length-append all (c.in-Ok._turn ∷ [])),
      word_read c.args.clients c.args.workers c.args.words.now i _ all c.in-Ok._turn c.loop-word-test.true c.in-Ok.ensures.ok ∙ c.loop-word.invariant.2,
    )

pub returns-in-Err : goal.returns-in-Err
returns-in-Err c =
    let all = c.loop-word.invariant.0 in
    let cause = c.in-Err.cause in
    let first = first_cause c.args.clients c.args.workers c.args.words.now c.loop-word.word-index _ all cause c.loop-word-test.true c.in-Err.ensures.err in
    limited_cause _ cause (subst (λ r. IsCauseOf r cause) c.loop-word.invariant.2 first)

pub returns : goal.returns
returns c =
    let words = c.args.words.now in
    let past : length words ≤ c.loop-word.word-index = c.loop-word-test.false in
    let all = c.loop-word.invariant.0 in
    let is = sym c.loop-word.invariant.2 ∙ words_end c.args.clients c.args.workers words c.loop-word.word-index all past in
    inr (limited_many _ all is (omega (arith, c.requires, c.loop-word.invariant.1, past)))
