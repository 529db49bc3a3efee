use Rattle.std.proofs.Common.{◌≡◌, ◌+◌, ◌-◌, ◌<◌, List, [], ◌∷◌, ◌++◌, length, take, get_or, ap, ◌∙◌, arith}
use Rattle.std.proofs.lemmas.List.{append-nil}
use Rattle.ufs_image.specs.Fold.{is_in_range}
use Rattle.ufs_layout.specs.declared.records.LogRecord.{LogRecord}
use Rattle.ufs_overlay.specs.Lists.{lists_of, without_last}
use Rattle.ufs_overlay.specs.Over.{numbered_of}
use Rattle.ufs_overlay.proofs.ListLemmas.{taken, every_at, take_one}
use Rattle.ufs_overlay.proofs.adding.take_back.Goals as goal

pub loop-done-preserved : goal.loop-done-preserved
loop-done-preserved c = (
  λ number before is k.
      let rs : List LogRecord = c.args.records.now in
      let r : LogRecord = c.index-records-last.result in
      let at = length rs - (c.loop-done.done + 1) in
      let same : length rs - 1 - c.loop-done.done ≡ at = omega arith in
      let inside : at < length rs = omega (arith, c.loop-done-test.true) in
      let counted : length rs - c.loop-done.done ≡ at + 1 = omega (arith, c.loop-done-test.true) in
      let there : r ≡ get_or rs at r = c.index-records-last.is ∙ ap (λ i. get_or rs i r) same in
      let front : take (length rs - c.loop-done.done) rs ≡ take at rs ++ r ∷ [] = ap (λ i. take i rs) counted ∙ taken rs at r inside there in
      c.pop.ensures.without k ∙ ap (λ s. without_last s (lists_of c.loop-done.lists) k) c.sector_of.ensures
      ∙ take_one c.args.geometry.now k number (take at rs) r (before k) (lists_of c.loop-done.lists k) (every_at (is_in_range c.args.geometry.now) rs at r c.requires.in_range inside there)
      (c.loop-done.invariant.0 number before is k ∙ ap (λ (l : List LogRecord). before k ++ numbered_of c.args.geometry.now k number l) front),
  λ k. c.pop.ensures.room k ∙ c.loop-done.invariant.1 k,
)

pub returns-clause-without : goal.returns-clause-without
returns-clause-without c = λ number before is k.
    let none : length c.args.records.now - c.loop-done.done ≡ 0 = omega (arith, c.loop-done-test.false) in
    c.loop-done.invariant.0 number before is k ∙ ap (λ n. before k ++ numbered_of c.args.geometry.now k number (take n c.args.records.now)) none ∙ append-nil (before k)
