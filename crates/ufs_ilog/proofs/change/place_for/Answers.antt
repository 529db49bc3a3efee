use Rattle.std.proofs.Common.{◌≡◌, true, length, get_or, ap, sym, ◌∙◌, arith}
use Rattle.std.proofs.lemmas.List.Sums.{position_or_len_is}
use Rattle.ufs_layout.specs.declared.records.LogRecord.TheVariants.{Free}
use Rattle.ufs_ilog.specs.Changes.{may_follow}
use Rattle.ufs_ilog.proofs.change.place_for.Goals as goal

pub returns-then-may_follow-clause-place : goal.returns-then-may_follow-clause-place
returns-then-may_follow-clause-place c =
    let d = c.index-records-at.result in
    let here : may_follow c.args.added.now (get_or c.args.records.now c.loop-at.at d) ≡ true = ap (may_follow c.args.added.now) (sym c.index-records-at.is) ∙ sym c.may_follow.ensures ∙ c.if-may_follow.true in
    sym (position_or_len_is (may_follow c.args.added.now) c.args.records.now c.loop-at.at d c.loop-at.auto.at-end (c.loop-at.invariant d) (λ inside. here))

pub returns-clause-place : goal.returns-clause-place
returns-clause-place c =
    let all : c.loop-at.at ≡ length c.args.records.now = omega (arith, c.loop-at-test.false, c.loop-at.auto.at-end) in
    sym all ∙ sym (position_or_len_is (may_follow c.args.added.now) c.args.records.now c.loop-at.at (Free 0) c.loop-at.auto.at-end (c.loop-at.invariant (Free 0)) (λ inside. absurd (omega (arith, inside, c.loop-at-test.false))))
