use Rattle.std.proofs.Common.{◌≡◌, ◌+◌, ◌*◌, ◌≤◌, ◌<◌, ℕ, List, length, ap, sym, ◌∙◌, ◌++◌, take, arith}
use Rattle.std.specs.Prelude.{max}
use Rattle.ufs_image.specs.Fold.{is_in_range}
use Rattle.ufs_layout.specs.declared.records.LogRecord.{LogRecord}
use Rattle.ufs_overlay.specs.Lists.{lists_of, room_in}
use Rattle.ufs_overlay.specs.Over.{numbered_of}
use Rattle.ufs_overlay.proofs.ListLemmas.{every_at, every_front, put_one, room_by, taken}
use Rattle.ufs_overlay.proofs.adding.put_all.Goals as goal

pub loop-at-preserved : goal.loop-at-preserved
loop-at-preserved c =
    let rs : List LogRecord = c.args.records.now in
    let r : LogRecord = c.index-records-at.result in
    let inside : c.loop-at.at < length rs = c.loop-at-test.true in (
      λ k. c.in_default.ensures.ok k
          ∙ put_one c.args.geometry.now k c.args.number (take c.loop-at.at rs) r (lists_of c.args.lists.now k) (lists_of c.loop-at.lists k) (every_at (is_in_range c.args.geometry.now) rs c.loop-at.at r c.requires.in_range inside c.index-records-at.is) (c.loop-at.invariant.0 k)
          ∙ ap (λ (l : List LogRecord). lists_of c.args.lists.now k ++ numbered_of c.args.geometry.now k c.args.number l) (sym (taken rs c.loop-at.at r inside c.index-records-at.is)),
      λ k. room_by c.args.geometry.now k c.args.number c.loop-at.at _ _ rs _ _ (c.loop-at.invariant.0 k) (c.loop-at.invariant.1 k) _ (c.put_one.ensures.room k),
    )

pub take_back-requires-clause-in_range : goal.take_back-requires-clause-in_range
take_back-requires-clause-in_range c = every_front (is_in_range c.args.geometry.now) c.loop-at.at c.args.records.now c.requires.in_range

pub returns-in-Err-clause-err : goal.returns-in-Err-clause-err
returns-in-Err-clause-err c = c.take_back.ensures.without c.args.number (lists_of c.args.lists.now) (λ k. c.in-Err.ensures.err k ∙ c.loop-at.invariant.0 k)

pub returns-in-Err-clause-room : goal.returns-in-Err-clause-room
returns-in-Err-clause-room c k =
    let inside : c.loop-at.at < length c.args.records.now = c.loop-at-test.true in
    let one = room_by c.args.geometry.now k c.args.number c.loop-at.at _ _ c.args.records.now _ _ (c.loop-at.invariant.0 k) (c.loop-at.invariant.1 k) _ (c.put_one.ensures.room k) in
    let same = c.take_back.ensures.room k in
    omega (arith, inside, one, same)
