use Rattle.std.proofs.Common.{◌≡◌, ◌∙◌, ap}
use Rattle.std.specs.List.{insert, position_or_len}
use Rattle.ufs_ilog.specs.Changes.{may_follow}
use Rattle.ufs_ilog.proofs.OrderLemmas.{put_at}
use Rattle.ufs_ilog.proofs.change.put_in_order.Goals as goal

pub returns : goal.returns
returns c =
    let all : c.as_slice.result.now ≡ c.args.records.now.items = c.as_slice.ensures.value in
    let place : c.place_for-at.result ≡ position_or_len (may_follow c.args.added) c.args.records.now.items = c.place_for-at.ensures.place ∙ ap (position_or_len (may_follow c.args.added)) all in
    c.in_ok-insert.ensures.items ∙ ap (λ k. insert c.args.records.now.items k c.args.added) place ∙ put_at c.args.added c.args.records.now.items
