use Rattle.std.proofs.Common.{length, ap, sym, subst, ◌∙◌, arith}
use Rattle.ufs_rounds.specs.Dealing.{AreBare}
use Rattle.ufs_rounds.proofs.Dealt.{bare_push}
use Rattle.ufs_rounds.proofs.Together.{length_push}
use Rattle.ufs_rounds.proofs.room.make_pools.Goals as goal

pub loop-place-preserved : goal.loop-place-preserved
loop-place-preserved c =
    let l = c.loop-place in
    let pool = c.in_ok-pool.pool in
    let items = c.push_reserved.ensures.items in
    let long = ap length items ∙ length_push l.pools.items pool in
    let all = l.invariant.all in
    let room = l.invariant.room in
    let wide = c.push_reserved.ensures.capacity in
    record {
      bare = subst AreBare (sym items) (bare_push l.pools.items pool l.invariant.bare c.in_ok-pool.ensures);
      all = omega (arith, long, all);
      room = omega (arith, room, wide);
    }
