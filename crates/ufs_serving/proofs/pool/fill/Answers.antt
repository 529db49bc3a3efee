use Rattle.std.proofs.Common.{◌-◌, None, ap, arith}
use Rattle.std.specs.FinSet as set
use Rattle.ufs_bitmap.specs.Blocks.{BlockSet}
use Rattle.ufs_held.proofs.Stopping.{rests_still, rests_twice}
use Rattle.ufs_serving.proofs.Conserving.{conserved_same, conserved_then}
use Rattle.ufs_serving.proofs.Filling.{all_free}
use Rattle.ufs_serving.proofs.pool.fill.Goals as goal

pub returns-then-had-wanted-clause-conserved : goal.returns-then-had-wanted-clause-conserved
returns-then-had-wanted-clause-conserved g c = conserved_same (g.T.Turns.tells c.args.door.now) c.args.pool.now

pub returns-in_default-clause-short : goal.returns-in_default-clause-short
returns-in_default-clause-short g c = λ few.
    let n = c.count-had.ensures in
    let l = c.in_default.ensures.enough in
    absurd (omega (arith, n, l, few))

pub returns-clause-pool : goal.returns-clause-pool
returns-clause-pool g c = λ n mine. c.ask_pool-2.ensures.pool n (c.ask_pool.ensures.pool n mine)

pub returns-clause-own : goal.returns-clause-own
returns-clause-own g c = λ b is. c.ask_pool-2.ensures.own b (c.ask_pool.ensures.own b is)

pub returns-clause-spare : goal.returns-clause-spare
returns-clause-spare g c =
    let e = ap (λ (s : BlockSet). set.len s) c.in-Some.ensures.kept in
    let n = c.count-had.ensures in
    let l = c.in-Some.ensures.less in
    let m = c.ask_pool-2.ensures.spare in
    omega (arith, e, n, l, m)

pub returns-clause-conserved : goal.returns-clause-conserved
returns-clause-conserved g c =
    conserved_then (g.T.Turns.tells c.args.door.now) (g.T.Turns.tells c.ask_pool.new.door) (g.T.Turns.tells c.ask_pool-2.new.door) c.args.pool.now c.ask_pool.new.pool c.ask_pool-2.new.pool c.ask_pool.ensures.telling c.ask_pool.ensures.conserved c.ask_pool-2.ensures.conserved

pub returns-clause-short : goal.returns-clause-short
returns-clause-short g c = λ few.
    all_free (g.T.Turns.tells c.args.door.now) (g.T.Turns.tells c.ask_pool.new.door) (g.T.Turns.tells c.ask_pool-2.new.door) c.in-Some.free c.ask_pool-2.new.pool c.ask_pool-2.result c.ask_pool.ensures.telling c.ask_pool-2.ensures.telling
    (c.args.wanted - c.count-had.result) c.in-Some.ensures.fewer c.ask_pool-2.ensures.all c.ask_pool-2.ensures.fewer

pub returns-then-had-wanted-clause-still : goal.returns-then-had-wanted-clause-still
returns-then-had-wanted-clause-still g c = rests_still (g.T.Turns.tells c.args.door.now)

pub returns-clause-still : goal.returns-clause-still
returns-clause-still g c = rests_twice (g.T.Turns.tells c.args.door.now) (g.T.Turns.tells c.ask_pool.new.door) (g.T.Turns.tells c.ask_pool-2.new.door) None c.ask_pool.ensures.telling c.ask_pool.ensures.still c.ask_pool-2.ensures.still
