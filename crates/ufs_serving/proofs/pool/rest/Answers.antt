use Rattle.std.proofs.Common.{ap, refl, ◌∙◌, arith}
use Rattle.std.specs.FinSet as set
use Rattle.std.specs.Ordering.{nat_cmp}
use Rattle.ufs_bitmap.specs.Blocks.{BlockSet}
use Rattle.ufs_held.proofs.Stopping.{rests_still}
use Rattle.ufs_serving.proofs.Conserving.{conserved_back, conserved_same}
use Rattle.ufs_serving.proofs.Filling.{alone_then, lends}
use Rattle.ufs_serving.proofs.pool.rest.Goals as goal

pub take_back-requires : goal.take_back-requires
take_back-requires g c = record { lent = (c.requires.pool.0, lends c.requires.pool.0 c.args.pool.now c.args.right.now c.requires.pool.1) }

pub returns-then-count-gt-AT_REST-clause-pool : goal.returns-then-count-gt-AT_REST-clause-pool
returns-then-count-gt-AT_REST-clause-pool g c = λ n mine.
    alone_then n c.args.pool.now c.take_back.new.pool c.args.right.now c.take_back.new.hand mine (c.take_back.ensures.lent n (lends n c.args.pool.now c.args.right.now mine)) c.take_back.ensures.beside

pub returns-then-count-gt-AT_REST-clause-few : goal.returns-then-count-gt-AT_REST-clause-few
returns-then-count-gt-AT_REST-clause-few g c = let none = ap (λ (s : BlockSet). set.len s) c.take_back.ensures.none ∙ set.len-empty nat_cmp in omega (arith, none)

pub returns-then-count-gt-AT_REST-clause-rests : goal.returns-then-count-gt-AT_REST-clause-rests
returns-then-count-gt-AT_REST-clause-rests g c =
    let n = c.count.ensures in
    let more = c.if-count-gt-AT_REST.true in
    record { few = λ l. absurd (omega (arith, n, more, l)); many = λ _. c.take_back.ensures.none }

pub returns-then-count-gt-AT_REST-clause-conserved : goal.returns-then-count-gt-AT_REST-clause-conserved
returns-then-count-gt-AT_REST-clause-conserved g c =
    conserved_back (g.T.Turns.tells c.args.door.now) (g.T.Turns.tells c.take_back.new.self) c.args.pool.now c.take_back.new.pool c.take_back.ensures.none c.take_back.ensures.back

pub returns-else-count-gt-AT_REST-clause-rests : goal.returns-else-count-gt-AT_REST-clause-rests
returns-else-count-gt-AT_REST-clause-rests g c =
    let n = c.count.ensures in
    let less = c.if-count-gt-AT_REST.false in
    record { few = λ _. refl; many = λ l. absurd (omega (arith, n, less, l)) }

pub returns-else-count-gt-AT_REST-clause-conserved : goal.returns-else-count-gt-AT_REST-clause-conserved
returns-else-count-gt-AT_REST-clause-conserved g c = conserved_same (g.T.Turns.tells c.args.door.now) c.args.pool.now

pub returns-then-count-gt-AT_REST-clause-still : goal.returns-then-count-gt-AT_REST-clause-still
returns-then-count-gt-AT_REST-clause-still g c = (c.take_back.ensures.rests, c.take_back.ensures.ran)

pub returns-else-count-gt-AT_REST-clause-still : goal.returns-else-count-gt-AT_REST-clause-still
returns-else-count-gt-AT_REST-clause-still g c = rests_still (g.T.Turns.tells c.args.door.now)
