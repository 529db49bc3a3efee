use Rattle.std.proofs.Common.{◌≡◌, ap, sym, ◌∙◌, arith}
use Rattle.std.specs.FinSet as set
use Rattle.ufs_bitmap.specs.Blocks.{BlockSet}
use Rattle.ufs_serving.proofs.Conserving.{conserved_by_gain, conserved_by_lack}
use Rattle.ufs_serving.proofs.Filling.{alone_then, enough, few_more, had_of, keeps, lends, told_all, told_fewer}
use Rattle.ufs_serving.proofs.pool.ask_pool.Goals as goal

pub give_pool-requires : goal.give_pool-requires
give_pool-requires g c = record { lent = (c.requires.pool.0, lends c.requires.pool.0 c.args.pool.now c.args.right.now c.requires.pool.1) }

pub returns-in-Ok-clause-pool : goal.returns-in-Ok-clause-pool
returns-in-Ok-clause-pool g c = λ n mine. alone_then n c.args.pool.now c.give_pool.new.pool c.args.right.now c.give_pool.new.hand mine (c.give_pool.ensures.lent n (lends n c.args.pool.now c.args.right.now mine)) c.give_pool.ensures.beside

pub returns-in-Ok-clause-own : goal.returns-in-Ok-clause-own
returns-in-Ok-clause-own g c = let w = c.in-Ok.ensures.given in keeps c.args.missing w.0 w.1 c.args.pool.now c.give_pool.new.pool w.2

pub returns-in-Ok-clause-enough : goal.returns-in-Ok-clause-enough
returns-in-Ok-clause-enough g c = let w = c.in-Ok.ensures.given in enough c.args.missing w.0 w.1 c.args.pool.now c.give_pool.new.pool w.2

pub returns-in-Ok-clause-spare : goal.returns-in-Ok-clause-spare
returns-in-Ok-clause-spare g c = let w = c.in-Ok.ensures.given in few_more c.args.missing w.0 w.1 c.args.pool.now c.give_pool.new.pool w.2

pub returns-in-Ok-clause-conserved : goal.returns-in-Ok-clause-conserved
returns-in-Ok-clause-conserved g c = conserved_by_gain (g.T.Turns.tells c.args.door.now) (g.T.Turns.tells c.give_pool.new.self) c.args.missing c.args.pool.now c.give_pool.new.pool c.in-Ok.ensures.lowest

pub returns-in-Ok-clause-all : goal.returns-in-Ok-clause-all
returns-in-Ok-clause-all g c = told_all (g.T.Turns.tells c.args.door.now) (g.T.Turns.tells c.give_pool.new.self) c.args.missing c.args.pool.now c.give_pool.new.pool c.in-Ok.ensures.lowest

pub returns-in-Ok-clause-still : goal.returns-in-Ok-clause-still
returns-in-Ok-clause-still g c = (c.give_pool.ensures.rests, c.give_pool.ensures.ran)

pub returns-in-Err-NoSpace-clause-still : goal.returns-in-Err-NoSpace-clause-still
returns-in-Err-NoSpace-clause-still g c = (c.give_pool.ensures.rests, c.give_pool.ensures.ran)

pub returns-in-Err-NoSpace-clause-pool : goal.returns-in-Err-NoSpace-clause-pool
returns-in-Err-NoSpace-clause-pool g c = λ n mine. alone_then n c.args.pool.now c.give_pool.new.pool c.args.right.now c.give_pool.new.hand mine (c.give_pool.ensures.lent n (lends n c.args.pool.now c.args.right.now mine)) c.give_pool.ensures.beside

pub returns-in-Err-NoSpace-clause-fewer : goal.returns-in-Err-NoSpace-clause-fewer
returns-in-Err-NoSpace-clause-fewer g c = told_fewer (g.T.Turns.tells c.args.door.now) (g.T.Turns.tells c.give_pool.new.self) c.args.missing c.in-Err-NoSpace.had c.in-Err-NoSpace.field-0 (ap had_of c.in-Err-NoSpace.field-0-is) c.in-Err-NoSpace.ensures.fewer

pub returns-in-Err-NoSpace-clause-own : goal.returns-in-Err-NoSpace-clause-own
returns-in-Err-NoSpace-clause-own g c = λ b is. ap (λ (s : BlockSet). set.contains s b) c.in-Err-NoSpace.ensures.kept ∙ is

pub returns-in-Err-NoSpace-clause-spare : goal.returns-in-Err-NoSpace-clause-spare
returns-in-Err-NoSpace-clause-spare g c = let e = ap (λ (s : BlockSet). set.len s) c.in-Err-NoSpace.ensures.kept in omega (arith, e)

pub returns-in-Err-NoSpace-clause-conserved : goal.returns-in-Err-NoSpace-clause-conserved
returns-in-Err-NoSpace-clause-conserved g c = conserved_by_lack (g.T.Turns.tells c.args.door.now) (g.T.Turns.tells c.give_pool.new.self) c.args.missing c.in-Err-NoSpace.field-0 c.args.pool.now c.give_pool.new.pool c.in-Err-NoSpace.ensures.kept c.in-Err-NoSpace.ensures.fewer

pub returns-in-Err-NoSpace-clause-less : goal.returns-in-Err-NoSpace-clause-less
returns-in-Err-NoSpace-clause-less g c =
    let w = c.in-Err-NoSpace.ensures.lacks in
    let e : w.0 ≡ c.in-Err-NoSpace.had = sym (ap had_of w.1.told) ∙ ap had_of c.in-Err-NoSpace.field-0-is in
    let l = w.1.fewer in
    omega (arith, e, l)
