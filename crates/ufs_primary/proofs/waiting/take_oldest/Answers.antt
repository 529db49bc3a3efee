use Rattle.std.proofs.Common.{refl}
use Rattle.std.specs.VecDeque.{deque_len}
use Rattle.ufs_primary.proofs.Oldest.{one_fewer, taken_is}
use Rattle.ufs_primary.proofs.waiting.take_oldest.Goals as goal

pub returns-in-Some-clause-oldest : goal.returns-in-Some-clause-oldest
returns-in-Some-clause-oldest g c =
    taken_is c.args.stock.now.home.owners c.args.waiting.now.items c.remove.new.self.items c.in-Some.place (deque_len c.args.waiting.now) c.in-Some.ensures.0 c.remove.result c.args.waiting.now.ok.0 c.in-Some.ensures.1 c.remove.ensures.variant c.remove.ensures.value c.remove.ensures.items

pub returns-in-Some-clause-fewer : goal.returns-in-Some-clause-fewer
returns-in-Some-clause-fewer g c =
    one_fewer c.args.stock.now.home.owners c.args.waiting.now.items c.in-Some.place (deque_len c.args.waiting.now) (deque_len c.remove.new.self) c.in-Some.ensures.0 c.remove.result c.args.waiting.now.ok.0 c.in-Some.ensures.1 c.remove.ensures.variant c.remove.ensures.len

pub returns-in-None-clause-oldest : goal.returns-in-None-clause-oldest
returns-in-None-clause-oldest g c = (c.in-None.ensures, refl)
