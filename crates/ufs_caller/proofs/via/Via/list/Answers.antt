use Rattle.std.proofs.Common.{subst}
use Rattle.ufs_model.specs.declared.data.Actor.{Actor}
use Rattle.std.proofs.Common.{List}
use Rattle.ufs_caller.specs.Lists.{IsListed}
use Rattle.ufs_caller.proofs.Rooms.{lists}
use Rattle.ufs_caller.proofs.via.Via.list.Goals as goal

pub returns : goal.returns
returns c =
    subst (λ (via : List Actor). IsListed via c.args.server c.push.new.self.items) c.self.view_is
    (lists c.push.result c.self.inside.servers c.push.new.self c.args.server c.push.ensures.ok c.push.ensures.err c.push.ensures.succeeds c.self.invariant)
