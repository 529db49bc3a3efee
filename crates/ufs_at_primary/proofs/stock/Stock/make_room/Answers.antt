use Rattle.std.proofs.Common.{sym, subst, ◌∙◌, ◌+◌, arith}
use Rattle.ufs_at_primary.specs.Room.{HasNoneDropped}
use Rattle.ufs_at_primary.proofs.Rooms.{names_failed, names_then}
use Rattle.ufs_store.specs.Refusals.{fault_in}
use Rattle.ufs_at_primary.proofs.Raised.{raises_run, raises_then}
use Rattle.ufs_at_primary.proofs.stock.Stock.make_room.Goals as goal

pub returns-in-Err-clause-made : goal.returns-in-Err-clause-made
returns-in-Err-clause-made g c =
    let e = c.commit_crowded.ensures in
    names_failed g.N.Naming.start.is_visible (g.T.Turns.tells c.args.door.now) (g.T.Turns.tells c.commit_crowded.new.door) c.args.self.now c.commit_crowded.new.self (fault_in c.commit_crowded.result) c.in-Err.ensures.kept e.free e.telling e.halts e.ran

pub returns-in-Err-clause-idle : goal.returns-in-Err-clause-idle
returns-in-Err-clause-idle g c = λ few none. c.commit_crowded.ensures.idle few

pub returns-clause-made : goal.returns-clause-made
returns-clause-made g c =
    let e = c.commit_crowded.ensures in
    let had = g.T.Turns.tells c.args.door.now in
    let mid = g.T.Turns.tells c.commit_crowded.new.door in
    names_then g.N.Naming.start.is_visible had mid (g.T.Turns.tells c.make_space.new.door) c.args.self.now c.commit_crowded.new.self c.make_space.new.self e.rest c.in_default.ensures.names e.free e.telling c.in_default.ensures.halts c.in_default.ensures.ran c.make_space.ensures.made

pub returns-clause-idle : goal.returns-clause-idle
returns-clause-idle g c = λ few none.
    let first = c.commit_crowded.ensures.idle few in
    let then = c.make_space.ensures.idle (subst HasNoneDropped (sym first.0) none) in
    (then.0 ∙ first.0, then.1 ∙ first.1)

pub returns-in-Err-clause-raised : goal.returns-in-Err-clause-raised
returns-in-Err-clause-raised g c =
    let e = c.commit_crowded.ensures in
    raises_run (g.T.Turns.tells c.args.door.now) (g.T.Turns.tells c.commit_crowded.new.door) (fault_in c.commit_crowded.result) 1 1 (g.N.Naming.start.geometry.inodes + 3) (omega arith) (omega arith) e.ran

pub returns-clause-raised : goal.returns-clause-raised
returns-clause-raised g c =
    let e = c.commit_crowded.ensures in
    let had = g.T.Turns.tells c.args.door.now in
    let mid = g.T.Turns.tells c.commit_crowded.new.door in
    let inodes = g.N.Naming.start.geometry.inodes in
    raises_then had mid (g.T.Turns.tells c.make_space.new.door) 1 (inodes + 2) (inodes + 3) (omega arith) e.telling (raises_run had mid (fault_in c.commit_crowded.result) 1 1 1 (omega arith) (omega arith) e.ran) c.make_space.ensures.raised
