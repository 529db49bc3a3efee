use Rattle.std.proofs.Common.{sym, subst}
use Rattle.ufs_store.specs.State.{StoreState}
use Rattle.ufs_turns.specs.HeldStore.{IsHeldStore}
use Rattle.ufs_gathered.proofs.ending.end.Goals as goal

pub close_gathered-requires-clause-back : goal.close_gathered-requires-clause-back
close_gathered-requires-clause-back g c = let a = c.args.actors in (a.names, a.files.items, a.pools, a.clients.items, c.gather-gathered.ensures.all, c.requires.back)

pub returns-clause-ended : goal.returns-clause-ended
returns-clause-ended g c lists at_home = let a = c.args.actors in c.close_gathered.ensures.ended a.names a.files.items a.pools a.clients.items c.gather-gathered.ensures.all c.requires.back lists at_home

pub returns-clause-store : goal.returns-clause-store
returns-clause-store g c = subst (λ (s : StoreState). IsHeldStore g.N.Naming.start g.N.Naming.origin g.S.Door.visible g.S.Door.keeps c.args.actors.store s) (sym c.close_gathered.ensures.same) c.gather-gathered.ensures.its
