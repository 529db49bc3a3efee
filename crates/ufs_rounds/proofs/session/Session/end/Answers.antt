use Rattle.std.proofs.Common.{List, map, ap, sym, subst}
use Rattle.std.specs.declared.alloc.Global.{Global}
use Rattle.std.specs.declared.vec.Vec.{Vec}
use Rattle.ufs_caller.specs.Callers.{entries_in}
use Rattle.ufs_caller.specs.declared.told.Told.{Told}
use Rattle.ufs_gathered.specs.Gathered.{AreHome}
use Rattle.ufs_model.specs.declared.data.Entry.{Entry}
use Rattle.ufs_rounds.specs.Made.{AreAllMadeThere}
use Rattle.ufs_rounds.specs.Scripts.{lists_of}
use Rattle.ufs_rounds.proofs.session.Session.end.Goals as goal

pub finish_rest-told-requires-clause-formed : goal.finish_rest-told-requires-clause-formed
finish_rest-told-requires-clause-formed g c = c.args.self.formed

pub finish_rest-told-requires-clause-its : goal.finish_rest-told-requires-clause-its
finish_rest-told-requires-clause-its g c = c.args.self.its

pub finish_rest-told-requires-clause-share : goal.finish_rest-told-requires-clause-share
finish_rest-told-requires-clause-share g c = c.args.self.part

pub finish_rest-told-requires-clause-home : goal.finish_rest-told-requires-clause-home
finish_rest-told-requires-clause-home g c = (map (λ t. entries_in t.items) c.gather-rest.result.told.items, c.gather-rest.ensures.home)

pub returns-clause-finished : goal.returns-clause-finished
returns-clause-finished g c =
    let rest = c.gather-rest.result in
    c.finish_rest-told.ensures.finished (lists_of c.args.self.participants.clients.items) (subst (λ (lists : List (List Entry)). AreHome lists rest.clients.items) c.gather-rest.ensures.told c.gather-rest.ensures.home)

pub returns-clause-made : goal.returns-clause-made
returns-clause-made g c = subst (λ (told : List (Vec Told Global)). AreAllMadeThere g.N.Naming.start (map (λ (t : Vec Told Global). t.items) told)) (sym (ap (λ (v : Vec (Vec Told Global) Global). v.items) c.finish_rest-told.ensures.told)) c.gather-rest.ensures.made
