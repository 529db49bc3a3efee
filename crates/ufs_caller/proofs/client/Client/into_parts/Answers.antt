use Rattle.std.proofs.Common.{subst}
use Rattle.std.specs.Vec.{vec_capacity}
use Rattle.ufs_caller.specs.Callers.{Caller, entries_in}
use Rattle.ufs_caller.specs.Hands.{IsHome}
use Rattle.ufs_caller.specs.Tied.{AreMadeThere}
use Rattle.ufs_caller.proofs.Beginnings.{place_home}
use Rattle.ufs_caller.proofs.client.Client.into_parts.Goals as goal

pub returns-clause-made : goal.returns-clause-made
returns-clause-made g c = subst (λ (a : Caller). AreMadeThere g.N.Naming.start a.number a.told) c.self.view_is c.self.invariant.0.made

pub returns-clause-home : goal.returns-clause-home
returns-clause-home g c =
    let s = c.self.inside in
    subst (λ (a : Caller). IsHome a.number (entries_in a.told) a.fds s.hand) c.self.view_is
    (place_home g.N.Naming.start s.number s.told.items s.fds s.left.items s.left.items s.hand s.kept s.trip s.hints (vec_capacity s.told) c.self.invariant.0 c.args.self c.self.view_is c.requires.idle).0
