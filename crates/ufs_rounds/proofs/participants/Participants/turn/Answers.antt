use Rattle.std.proofs.Common.{subst}
use Rattle.ufs_rounds.specs.Numbers.{IsThere}
use Rattle.ufs_rounds.proofs.participants.Participants.turn.Goals as goal

pub turn_of_client-requires-clause-there : goal.turn_of_client-requires-clause-there
turn_of_client-requires-clause-there g c = subst (IsThere g.N.Naming.start) c.in-Client.is c.requires.there

pub turn_of_worker-requires-clause-there : goal.turn_of_worker-requires-clause-there
turn_of_worker-requires-clause-there g c = subst (IsThere g.N.Naming.start) c.in-Worker.is c.requires.there
