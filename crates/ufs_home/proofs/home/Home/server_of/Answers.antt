use Rattle.std.proofs.Common.{refl}
use Rattle.ufs_home.proofs.Stating.{named_there}
use Rattle.ufs_home.proofs.home.Home.server_of.Goals as goal

pub returns-in-Worker-clause-there : goal.returns-in-Worker-clause-there
returns-in-Worker-clause-there g c = named_there c.self.inside.workers g.N.Naming.start c.self.inside.owners.files c.self.inside.boxes.items c.self.invariant c.args.file c.in-Worker.worker _ c.in-Worker.ensures refl

pub returns-in-Going-clause-there : goal.returns-in-Going-clause-there
returns-in-Going-clause-there g c = named_there c.self.inside.workers g.N.Naming.start c.self.inside.owners.files c.self.inside.boxes.items c.self.invariant c.args.file c.in-Going.to _ c.in-Going.ensures refl
