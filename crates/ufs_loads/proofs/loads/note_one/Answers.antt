use Rattle.ufs_loads.proofs.Noting.{one_noted}
use Rattle.ufs_loads.proofs.loads.note_one.Goals as goal

pub returns-clause-noted : goal.returns-clause-noted
returns-clause-noted c = one_noted c.args.noted.now.entries c.insert.new.self.entries c.args.load c.in-Ok.ensures.updates.0
