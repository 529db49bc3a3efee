use Rattle.std.proofs.Common.{sym}
use Rattle.ufs_held_names.proofs.After.{alone_seen, seen_noted}
use Rattle.ufs_held_names.proofs.held_names.HeldNames.into_parts.Goals as goal

pub returns-clause-noted : goal.returns-clause-noted
returns-clause-noted g c = sym (seen_noted c.self.inside.noted c.self.inside.right c.self.invariant.0 c.args.self c.self.view_is)

pub returns-clause-hand : goal.returns-clause-hand
returns-clause-hand g c = alone_seen c.self.inside.noted c.self.inside.right c.self.invariant.0 c.args.self c.self.view_is
