use Rattle.std.proofs.Common.{sym}
use Rattle.ufs_file_commits.specs.State.{state_of}
use Rattle.ufs_held.proofs.After.{alone, seen_value}
use Rattle.ufs_held.proofs.held.HeldFile.into_parts.Goals as goal

pub returns-clause-value : goal.returns-clause-value
returns-clause-value g c = sym (seen_value (state_of c.self.inside.hand c.self.inside.commits) c.self.inside.right c.self.invariant.0 c.args.self c.self.view_is)

pub returns-clause-hand : goal.returns-clause-hand
returns-clause-hand g c = alone (state_of c.self.inside.hand c.self.inside.commits) c.self.inside.right c.self.invariant.0 c.args.self c.self.view_is
