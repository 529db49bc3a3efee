use Rattle.ufs_file_commits.specs.State.{state_of}
use Rattle.ufs_held.proofs.After.{alone}
use Rattle.ufs_held.proofs.held.HeldFile.into_hand.Goals as goal

pub returns-clause-alone : goal.returns-clause-alone
returns-clause-alone g c = alone (state_of c.self.inside.hand c.self.inside.commits) c.self.inside.right c.self.invariant.0 c.args.self c.self.view_is
