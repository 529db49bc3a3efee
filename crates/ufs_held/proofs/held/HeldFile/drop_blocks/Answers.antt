use Rattle.std.proofs.Common.{ap, ◌∙◌}
use Rattle.ufs_file_commits.specs.State.{DurableState, state_of}
use Rattle.ufs_held.proofs.After.{alone, seen_value}
use Rattle.ufs_held.proofs.held.HeldFile.drop_blocks.Goals as goal

pub returns-clause-extents : goal.returns-clause-extents
returns-clause-extents g c =
    c.drop_blocks.ensures ∙ ap (λ (q : DurableState). q.file.extents) (seen_value (state_of c.self.inside.hand c.self.inside.commits) c.self.inside.right c.self.invariant.0 c.args.self c.self.view_is)

pub returns-clause-quarantine : goal.returns-clause-quarantine
returns-clause-quarantine g c = ap (λ (q : DurableState). q.dropped) (seen_value (state_of c.self.inside.hand c.self.inside.commits) c.self.inside.right c.self.invariant.0 c.args.self c.self.view_is)

pub returns-clause-hand : goal.returns-clause-hand
returns-clause-hand g c = alone (state_of c.self.inside.hand c.self.inside.commits) c.self.inside.right c.self.invariant.0 c.args.self c.self.view_is
