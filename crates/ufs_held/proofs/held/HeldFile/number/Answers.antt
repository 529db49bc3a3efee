use Rattle.std.proofs.Common.{ap, ◌∙◌}
use Rattle.ufs_file_commits.specs.State.{DurableState, state_of}
use Rattle.ufs_held.proofs.After.{seen_value}
use Rattle.ufs_held.proofs.held.HeldFile.number.Goals as goal

pub returns : goal.returns
returns g c =
    c.file.ensures ∙ ap (λ (q : DurableState). q.file.file) (seen_value (state_of c.self.inside.hand c.self.inside.commits) c.self.inside.right c.self.invariant.0 c.args.self.now c.self.view_is)
