use Rattle.std.proofs.Common.{ap, length, ◌∙◌}
use Rattle.ufs_file_commits.specs.State.{DurableState, state_of}
use Rattle.ufs_held.proofs.After.{seen_value}
use Rattle.ufs_held.proofs.held.HeldFile.len.Goals as goal

pub returns : goal.returns
returns g c =
    c.size.ensures.size ∙ ap (λ (q : DurableState). length q.file.content.bytes) (seen_value (state_of c.self.inside.hand c.self.inside.commits) c.self.inside.right c.self.invariant.0 c.args.self.now c.self.view_is)
