use Rattle.std.proofs.Common.{ap, ◌∙◌}
use Rattle.ufs_noted.specs.Noted.{Noted}
use Rattle.ufs_held_names.proofs.After.{seen_noted}
use Rattle.ufs_held_names.proofs.held_names.HeldNames.next_number.Goals as goal

pub returns : goal.returns
returns g c = c.next_number.ensures ∙ ap (λ (n : Noted). n.names.next) (seen_noted c.self.inside.noted c.self.inside.right c.self.invariant.0 c.args.self.now c.self.view_is)
