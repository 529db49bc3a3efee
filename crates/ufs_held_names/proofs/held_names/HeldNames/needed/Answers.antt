use Rattle.std.proofs.Common.{◌≡◌, subst}
use Rattle.std.specs.Prelude.{IfOk}
use Rattle.ufs_noted.specs.Noted.{Noted}
use Rattle.ufs_held_names.specs.Asked.{IsNeeded}
use Rattle.ufs_held_names.proofs.After.{seen_noted}
use Rattle.ufs_held_names.proofs.held_names.HeldNames.needed.Goals as goal

pub returns : goal.returns
returns g c =
    subst (λ (n : Noted). IfOk c.needed.result (IsNeeded n.names c.args.ask.now)) (seen_noted c.self.inside.noted c.self.inside.right c.self.invariant.0 c.args.self.now c.self.view_is) c.needed.ensures
