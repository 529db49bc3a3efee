use Rattle.std.proofs.Common.{ℕ, subst}
use Rattle.ufs_caller.specs.Hands.{HasBoth}
use Rattle.ufs_caller_tests.proofs.session.at_home.Goals as goal

pub returns : goal.returns
returns g c = let h = c.into_parts-hand.ensures.home in (h.self, h.before, subst (λ (n : ℕ). HasBoth n h.self h.before c.into_parts-hand.result.0) c.requires.first h.both)
