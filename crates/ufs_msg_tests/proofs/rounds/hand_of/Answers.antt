use Rattle.std.proofs.Common.{ℕ, subst}
use Rattle.std.proofs.lemmas.Bool.{eqb-true}
use Rattle.ufs_msg.specs.Requests.{HasClientAlone}
use Rattle.ufs_msg_tests.proofs.rounds.hand_of.Goals as goal

pub returns : goal.returns
returns g c =
    let asked = c.into_parts-hand.ensures.asked in
    (asked.self, subst (λ (client : ℕ). HasClientAlone client asked.self c.into_parts-hand.result.0) (eqb-true c.into_parts-hand.result.1.client c.args.client c.holds.ensures) asked.alone)
