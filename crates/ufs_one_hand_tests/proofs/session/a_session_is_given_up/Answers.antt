use Rattle.std.proofs.Common.{sym, subst}
use Rattle.ufs_one_hand.specs.OneHand.{IsStart}
use Rattle.ufs_one_hand_tests.proofs.Small.{starts}
use Rattle.ufs_one_hand_tests.proofs.session.a_session_is_given_up.Goals as goal

pub abandon-requires : goal.abandon-requires
abandon-requires g c = subst IsStart (sym c.open-opened.ensures) starts
