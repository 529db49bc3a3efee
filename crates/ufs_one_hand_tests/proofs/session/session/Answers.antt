use Rattle.std.proofs.Common.{sym, subst}
use Rattle.ufs_one_hand.specs.OneHand.{IsStart}
use Rattle.ufs_one_hand_tests.proofs.Small.{starts}
use Rattle.ufs_one_hand_tests.proofs.session.session.Goals as goal

pub begin-hand-requires-clause-start : goal.begin-hand-requires-clause-start
begin-hand-requires-clause-start g c = subst IsStart (sym c.requires.start) starts

pub returns-clause-entries : goal.returns-clause-entries
returns-clause-entries g c = c.close.ensures.tickets _ c.failed-fourth.ensures.session

pub close-requires : goal.close-requires
close-requires g c = record { session = (_, c.failed-fourth.ensures.session, c.failed-fourth.ensures.each) }
