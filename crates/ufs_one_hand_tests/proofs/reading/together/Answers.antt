use Rattle.std.proofs.Common.{sym, subst}
use Rattle.std.specs.Ordering.{nat_cmp}
use Rattle.std.specs.FinMap as fin
use Rattle.ufs_one_hand.specs.OneHand.{IsStart}
use Rattle.ufs_one_hand_tests.proofs.TwoFiles.{starts}
use Rattle.ufs_one_hand_tests.proofs.reading.together.Goals as goal

pub begin-hand-requires-clause-start : goal.begin-hand-requires-clause-start
begin-hand-requires-clause-start g c = subst IsStart (sym c.requires.start) starts

pub read_file-requires : goal.read_file-requires
read_file-requires g c = record {
  start = c.requires.start;
  session = c.open_file-first.ensures.session;
  file = (fin.empty, fin.get-empty nat_cmp 0, c.open_file-first.ensures.apart fin.empty c.begin-hand.ensures.each);
  byte = c.requires.byte;
}

pub close-requires : goal.close-requires
close-requires g c = record { session = (_, c.read_file.ensures.session, c.read_file.ensures.apart fin.empty (c.open_file-first.ensures.apart fin.empty c.begin-hand.ensures.each)) }

pub returns : goal.returns
returns g c = record { entries = c.close.ensures.tickets _ c.read_file.ensures.session }
