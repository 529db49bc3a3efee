use Rattle.std.proofs.Common.{sym, subst}
use Rattle.ufs_hand.specs.Session.{CanBegin}
use Rattle.ufs_one_hand_tests.specs.TwoFiles.{two_files}
use Rattle.ufs_one_hand_tests.proofs.TwoFiles.{starts}
use Rattle.ufs_one_hand_tests.proofs.reading.open.Goals as goal

pub open-requires : goal.open-requires
open-requires g c = subst CanBegin (sym c.picked-parts.ensures) (c.starts_can_begin.ensures two_files starts)
