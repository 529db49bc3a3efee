use Rattle.ufs_ledger.proofs.States.{homes, begins}
use Rattle.ufs_ledger.proofs.laws.checkpoint_law.Goals as goal

pub returns : goal.returns
returns c = record {
  home = λ state l image whole none used is part. homes c.args.sectors state l image whole none used is part;
  quietly = λ l home new bytes may. (begins c.args.sectors l home new bytes may.whole may.left may.folds may.reads may.later may.free may.in_use may.spelled may.geometry).0;
  anew = λ l home new bytes may. (begins c.args.sectors l home new bytes may.whole may.left may.folds may.reads may.later may.free may.in_use may.spelled may.geometry).1;
  good = λ l home new bytes may. (begins c.args.sectors l home new bytes may.whole may.left may.folds may.reads may.later may.free may.in_use may.spelled may.geometry).2;
}
