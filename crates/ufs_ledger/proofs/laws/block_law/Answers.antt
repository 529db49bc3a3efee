use Rattle.ufs_ledger.proofs.States.{barrier_quiet, barrier_settles, writing, wrote, tried_to}
use Rattle.ufs_ledger.proofs.Joining.{joins, shrinks}
use Rattle.ufs_ledger.proofs.laws.block_law.Goals as goal

pub returns : goal.returns
returns c = record {
  barrier = λ old new l is no_more same. barrier_quiet c.args.sectors old new l is no_more same;
  settled = λ old new l is no_more same none settled. barrier_settles c.args.sectors old new l none is no_more same settled;
  fewer = λ state l dirs none is less covers. shrinks c.args.sectors state l dirs none is less covers;
  zeros = λ state l block whole none is data' free no_dir zeros. joins c.args.sectors state l block whole none is data' free no_dir zeros;
  write = λ old l block bytes image whole none used is may. writing c.args.sectors old l block bytes whole none used is may image;
  written = λ old new l block bytes whole none used is may. wrote c.args.sectors old l block bytes whole none used is may new;
  tried = λ old new l block bytes whole none used is may. tried_to c.args.sectors old l block bytes whole none used is may new;
}
