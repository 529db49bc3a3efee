use Rattle.std.proofs.Common.{ap}
use Rattle.ufs_file.specs.Hand.{FileState}
use Rattle.ufs_file_tests.proofs.rows.Play.start.Goals as goal

pub invariant_of-result : goal.invariant_of-result
invariant_of-result c = record {
  number = ap (λ (f : FileState). f.file) c.in_ok-file.ensures.empty;
  apart = c.in_ok-file.ensures.apart c.in_ok-pool.pool;
}
