use Rattle.std.proofs.Common.{sym, arith}
use Rattle.std.proofs.lemmas.List.{length-take-le}
use Rattle.ufs_log_tests.proofs.logs.is_birth.Goals as goal

pub slice_bounds-eq-end : goal.slice_bounds-eq-end
slice_bounds-eq-end c = sym (length-take-le 53 c.args.bytes.now (omega arith))
