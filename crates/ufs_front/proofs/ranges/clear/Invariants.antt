use Rattle.std.proofs.Common.{◌≡◌, ◌++◌, drop, replicate}
use Rattle.ufs_front.proofs.ranges.clear.Given as goal

abbrev pub invariant-loop-byte : goal.invariant-loop-byte
invariant-loop-byte l = l.buf ≡ replicate l.byte-index 0 ++ drop l.byte-index l.fn.buf
