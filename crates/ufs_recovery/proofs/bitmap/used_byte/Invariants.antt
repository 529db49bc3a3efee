use Rattle.std.proofs.Common.{◌≡◌, ℕ, ◌+◌, ◌<◌, ◌≤◌}
use Rattle.std.specs.Int.{bit_at}
use Rattle.ufs_recovery.specs.Marks.{bit_of}
use Rattle.ufs_recovery.proofs.bitmap.used_byte.Given as goal

abbrev pub invariant-loop-bit : goal.invariant-loop-bit
invariant-loop-bit l = record {
  done : (i : ℕ) → i < l.bit → bit_at l.byte i ≡ bit_of l.taken (l.first + i);
  open_still : (i : ℕ) → l.bit ≤ i → bit_at l.byte i ≡ 0;
}
