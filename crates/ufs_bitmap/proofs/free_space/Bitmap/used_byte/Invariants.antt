use Rattle.std.proofs.Common.{◌≡◌, ℕ, ◌+◌, ◌*◌, ◌<◌, ◌≤◌}
use Rattle.std.specs.Int.{bit_at}
use Rattle.ufs_bitmap.specs.Space.{used_bit}
use Rattle.ufs_bitmap.proofs.free_space.Bitmap.used_byte.Given as goal

abbrev pub invariant-loop-bit : goal.invariant-loop-bit
invariant-loop-bit l = record {
  done : (i : ℕ) → i < l.bit → bit_at l.byte i ≡ used_bit l.self (8 * l.at + i);
  open_still : (i : ℕ) → l.bit ≤ i → bit_at l.byte i ≡ 0;
}
