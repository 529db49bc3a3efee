use Rattle.std.proofs.Common.{◌≡◌, ℕ, ◌+◌, ◌*◌, ◌<◌, get_or}
use Rattle.std.specs.Int.{bit_at}
use Rattle.ufs_bitmap.specs.Space.{used_bit}
use Rattle.ufs_bitmap.proofs.free_space.Bitmap.put_bytes.Given as goal

abbrev pub invariant-loop-at : goal.invariant-loop-at
invariant-loop-at l = (k i : ℕ) → k < l.at → i < 8 → bit_at (get_or l.bytes k 0) i ≡ used_bit l.self (8 * (l.from + k) + i)
