use Rattle.std.proofs.Common.{◌≡◌, ℕ, ◌+◌, ◌*◌, ◌<◌, get_or}
use Rattle.std.specs.Int.{bit_at}
use Rattle.ufs_recovery.specs.Marks.{bit_of}
use Rattle.ufs_recovery.proofs.bitmap.fill_bits.Given as goal

abbrev pub invariant-loop-at : goal.invariant-loop-at
invariant-loop-at l = (k i : ℕ) → k < l.at → i < 8 → bit_at (get_or l.bytes k 0) i ≡ bit_of l.taken (l.first + 8 * k + i)
