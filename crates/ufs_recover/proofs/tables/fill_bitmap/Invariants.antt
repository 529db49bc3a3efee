use Rattle.std.proofs.Common.{◌≡◌, ◌<◌, ◌+◌, ℕ, get_or}
use Rattle.ufs_image.specs.Formatted.{byte_below}
use Rattle.ufs_recover.proofs.tables.fill_bitmap.Given as goal

abbrev pub invariant-loop-i : goal.invariant-loop-i
invariant-loop-i l = (k : ℕ) → k < l.i → get_or l.bytes k 0 ≡ byte_below l.used (l.first + k)
