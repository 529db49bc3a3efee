use Rattle.std.proofs.Common.{◌≡◌, ◌+◌, ◌*◌, ◌++◌, false}
use Rattle.std.specs.Prelude.{slice_index_or}
use Rattle.std.specs.List.{filter_map, range_with_len}
use Rattle.ufs_damage.specs.Taken.{bit_damage, bit_of}
use Rattle.ufs_damage.proofs.bitmap.push_bits.Given as goal

abbrev pub invariant-loop-k : goal.invariant-loop-k
invariant-loop-k l = l.list ≡ l.fn.list ++ filter_map (λ k. bit_damage (bit_of l.bytes k) (slice_index_or l.taken (4096 * l.sector + k) false) (4096 * l.sector + k)) (range_with_len 0 l.k)
