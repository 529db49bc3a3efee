use Rattle.std.proofs.Common.{◌≡◌, ◌+◌, ◌-◌, ◌<◌, ◌≤◌, ℕ, get_or}
use Rattle.std.specs.Vec.{vec_len, vec_capacity}
use Rattle.ufs_dirs.proofs.free.put_block.Given as goal

abbrev pub invariant-loop-k : goal.invariant-loop-k
invariant-loop-k l = record {
  size : vec_len l.free ≡ vec_len l.fn.free + l.k;
  room : vec_capacity l.fn.free ≤ vec_capacity l.free;
  others : (j : ℕ) → j < vec_len l.fn.free → get_or l.free.items j 0 ≡ get_or l.fn.free.items j 0;
  block : (j : ℕ) → j < l.k → get_or l.free.items (vec_len l.fn.free + j) 0 ≡ l.first + (63 - j);
}
