use Rattle.std.proofs.Common.{◌≡◌, ℕ, ◌≤◌, ◌-◌, ◌&&◌}
use Rattle.std.specs.FinSet as set
use Rattle.ufs_bitmap.specs.Space.{is_between, is_clear}
use Rattle.ufs_bitmap.proofs.free_space.Bitmap.from_bytes.Given as goal

abbrev pub invariant-loop-block : goal.invariant-loop-block
invariant-loop-block l = record {
  room : l.blocks ≤ l.free.limit;
  not_past : l.block - l.first ≤ l.blocks - l.first;
  so_far : (b : ℕ) → set.contains l.free.blocks b ≡ (is_between l.first l.block b && is_clear l.bytes b);
}
