use Rattle.std.proofs.Common.{◌≡◌, ◌<◌, ◌≤◌, ◌*◌, ℕ, take, slice_index}
use Rattle.ufs_load.specs.Plan.{load_of}
use Rattle.ufs_load.proofs.totals.totals_of.Given as goal

abbrev pub invariant-loop-load : goal.invariant-loop-load
invariant-loop-load l = record {
  values : (w : ℕ) → w < 256 → slice_index l.totals w ≡ load_of (take l.load-index l.loads) w;
  small : (w : ℕ) → w < 256 → slice_index l.totals w ≤ 4294967295 * l.load-index;
}
