-- How an owner table keeps its counts.
use Rattle.std.specs.Prelude.{ℕ, List, ◌≡◌, ◌≤◌, ◌<◌, ◌+◌, ◌^◌, Some, true, length, slice_index}
use Rattle.std.specs.FinMap as map
use Rattle.ufs_owner.specs.declared.owner.Standing.{Standing}
use Rattle.ufs_owner.specs.Owners.{is_known, count_out, count_with}
use Rattle.ufs_owner.specs.Records.{Kept}

-- the counts are those of the files, and as many more files as are spared fit, in memory and in the counts
pub record AreKept (records : Kept) (spare out : ℕ) (workers : List ℕ) : Type 0 where
  pub known : (file : ℕ) (standing : Standing) → map.get records.files file ≡ Some standing → is_known standing ≡ true
  pub out_is : out ≡ count_out records.files
  pub length_is : length workers ≡ 256
  pub workers_are : (worker : ℕ) → worker < 256 → slice_index workers worker ≡ count_with worker records.files
  pub room : spare ≤ records.room
  pub in_range : out + spare < 2 ^ 32
