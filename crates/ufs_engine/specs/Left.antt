-- A disk that a store gives back.
use Rattle.std.specs.Prelude.{ℕ, ◌≡◌}
use Rattle.ufs_disk.specs.Moments.{Moments}
use Rattle.ufs_store.specs.State.{StoreState}

-- It is as the store had it.
pub record IsDiskOf {D : Type 0} (size : D → ℕ) (moments : D → Moments) (faults : D → ℕ) (s : StoreState) (disk : D) : Type 0 where
  pub sectors : size disk ≡ s.sectors
  pub seen : moments disk ≡ s.moments
  pub failed : faults disk ≡ s.faults
