-- What a thread has that takes turns.
use Rattle.std.specs.Prelude.{ℕ, ◌≡◌, [], ◌∷◌}
use Rattle.ufs_bitmap.specs.Blocks.{BlockSet}
use Rattle.ufs_joint.specs.Cells.{View}
use Rattle.ufs_turns.specs.Lent.{IsBare}

-- The hand has this pool, and nothing else.
pub record IsSeat (number : ℕ) (pool : BlockSet) (v : View) : Type 0 where
  pub bare : IsBare v
  pub clients : v.clients ≡ []
  pub pools : v.pools ≡ (number, pool) ∷ []
