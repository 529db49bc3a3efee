-- No block is in two parts.
use Rattle.std.specs.Prelude.{ℕ, ◌≤◌, ◌≡◌, List}
use Rattle.ufs_hand_laws.specs.Owned.{total}
use Rattle.ufs_hand_laws.specs.Parts.{View, Start, uses}

-- all parts have the blocks that they began with, each as often
pub record AreBlocksApart (k : Start) (views : List View) : Type 0 where
  pub same : (b : ℕ) → total (uses b) views ≡ uses b k.view
  pub once : (b : ℕ) → uses b k.view ≤ 1
