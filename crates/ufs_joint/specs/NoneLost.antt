-- No block is lost: what somebody had, somebody has.
use Rattle.std.specs.Prelude.{ℕ, ◌≡◌, true}
use Rattle.std.specs.FinSet as set
use Rattle.ufs_bitmap.specs.Blocks.{BlockSet}
use Rattle.ufs_bitmap.specs.Taking.{has}
use Rattle.ufs_dir_tree.specs.DirTable.{blocks_at}
use Rattle.ufs_file_commits.specs.State.{blocks_held}
use Rattle.ufs_hand_laws.specs.Owned.{Has}
use Rattle.ufs_promise_laws.specs.Parts.{FileOwns, Parts}
use Rattle.ufs_joint.specs.Cells.{FileCell, NamesCell, StoreCell, View}
use Rattle.ufs_joint.specs.Whole.{pooled}

-- Among whole parts somebody has the block: a file has it, or dropped it since its last commit; it is in the pool, or unassigned; a
-- directory has it; or the names dropped it.
pub data IsHad (p : Parts) (unassigned : BlockSet) (block : ℕ) : Type 0 where
  OfFile : (file : ℕ) → FileOwns p file block → IsHad p unassigned block
  OfPool : set.contains p.pool block ≡ true → IsHad p unassigned block
  IsFree : set.contains unassigned block ≡ true → IsHad p unassigned block
  IsDropped : set.contains p.dropped block ≡ true → IsHad p unassigned block
  OfDir : (dir : ℕ) → has (blocks_at p.names.tree.dirs dir) block ≡ true → IsHad p unassigned block

-- One of the hand's cells has it.
pub data HandHas (v : View) (block : ℕ) : Type 0 where
  InFile : (file : ℕ) (c : FileCell) → Has (file, c) v.files → has (blocks_held c.value) block ≡ true → HandHas v block
  InPool : set.contains (pooled v.pools) block ≡ true → HandHas v block
  InStore : (u : Unit {0}) (s : StoreCell) → Has (u, s) v.store → set.contains s.unassigned.free block ≡ true → HandHas v block
  InDropped : (u : Unit {0}) (c : NamesCell) → Has (u, c) v.names → set.contains c.dropped block ≡ true → HandHas v block
  InDir : (u : Unit {0}) (c : NamesCell) → Has (u, c) v.names → (dir : ℕ) → has (blocks_at c.value.tree.dirs dir) block ≡ true → HandHas v block
