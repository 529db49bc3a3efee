-- What the tests keep of a store of 256 blocks, a file and a pool: what each call of a file asks.
use Rattle.std.specs.Prelude.{ℕ, ◌≡◌, ◌<◌, ◌≤◌, ◌-◌, true}
use Rattle.std.specs.FinSet as set
use Rattle.ufs_bitmap.specs.Blocks.{BlockSet}
use Rattle.ufs_bitmap.specs.Space.{Space}
use Rattle.ufs_bitmap.specs.Taking.{IsApart, has}
use Rattle.ufs_file_commits.specs.State.{DurableState, IsNoted, blocks_held}
use Rattle.ufs_extent.specs.Runs.{blocks_from}
use Rattle.ufs_layout.specs.declared.geometry.Geometry.{Geometry}
use Rattle.ufs_store.specs.Blocks.{AreApart}
use Rattle.ufs_store.specs.State.{StoreState, geometry_of_store}

abbrev pub small : Geometry
small = record { blocks = 256; inodes = 32; journal = 64 }

-- each block of the data area is free
abbrev pub all_free : Space
all_free = record { first = 14; blocks = 256; free = set.from_list (blocks_from 14 (256 - 14)) }

-- a block of the data area
abbrev pub IsHere : ℕ → Type 0
IsHere block = (14 ≤ block) × (block < 256)

pub record IsReady (s : StoreState) (f : DurableState) (pool : BlockSet) : Type 0 where
  pub geometry : geometry_of_store s ≡ small
  pub first : s.unassigned.first ≡ 14
  pub blocks : s.unassigned.blocks ≡ 256
  pub number : f.file.file ≡ 1
  pub inode : f.file.inode ≡ 2
  pub noted : IsNoted f
  pub free_here : (block : ℕ) → set.contains s.unassigned.free block ≡ true → IsHere block
  pub pool_here : (block : ℕ) → set.contains pool block ≡ true → IsHere block
  pub held_here : (block : ℕ) → has (blocks_held f) block ≡ true → IsHere block
  pub apart : AreApart pool s.unassigned.free
  pub from_pool : IsApart pool (blocks_held f)
  pub from_free : IsApart s.unassigned.free (blocks_held f)
