-- Blocks of directories, of files and of the pool, and why a request of names gets none.
use Rattle.std.specs.Prelude.{ℕ, ◌≡◌, ◌⊎◌, ◌↔◌, None, true, false, ⊤}
use Rattle.std.specs.FinSet as set
use Rattle.ufs_bitmap.specs.Blocks.{BlockSet}
use Rattle.ufs_bitmap.specs.Taking.{has}
use Rattle.ufs_dirs.specs.Directory.{has_block}
use Rattle.ufs_dir_tree.specs.DirTable.{DirTable, blocks_at, found_at}
use Rattle.ufs_dir_tree.specs.DirCalls as dir_calls
use Rattle.ufs_dir_tree.specs.DirCalls.{names_above, LacksRoom, LacksSpace}
use Rattle.ufs_files.specs.Files as file_set
use Rattle.ufs_files.specs.Files.{Files}
use Rattle.ufs_model.specs.Paths.{components}
use Rattle.ufs_model.specs.declared.data.Excuse.{Excuse}
use Rattle.ufs_model.specs.declared.data.Excuse.TheVariants as excuse
use Rattle.ufs_model.specs.declared.data.Op.{Op}
use Rattle.ufs_model.specs.declared.data.Op.TheVariants as op

-- ---- blocks

-- No block is of two of these: of a directory, of a file, and of the pool.
pub record AreApart (t : DirTable) (fs : Files) (pool : BlockSet) : Type 0 where
  pub dirs : dir_calls.IsApart t pool
  pub files : file_set.AreApart fs pool
  pub mixed : (i f b : ℕ) → has_block (blocks_at t i) b ≡ true → has (file_set.blocks_at fs f) b ≡ false

-- a directory, a file or the pool has the block
abbrev pub HasBlock : DirTable → Files → BlockSet → ℕ → Type 0
HasBlock t fs pool b = (set.contains pool b ≡ true) ⊎ (((i : ℕ) × (has_block (blocks_at t i) b ≡ true)) ⊎ file_set.HasBlock fs b)

-- Together they have the blocks that they had.
abbrev pub HaveTheSame : DirTable → Files → BlockSet → DirTable → Files → BlockSet → Type 0
HaveTheSame t fs pool t' fs' pool' = (b : ℕ) → HasBlock t' fs' pool' b ↔ HasBlock t fs pool b

-- ---- excuses

-- Why a request of names is excused. Want of memory has no cause, and what adds no name has no other
-- excuse.
abbrev pub IsCause : DirTable → BlockSet → Op → Excuse → Type 0
IsCause t pool request excuse.Memory = ⊤
IsCause t pool (op.OpenFile path read write creat excl trunc append) x = (found_at t (components path) ≡ None) × LacksSpace t pool (names_above (components path)) x
IsCause t pool (op.Mkdir path) x = (found_at t (components path) ≡ None) × LacksSpace t pool (names_above (components path)) x
IsCause t pool (op.Rename from to) x = (found_at t (components to) ≡ None) × LacksRoom t pool (names_above (components to)) x
IsCause t pool _ x = ⊥
