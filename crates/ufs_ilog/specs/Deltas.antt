-- The states of a file that a log knows, and the delta between them.
use Rattle.std.specs.Prelude.{ℕ, ◌≡◌, ◌≢◌, ◌<◌, ◌≤◌, List, [], ◌∷◌, ◌++◌, length, take, map, slice_get}
use Rattle.ufs_extent.specs.declared.Run.{Run}
use Rattle.ufs_layout.specs.declared.inode.Extent.{Extent}
use Rattle.ufs_layout.specs.declared.records.LogRecord.{LogRecord}
use Rattle.ufs_layout.specs.declared.records.LogRecord.TheVariants.{Delta}

-- a file as its inode has it: its runs of blocks, and its size in bytes
pub record FileState : Type 0 where
  pub runs : List Run
  pub size : ℕ

-- the file's inode, its state as committed last, and its state as noted last
pub record FileLog : Type 0 where
  pub inode : ℕ
  pub committed : FileState
  pub noted : FileState

-- a log with nothing to commit
abbrev pub fresh_log : ℕ → List Run → ℕ → FileLog
fresh_log inode runs size = record { inode = inode; committed = record { runs = runs; size = size }; noted = record { runs = runs; size = size } }

abbrev pub extents_of : List Run → List Extent
extents_of runs = map (λ (r : Run). record { start = r.start; length = r.length }) runs

-- So many runs are the longest front that the two lists share.
pub record IsSharedFront (one other : List Run) (count : ℕ) : Type 0 where
  pub in_one : count ≤ length one
  pub in_other : count ≤ length other
  pub same : take count one ≡ take count other
  pub longest : count < length one → count < length other → slice_get one count ≢ slice_get other count

-- The one record that leads from the one state of a file to the other: it keeps the longest front that the two share, and
-- gives what the second has behind it.
pub record IsDelta (inode : ℕ) (before after : FileState) (records : List LogRecord) : Type 0 where
  pub keep : ℕ
  pub given : List Run
  pub front : IsSharedFront before.runs after.runs keep
  pub whole : take keep before.runs ++ given ≡ after.runs
  pub is : records ≡ Delta inode 1 after.size keep (extents_of given) ∷ []
