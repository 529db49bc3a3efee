-- A file, and what of it is committed.
use Rattle.std.specs.Prelude.{◌≡◌, ℕ, List, [], ◌++◌, length, true, Some}
use Rattle.std.specs.List.{slice_get}
use Rattle.ufs_bitmap.specs.Taking.{IsApart, set_of}
use Rattle.ufs_extent.specs.declared.Run.{Run}
use Rattle.ufs_extent.specs.Runs.{blocks_of}
use Rattle.ufs_file.specs.Content.{cleaned}
use Rattle.ufs_file.specs.Hand.{FileState, whole_as}
use Rattle.ufs_ilog.specs.Deltas.{FileLog}

-- what is known of a file's commits
pub record CommitState : Type 0 where
  -- what its inode has since the last commit, and what it is to have
  pub log : FileLog
  -- the blocks that it dropped since then
  pub dropped : List Run

-- a file, with what is known of its commits
pub record DurableState : Type 0 where
  pub file : FileState
  pub log : FileLog
  pub dropped : List Run

abbrev pub state_of : FileState → CommitState → DurableState
state_of f c = record { file = f; log = c.log; dropped = c.dropped }

-- the same, with these bytes, all of them in memory
abbrev pub whole_of : List ℕ → DurableState → DurableState
whole_of bytes f = record f { file = whole_as bytes f.file }

-- its blocks, and behind them those that it dropped
abbrev pub blocks_held : DurableState → List ℕ
blocks_held f = blocks_of f.file.extents ++ blocks_of f.dropped

-- The log notes the file as it is, and each of its blocks has a mark, and one that tells whether it is in memory, as what was
-- written is. None of those that it dropped is its own, and none of its own stands twice.
pub record IsNoted (f : DurableState) : Type 0 where
  pub inode : f.log.inode ≡ f.file.inode
  pub runs : f.log.noted.runs ≡ f.file.extents
  pub size : f.log.noted.size ≡ length f.file.content.bytes
  pub marks : length f.file.content.dirty ≡ length (blocks_of f.file.extents)
  pub held : length f.file.content.there ≡ length f.file.content.dirty
  pub written : (place : ℕ) → slice_get f.file.content.dirty place ≡ Some true → slice_get f.file.content.there place ≡ Some true
  pub apart : IsApart (set_of f.dropped) (blocks_of f.file.extents)

-- with no block marked
abbrev pub file_cleaned : FileState → FileState
file_cleaned f = record f { content = cleaned f.content }

-- once it is committed
abbrev pub file_committed : DurableState → DurableState
file_committed f = record { file = file_cleaned f.file; log = record (f.log) { committed = f.log.noted }; dropped = [] }
