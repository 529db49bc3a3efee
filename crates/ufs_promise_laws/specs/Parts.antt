-- What a server has whose tree is on a disk, and whose each block is.
use Rattle.std.specs.Prelude.{ℕ, ◌≡◌, ◌⊎◌, List, [], length, true, Some, unwrap_or}
use Rattle.std.specs.Ordering.{nat_cmp}
use Rattle.std.specs.FinMap as map
use Rattle.std.specs.FinSet as set
use Rattle.ufs_bitmap.specs.Blocks.{BlockSet}
use Rattle.ufs_bitmap.specs.Taking.{has}
use Rattle.ufs_dir_tree.specs.DirTable.{blocks_at}
use Rattle.ufs_file.specs.Hand.{FileState}
use Rattle.ufs_files.specs.Files.{Files}
use Rattle.ufs_ilog.specs.Deltas.{fresh_log}
use Rattle.ufs_names.specs.NamesPart.{NamesPart}
use Rattle.ufs_file_commits.specs.State.{CommitState, DurableState, blocks_held, state_of}

-- what is known of files' commits, by number
abbrev pub Commits : Type 0
Commits = map.FinMap nat_cmp CommitState

pub record Parts : Type 0 where
  pub names : NamesPart
  pub files : Files
  -- what is known of the commits of each file that changed since its last one
  pub commits : Commits
  -- free blocks, of which files take theirs
  pub pool : BlockSet
  -- the blocks that directories took since the last commit of names: they are to be zeros before it
  pub fresh : List ℕ
  -- the blocks that directories and removed files dropped: nobody's, since a crash may still give them back
  pub dropped : BlockSet

-- ---- files

-- with nothing to commit
abbrev pub committed_as : FileState → CommitState
committed_as f = record { log = fresh_log f.inode f.extents (length f.content.bytes); dropped = [] }

-- a file of which nothing is told is committed as it is
abbrev pub durable_in : Commits → FileState → DurableState
durable_in commits f = state_of f (unwrap_or (map.get commits f.file) (committed_as f))

-- with this file in the place of the one of its number
abbrev pub with_file : DurableState → BlockSet → Parts → Parts
with_file f pool p = record p {
  files = map.insert p.files f.file.file f.file;
  commits = map.insert p.commits f.file.file (record { log = f.log; dropped = f.dropped });
  pool = pool;
}

-- ---- whose a block is

pub data Owner : Type 0 where
  -- the file of this number: its blocks, and those that it dropped since its last commit
  OneFile : ℕ → Owner
  -- the server's free blocks
  ThePool : Owner
  -- the store's
  Unassigned : Owner
  -- directories, and what they and removed files dropped
  TheNames : Owner

-- one of the files here has the block
pub record FileOwns (p : Parts) (file block : ℕ) : Type 0 where
  pub hand : FileState
  pub here : map.get p.files file ≡ Some hand
  pub held : has (blocks_held (durable_in p.commits hand)) block ≡ true

-- a directory has it, or had it
abbrev pub NamesOwn : Parts → ℕ → Type 0
NamesOwn p block = (has p.fresh block ≡ true) ⊎ (set.contains p.dropped block ≡ true) ⊎ ((dir : ℕ) × (has (blocks_at p.names.tree.dirs dir) block ≡ true))

abbrev pub Owns : Parts → BlockSet → Owner → ℕ → Type 0
Owns p unassigned (OneFile file) block = FileOwns p file block
Owns p unassigned ThePool block = set.contains p.pool block ≡ true
Owns p unassigned Unassigned block = set.contains unassigned block ≡ true
Owns p unassigned TheNames block = NamesOwn p block
