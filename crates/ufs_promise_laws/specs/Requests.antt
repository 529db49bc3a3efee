-- How a request of the names leaves what a server has.
use Rattle.std.specs.Prelude.{ℕ, ◌≡◌, ◌⊎◌, ◌↔◌, List, [], ◌++◌, length, true, false, Some, None}
use Rattle.std.specs.FinMap as map
use Rattle.std.specs.FinSet as set
use Rattle.ufs_bitmap.specs.Blocks.{BlockSet}
use Rattle.ufs_bitmap.specs.Taking.{has}
use Rattle.ufs_file_commits.specs.State.{DurableState}
use Rattle.ufs_extent.specs.Runs.{blocks_of}
use Rattle.ufs_file.specs.Hand.{FileState}
use Rattle.ufs_files.specs.Files.{AreFilesOf}
use Rattle.ufs_model.specs.PosixTree.{PosixTree}
use Rattle.ufs_name_tree.specs.NameTable.{IsNameTable}
use Rattle.ufs_name_tree.specs.Notes.{GoesByNotes}
use Rattle.ufs_names.specs.Calls.{FilesGoOn, HaveInodes, no_bytes}
use Rattle.ufs_names.specs.NamesPart.{IsNamesPart}
use Rattle.ufs_names.specs.Space.{AreApart, HaveTheSame}
use Rattle.ufs_promise_laws.specs.Parts.{Parts, durable_in}
use Rattle.ufs_promise_laws.specs.Stored.{ArePartsOf}

-- A file without a byte, in whose inode stands what was committed last. What it dropped before is its own still; the blocks that it
-- had are the names' now.
abbrev pub emptied : DurableState → DurableState
emptied f = record {
  file = no_bytes f.file.file f.file.inode;
  log = record (f.log) { noted = record { runs = []; size = 0 } };
  dropped = f.dropped;
}

-- The file is as it was, with the same known of its commits, or was emptied.
abbrev pub StaysOrEmptied : Parts → Parts → FileState → FileState → Type 0
StaysOrEmptied p next old new =
    ((new ≡ old) × (durable_in next.commits new ≡ durable_in p.commits old))
    ⊎ ((new ≡ no_bytes old.file old.inode) × (durable_in next.commits new ≡ emptied (durable_in p.commits old)))

-- a file that is no more had dropped the block since its last commit
pub record HasGone (p next : Parts) (block : ℕ) : Type 0 where
  pub file : ℕ
  pub hand : FileState
  pub was : map.get p.files file ≡ Some hand
  pub gone : map.get next.files file ≡ None
  pub held : has (blocks_of (durable_in p.commits hand).dropped) block ≡ true

-- Names and files go on from one tree to the next, as the notes tell it. The directories were lent these blocks of the pool, which
-- are fresh now; and what they and the files gave back is dropped, with all that a file had dropped which is no more.
pub record IsNamesRequest (t u : PosixTree) (p next : Parts) (lent left : BlockSet) : Type 0 where
  pub before : ArePartsOf p t
  pub after : IsNamesPart next.names u
  pub files : AreFilesOf next.files u
  pub go_on : FilesGoOn t u p.files next.files
  pub inodes : HaveInodes next.names.held next.files
  pub was_table : IsNameTable p.names.tree
  pub table : IsNameTable next.names.tree
  pub counted : length next.names.tree.dirs.dirs ≡ length p.names.tree.dirs.dirs
  pub noted : GoesByNotes p.names.tree next.names.tree lent
  -- blocks
  pub pooled : (block : ℕ) → set.contains lent block ≡ true → set.contains p.pool block ≡ true
  pub together : HaveTheSame p.names.tree.dirs p.files lent next.names.tree.dirs next.files left
  pub apart : AreApart next.names.tree.dirs next.files left
  pub pool : (block : ℕ) → set.contains next.pool block ≡ true → (set.contains p.pool block ≡ true) × (set.contains lent block ≡ false)
  pub taken : List ℕ
  pub is_taken : (block : ℕ) → has taken block ≡ set.contains lent block
  pub fresh : next.fresh ≡ p.fresh ++ taken
  pub dropped : (block : ℕ) → (set.contains next.dropped block ≡ true) ↔ ((set.contains p.dropped block ≡ true) ⊎ ((set.contains left block ≡ true) ⊎ HasGone p next block))
  -- commits
  pub stay : (file : ℕ) (old new : FileState) → map.get p.files file ≡ Some old → map.get next.files file ≡ Some new → StaysOrEmptied p next old new
  pub unknown : (file : ℕ) → map.get p.files file ≡ None → map.get next.commits file ≡ None
  pub forgotten : (file : ℕ) → map.get next.files file ≡ None → map.get next.commits file ≡ None
