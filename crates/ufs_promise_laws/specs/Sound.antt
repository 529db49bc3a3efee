-- What holds of a server's parts over a disk of this form, whether the disk is visible or not.
use Rattle.std.specs.Prelude.{ℕ, ◌≡◌, ◌+◌, length, nat_eq, true, false, Some, None}
use Rattle.std.specs.List.{IsDistinct}
use Rattle.std.specs.FinMap as map
use Rattle.std.specs.FinSet as set
use Rattle.ufs_bitmap.specs.Blocks.{BlockSet}
use Rattle.ufs_bitmap.specs.Taking.{has}
use Rattle.ufs_dir_tree.specs.DirTable.{blocks_at}
use Rattle.ufs_file.specs.Hand.{FileState}
use Rattle.ufs_layout.specs.Areas.{is_inode_number}
use Rattle.ufs_layout.specs.declared.geometry.Geometry.{Geometry}
use Rattle.ufs_ledger.specs.Ledger.{IsDataBlock}
use Rattle.ufs_names.specs.Calls.{HaveInodes}
use Rattle.ufs_file_commits.specs.State.{DurableState, IsNoted, blocks_held}
use Rattle.ufs_promise_laws.specs.Parts.{Owner, Owns, Parts, durable_in}

-- A file has its log in step with it, no block twice, and an inode of the image.
pub record IsFileSound (g : Geometry) (f : DurableState) : Type 0 where
  pub noted : IsNoted f
  pub once : IsDistinct nat_eq (blocks_held f)
  pub inode : is_inode_number g f.file.inode ≡ true

-- No block is two owners', and each is of the data area. The image has the table's inodes; each file has the one that the names
-- tell, and nothing is known of the commits of a file that isn't here. No directory has a block that is dropped.
pub record IsSoundServer (g : Geometry) (unassigned : BlockSet) (p : Parts) : Type 0 where
  pub apart : (one other : Owner) (block : ℕ) → Owns p unassigned one block → Owns p unassigned other block → one ≡ other
  pub inside : (owner : Owner) (block : ℕ) → Owns p unassigned owner block → IsDataBlock g block
  pub each : (file : ℕ) (f : FileState) → map.get p.files file ≡ Some f → IsFileSound g (durable_in p.commits f)
  pub inodes : HaveInodes p.names.held p.files
  pub known : (file : ℕ) → map.get p.files file ≡ None → map.get p.commits file ≡ None
  pub counted : length p.names.tree.dirs.dirs ≡ g.inodes + 1
  pub parted : (dir block : ℕ) → set.contains p.dropped block ≡ true → has (blocks_at p.names.tree.dirs dir) block ≡ false
