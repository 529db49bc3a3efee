-- Files by their numbers, and the trees and blocks that are theirs.
use Rattle.std.specs.Prelude.{ℕ, ◌≡◌, ◌≢◌, List, [], length, true, false, Option, Some, None}
use Rattle.std.specs.Ordering.{nat_cmp}
use Rattle.std.specs.FinMap as map
use Rattle.ufs_bitmap.specs.Blocks.{BlockSet}
use Rattle.ufs_bitmap.specs.Taking.{IsApart, has}
use Rattle.ufs_extent.specs.Runs.{blocks_of}
use Rattle.ufs_file.specs.Hand.{FileState, IsFileOf}
use Rattle.ufs_model.specs.PosixTree.{PosixTree}

-- files by number
abbrev pub Files : Type 0
Files = map.FinMap nat_cmp FileState

-- each stands under its own number
abbrev pub AreNumbered : Files → Type 0
AreNumbered files = (f : ℕ) (s : FileState) → map.get files f ≡ Some s → s.file ≡ f

-- Each stands under its own number, and may be that part of the tree.
abbrev pub AreFilesOf : Files → PosixTree → Type 0
AreFilesOf files t = (f : ℕ) (s : FileState) → map.get files f ≡ Some s → (s.file ≡ f) × IsFileOf s t

-- The file stands under its own number, and the tree has as many bytes for it.
pub record IsSizedAs (t : PosixTree) (f : ℕ) (s : FileState) : Type 0 where
  pub number : s.file ≡ f
  pub bytes : List ℕ
  pub here : map.get t.bytes f ≡ Some bytes
  pub size : length bytes ≡ length s.content.bytes

-- So does each: of its bytes no more than their number has to be the tree's.
abbrev pub AreSizedAs : Files → PosixTree → Type 0
AreSizedAs files t = (f : ℕ) (s : FileState) → map.get files f ≡ Some s → IsSizedAs t f s

-- the blocks of the file of this number
abbrev pub blocks_at : Files → ℕ → List ℕ
blocks_at files f = of (map.get files f)
  where
    of : Option FileState → List ℕ
    of None = []
    of (Some s) = blocks_of s.extents

-- No block of a file is in the pool or stands twice, and no two files have a block in common.
pub record AreApart (files : Files) (pool : BlockSet) : Type 0 where
  pub each : (f : ℕ) → IsApart pool (blocks_at files f)
  pub pairwise : (f g b : ℕ) → f ≢ g → has (blocks_at files f) b ≡ true → has (blocks_at files g) b ≡ false

-- a file has the block
abbrev pub HasBlock : Files → ℕ → Type 0
HasBlock files b = (f : ℕ) × (has (blocks_at files f) b ≡ true)
