-- What a change of names leaves of the files, and how the disk stands on.
use Rattle.std.specs.Prelude.{ℕ, ◌≡◌, ◌≤◌, ◌⊎◌, List, [], length, true, false, Some, None}
use Rattle.std.specs.List.{list_any}
use Rattle.ufs_disk.specs.Disk.{Cell}
use Rattle.ufs_layout.specs.declared.geometry.Geometry.{Geometry}
use Rattle.ufs_model.specs.PosixTree.{PosixTree}
use Rattle.ufs_model.specs.History.{tree_after}
use Rattle.ufs_model.specs.declared.data.Entry.{Entry}
use Rattle.ufs_crash_laws.specs.Changes.{name_changes, names_after}
use Rattle.ufs_crash_laws.specs.Stored.{IsNamed}
use Rattle.ufs_image.specs.Catalog.{Catalog, IsInode, HasBlock}
use Rattle.ufs_image.specs.Folding.{with_committed_in}
use Rattle.ufs_ledger.specs.Ledger.{Stand, with_one, is_set_in}
use Rattle.ufs_ledger.specs.Kept.{Numbers, IsNumberedBy, IsStandKept}
use Rattle.ufs_ledger.specs.Laws.{StandsOn}
use Rattle.ufs_dir_tree.specs.Steps.{DirState, Step, after_all}
use Rattle.ufs_name_tree.specs.Notes.{is_touched}
use Rattle.ufs_promise_laws.specs.Steps.{records_of}
use Rattle.ufs_promise_laws.specs.Held.{HasState, MaySteps}
use Rattle.ufs_promise_laws.specs.ChangeLaws.{change, AreOlder}

-- Each other inode has the form that it had.
abbrev pub OthersStay : Geometry → Type 0
OthersStay g = (c : Catalog) (s : DirState) (xs : List Step) (number inode : ℕ) → is_touched xs inode ≡ false → (with_committed_in g (change number s xs) c).forms inode ≡ c.forms inode

-- An inode that the change touches and that is a file's afterwards has nothing.
abbrev pub BornAreEmpty : Geometry → Type 0
BornAreEmpty g = (c : Catalog) (s : DirState) (xs : List Step) (number inode : ℕ) → AreOlder g c number → MaySteps g s xs → is_touched xs inode ≡ true
    → let form = (with_committed_in g (change number s xs) c).forms inode in form.kind ≡ 1 → (form.extents ≡ []) × (form.size ≡ 0)

-- No dentry is set in a file's block.
abbrev pub FilesAreUnset : Geometry → Type 0
FilesAreUnset g = (c : Catalog) (s : DirState) (xs : List Step) (number inode place block : ℕ) → HasState g c s → AreOlder g c number → MaySteps g s xs → is_touched xs inode ≡ false
    → HasBlock g c inode place block → (c.forms inode).kind ≡ 1 → list_any (is_set_in block) (records_of s xs) ≡ false

-- The file has the inode that it had, which the change doesn't touch; or it had none, and any that it has is of the change.
abbrev pub KeepsInode : List Step → Numbers → Numbers → ℕ → Type 0
KeepsInode xs n m file =
    ((m.inode file ≡ n.inode file) × ((inode : ℕ) → n.inode file ≡ Some inode → is_touched xs inode ≡ false))
    ⊎ ((n.inode file ≡ None) × ((inode : ℕ) → m.inode file ≡ Some inode → is_touched xs inode ≡ true))

-- The names after more of their changes may be committed by these steps, and their files have these inodes then.
pub record MayGoOn (g : Geometry) (s : Stand) (d : DirState) (xs : List Step) (number : ℕ) (start : PosixTree) (history : List Entry) (names more : ℕ) (n m : Numbers) : Type 0 where
  pub state : HasState g s.catalog d
  pub older : AreOlder g s.catalog number
  pub steps : MaySteps g d xs
  pub later : names ≤ more
  pub made : more ≤ length (name_changes start history)
  pub paths : IsNumberedBy (with_committed_in g (change number d xs) s.catalog) m (names_after start history more).paths
  pub inodes : (file inode : ℕ) → m.inode file ≡ Some inode → IsInode g inode × ((after_all xs d).kinds inode ≡ 1)
  pub each : (count file : ℕ) → more ≤ count → count ≤ length (name_changes start history) → IsNamed (names_after start history count).paths file → KeepsInode xs n m file
  pub fresh : (file : ℕ) → (tree_after start history).next ≤ file → m.inode file ≡ None

-- Then the disk stands on behind their records, and each file shows as many of its changes as before.
abbrev pub NamesStandOn : Geometry → Type 0
NamesStandOn g = (blocks : ℕ → Cell) (s : Stand) (d : DirState) (xs : List Step) (number : ℕ) (start : PosixTree) (history : List Entry) (names more : ℕ) (files : ℕ → ℕ) (n m : Numbers)
    → IsStandKept g blocks s start history names files n → MayGoOn g s d xs number start history names more n m
    → StandsOn g blocks s (with_one g (change number d xs) s) start history names more files files n m
