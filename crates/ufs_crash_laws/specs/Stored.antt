-- What a store keeps of the promise: how many changes of names, and of each file, stand on the disk.
use Rattle.std.specs.Prelude.{ℕ, ◌≡◌, ◌≤◌, List, [], length, Some}
use Rattle.std.specs.FinMap as map
use Rattle.ufs_model.specs.PosixTree.{PosixTree, Paths}
use Rattle.ufs_model.specs.FileBytes.{bytes_of}
use Rattle.ufs_model.specs.History.{tree_after}
use Rattle.ufs_model.specs.declared.data.Entry.{Entry}
use Rattle.ufs_model.specs.declared.data.Node.TheVariants.{File}
use Rattle.ufs_crash_laws.specs.FileChanges.{IsShown}
use Rattle.ufs_crash_laws.specs.Changes.{changes_of, name_changes, names_after}
use Rattle.ufs_crash_laws.specs.Explained.{IsCovering}

-- a path names the file
abbrev pub IsNamed : Paths → ℕ → Type 0
IsNamed paths file = (path : List ℕ) × (map.get paths path ≡ Some (File file))

-- The disk has the names after so many of their changes. Each file that they name, or that later names do, shows so many
-- of its changes, also where it isn't named yet.
pub record IsStored (start : PosixTree) (history : List Entry) (names : ℕ) (files : ℕ → ℕ) (content : ℕ → List ℕ) : Type 0 where
  pub made : names ≤ length (name_changes start history)
  pub each : (count file : ℕ) → names ≤ count → count ≤ length (name_changes start history) → IsNamed (names_after start history count).paths file
      → IsShown (bytes_of start.bytes file) (changes_of file start history) (files file) (content file)

-- Besides, these numbers cover what is acknowledged, and the disk has nothing of files that aren't made yet.
pub record IsKept (start : PosixTree) (history : List Entry) (names : ℕ) (files : ℕ → ℕ) (content : ℕ → List ℕ) : Type 0 where
  pub stored : IsStored start history names files content
  pub covers : IsCovering start history names files
  pub fresh : (file : ℕ) → (tree_after start history).next ≤ file → (files file ≡ 0) × (content file ≡ [])
