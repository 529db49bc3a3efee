-- When a session may begin so.
use Rattle.std.specs.Prelude.{ℕ, ◌≡◌, ◌≤◌, true, [], None, Some, slice_get}
use Rattle.std.specs.FinMap as fin
use Rattle.ufs_disk.specs.Disk.{IsWhole}
use Rattle.ufs_file.specs.Hand.{FileState}
use Rattle.ufs_files.specs.Files.{Files}
use Rattle.ufs_joint.specs.Ends.{CanBegin}
use Rattle.ufs_layout.specs.declared.geometry.Geometry.{Geometry}
use Rattle.ufs_model.specs.PosixTree.{desc_at}
use Rattle.ufs_name_tree.specs.NameTable.{IsNameTable}
use Rattle.ufs_store.specs.State.{StoreState, geometry_of_store}
use Rattle.ufs_promise_laws.specs.OnDisk.{IsOnDisk}
use Rattle.ufs_promise_laws.specs.Sound.{IsSoundServer}
use Rattle.ufs_promise_laws.specs.Stored.{ArePartsOf}
use Rattle.ufs_joint.specs.FirstHand.{Beginning, server_first, start_first}

-- No block of the files is in memory.
abbrev pub AreAway : Files → Type 0
AreAway files = (file : ℕ) (f : FileState) → fin.get files file ≡ Some f → (place : ℕ) → slice_get f.content.there place ≡ Some true → ⊥

-- Nothing is open in the tree, and one server with all of it would be sound, and where the disk is visible on the store's disk.
pub record IsReady (b : Beginning) (s : StoreState) : Type 0 where
  pub workers : b.workers ≤ 8
  pub closed : (client fd : ℕ) → desc_at b.tree client fd ≡ None
  pub parts : ArePartsOf (server_first b) b.tree
  pub table : IsNameTable b.names.tree
  pub away : AreAway b.files
  pub formed : geometry_of_store s ≡ b.geometry
  pub server : IsSoundServer b.geometry s.unassigned.free (server_first b)
  pub going : s.stop ≡ None
  pub whole : b.is_visible ≡ true → IsWhole s.sectors s.moments.state
  pub on_disk : b.is_visible ≡ true → IsOnDisk s b.tree [] (server_first b)

-- So the first hand of a session may have every cell.
abbrev pub ReadyCanBegin : Geometry → Type 0
ReadyCanBegin g = (b : Beginning) (s : StoreState) → b.geometry ≡ g → IsReady b s → CanBegin (start_first b s)
