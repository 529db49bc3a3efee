-- One step of the names' part, with the files that it is lent and the pool.
use Rattle.std.specs.Prelude.{ℕ, ◌≡◌, ◌≢◌, ◌+◌, List, length, Bool, true, false, Option, Some, None, IsSome, unwrap_or}
use Rattle.std.specs.FinMap as map
use Rattle.ufs_bitmap.specs.Blocks.{BlockSet}
use Rattle.ufs_dir_tree.specs.declared.found.Found.{Found}
use Rattle.ufs_dir_tree.specs.declared.found.Found.TheVariants.{Dir, File}
use Rattle.ufs_file.specs.Hand.{FileState}
use Rattle.ufs_files.specs.Files.{Files}
use Rattle.ufs_model.specs.Walk.{file_of}
use Rattle.ufs_name_tree.specs.NameTable.{file_at, node_at}
use Rattle.ufs_name_tree.specs.Nodes.{SetsNode}
use Rattle.ufs_names.specs.NamesPart.{NamesPart, unheld, holding_of, with_holder, without_holder, without_name, is_kept, settled}
use Rattle.ufs_names.specs.Calls.{HaveInodes, KeepInodes, no_bytes}
use Rattle.ufs_names.specs.Space.{AreApart, HaveTheSame}
use Rattle.ufs_names.specs.declared.holding.Holding.{Holding}

-- Directories, files and pool stay apart and have together what they had, files have the inodes that are told and keep them, and the
-- table has as many inodes as it had.
pub record KeepsSpace (old new : NamesPart) (fs fs' : Files) (pool pool' : BlockSet) : Type 0 where
  pub inodes : HaveInodes old.held fs → HaveInodes new.held fs'
  pub stay : KeepInodes old.held new.held
  pub together : HaveTheSame old.tree.dirs fs pool new.tree.dirs fs' pool'
  pub apart : AreApart new.tree.dirs fs' pool'
  pub counted : length new.tree.dirs.dirs ≡ length old.tree.dirs.dirs

-- ---- a file goes that nothing keeps any more

-- No inode gets or loses a number, and the files that are here stay.
pub record StaysWith (old new : NamesPart) (fs fs' : Files) : Type 0 where
  pub numbers : (i : ℕ) → file_at new.tree i ≡ file_at old.tree i
  pub files : fs' ≡ fs

-- The file is no more: its inode has no number, and its hand isn't here.
pub record GoesAway (old new : NamesPart) (fs fs' : Files) (file inode : ℕ) : Type 0 where
  pub files : fs' ≡ map.remove fs file
  pub unnumbered : file_at new.tree inode ≡ None
  pub others : (j : ℕ) → j ≢ inode → file_at new.tree j ≡ file_at old.tree j

-- This is known of the file now; where nothing keeps it, it goes.
pub record Settles (old new : NamesPart) (fs fs' : Files) (file : ℕ) (h : Holding) : Type 0 where
  pub held : new.held ≡ settled old.held file h
  pub next : new.next ≡ old.next
  pub kept : is_kept h ≡ true → StaysWith old new fs fs'
  pub gone : is_kept h ≡ false → GoesAway old new fs fs' file h.inode

-- No file comes or goes.
pub record KeepsFiles (old new : NamesPart) (fs fs' : Files) : Type 0 where
  pub held : new.held ≡ old.held
  pub next : new.next ≡ old.next
  pub stays : StaysWith old new fs fs'

-- the file of what had a name has none now
abbrev pub LosesName : NamesPart → NamesPart → Files → Files → Option ℕ → Type 0
LosesName old new fs fs' None = KeepsFiles old new fs fs'
LosesName old new fs fs' (Some file) = Settles old new fs fs' file (without_name (holding_of old.held file))

-- where that file goes, its hand is here
abbrev pub GoesHere : NamesPart → Files → Option ℕ → Type 0
GoesHere n fs lost = (f : ℕ) → lost ≡ Some f → is_kept (without_name (holding_of n.held f)) ≡ false → IsSome (map.get fs f)

-- Nothing stands at the names any more, and its file lost its name.
pub record Removes (old new : NamesPart) (fs fs' : Files) (names : List (List ℕ)) : Type 0 where
  pub nodes : SetsNode (node_at old.tree) (node_at new.tree) names None
  pub file : LosesName old new fs fs' (file_of (node_at old.tree names))

-- A client lets go of the file of a descriptor, if this was its last hold of it.
abbrev pub LetsGo : NamesPart → NamesPart → Files → Files → ℕ → Bool → Option ℕ → Type 0
LetsGo old new fs fs' client last None = (new ≡ old) × (fs' ≡ fs)
LetsGo old new fs fs' client false (Some file) = (new ≡ old) × (fs' ≡ fs)
LetsGo old new fs fs' client true (Some file) = Settles old new fs fs' file (without_holder (holding_of old.held file) client)

-- ---- opening

-- A file without a byte, which this client holds, has a number and an inode that were free.
pub record AddsFile (old new : NamesPart) (fs fs' : Files) (client : ℕ) : Type 0 where
  pub inode : ℕ
  pub unused : file_at old.tree inode ≡ None
  pub numbered : file_at new.tree inode ≡ Some old.next
  pub others : (j : ℕ) → j ≢ inode → file_at new.tree j ≡ file_at old.tree j
  pub held : new.held ≡ map.insert old.held old.next (with_holder (record unheld { inode = inode; linked = true }) client)
  pub next : new.next ≡ old.next + 1
  pub files : fs' ≡ map.insert fs old.next (no_bytes old.next inode)

-- The client holds the file, which `trunc` empties.
pub record OpensFile (old new : NamesPart) (fs fs' : Files) (client : ℕ) (trunc : Bool) (file : ℕ) : Type 0 where
  pub tree : new.tree ≡ old.tree
  pub held : new.held ≡ map.insert old.held file (with_holder (holding_of old.held file) client)
  pub next : new.next ≡ old.next
  pub kept : trunc ≡ false → fs' ≡ fs
  pub emptied : trunc ≡ true → (s : FileState) → map.get fs file ≡ Some s → fs' ≡ map.insert fs file (no_bytes file s.inode)

-- an `open` of what was found
abbrev pub Opens : NamesPart → NamesPart → Files → Files → ℕ → Bool → Option Found → Type 0
Opens old new fs fs' client trunc None = AddsFile old new fs fs' client
Opens old new fs fs' client trunc (Some (Dir i)) = (new ≡ old) × (fs' ≡ fs)
Opens old new fs fs' client trunc (Some (File i)) = OpensFile old new fs fs' client trunc (unwrap_or (file_at old.tree i) 0)
