-- What the records of a change of names do.
use Rattle.std.specs.Prelude.{ℕ, ◌≡◌, ◌<◌, ◌+◌, ◌^◌, ◌++◌, List, Bool, true, false, IsTrue, Some}
use Rattle.std.specs.List.{slice_get}
use Rattle.std.specs.Option.{option_map}
use Rattle.ufs_layout.specs.InodeForm.{InodeForm}
use Rattle.ufs_base.specs.Images.{Image}
use Rattle.ufs_layout.specs.declared.geometry.Geometry.{Geometry}
use Rattle.ufs_layout.specs.declared.records.Committed.{Committed}
use Rattle.ufs_image.specs.Catalog.{Catalog, IsInode, HasBlock, HasDirBlocks, HasSlots}
use Rattle.ufs_image.specs.Folding.{Spells, with_form, with_committed_in}
use Rattle.ufs_image.specs.Changes.{MayBecome}
use Rattle.ufs_image.specs.Nodes.{blocks_of}
use Rattle.ufs_image.specs.Sound.{IsSoundCatalog}
use Rattle.ufs_image.specs.Walks.{inode_of}
use Rattle.ufs_dir_tree.specs.DirTable.{DirTable, found_at}
use Rattle.ufs_dir_laws.specs.Meets.{found_in}
use Rattle.ufs_dir_laws.specs.Tables.{IsTableOf}
use Rattle.ufs_ledger.specs.Ledger.{Stand, IsDataBlock, CoversDirs}
use Rattle.ufs_ledger.specs.Changes.{MayCommit, with_free_block}
use Rattle.ufs_dir_tree.specs.Steps.{DirState, Step, after_all}
use Rattle.ufs_promise_laws.specs.Steps.{records_of}
use Rattle.ufs_promise_laws.specs.Held.{HasState, IsZeroed, with_zeroed, MaySteps, HasSoundNames}

-- the transaction that tells these steps
abbrev pub change : ℕ → DirState → List Step → Committed
change number s xs = record { number = number; records = records_of s xs }

-- Each inode was last changed by an earlier commit.
abbrev pub AreOlder : Geometry → Catalog → ℕ → Type 0
AreOlder g c number = (inode : ℕ) → IsInode g inode → (c.forms inode).number < number

-- the state of a catalog with this table
abbrev pub state_of : Catalog → DirTable → (ℕ → Bool) → DirState
state_of c t zeroed = record { table = t; kinds = λ inode. (c.forms inode).kind; zeroed = zeroed }

-- A sound catalog whose blocks of directories are whole has the directories of its table, and sound names in them.
abbrev pub SoundHasState : Geometry → Type 0
SoundHasState g = (c : Catalog) (t : DirTable) (zeroed : ℕ → Bool)
    → IsSoundCatalog g c → IsTableOf g c t → ((dir : ℕ) → (c.forms dir).kind ≡ 2 → HasSlots g c dir) → ((block : ℕ) → zeroed block ≡ true → IsZeroed g c block) → HasState g c (state_of c t zeroed) × HasSoundNames g (state_of c t zeroed)

-- A catalog that an image spells has the slots of each directory's blocks.
abbrev pub SpelledHaveSlots : Geometry → Type 0
SpelledHaveSlots g = (whole : Bool) (these : ℕ → Bool) (image : Image) (c : Catalog) → Spells g whole these image c → HasDirBlocks g c these → (dir : ℕ) → (c.forms dir).kind ≡ 2 → HasSlots g c dir

-- A block of zeros that no inode has is one more that a directory may take, once dentries may be spelled there.
abbrev pub ZerosAreTaken : Geometry → Type 0
ZerosAreTaken g = (s : Stand) (d : DirState) (block : ℕ) → HasState g s.catalog d → IsDataBlock g block → ((inode place : ℕ) → HasBlock g s.catalog inode place block → ⊥)
    → HasState g (with_free_block block s).catalog (record d { zeroed = with_zeroed block d.zeroed })

-- Behind the records of some steps the catalog has the directories that the steps make.
abbrev pub StepsAreNoted : Geometry → Type 0
StepsAreNoted g = (c : Catalog) (s : DirState) (xs : List Step) (number : ℕ) → HasState g c s → AreOlder g c number → MaySteps g s xs → HasState g (with_committed_in g (change number s xs) c) (after_all xs s)

-- A catalog with sound names in its directories is sound.
abbrev pub NamesLeaveSound : Geometry → Type 0
NamesLeaveSound g = (c : Catalog) (s : DirState) → HasState g c s → HasSoundNames g s → IsSoundCatalog g c

-- And its walks are those through the table.
abbrev pub NamesHaveWalks : Geometry → Type 0
NamesHaveWalks g = (c : Catalog) (s : DirState) → HasState g c s → HasSoundNames g s → (names : List (List ℕ)) → found_at s.table names ≡ option_map (found_in c) (inode_of c names)

-- The steps may be committed where they leave sound names, and dentries are spelled in the blocks that directories take.
abbrev pub StepsMayCommit : Geometry → Type 0
StepsMayCommit g = (s : Stand) (d : DirState) (xs : List Step) (number : ℕ) → HasState g s.catalog d → CoversDirs g s → ((block : ℕ) → d.zeroed block ≡ true → IsTrue (s.dirs block)) → AreOlder g s.catalog number → number < 2 ^ 64
    → MaySteps g d xs → HasSoundNames g (after_all xs d) → MayCommit g (change number d xs) s

-- Behind a transaction no inode has a later number than its own, so a later one may be committed next.
abbrev pub NumbersRise : Geometry → Type 0
NumbersRise g = (c : Catalog) (t : Committed) → AreOlder g c t.number → AreOlder g (with_committed_in g t c) (t.number + 1)

-- ---- several changes

-- The records of two changes, one behind the other, are those of all their steps: so both may be committed as one.
pub record IsJoined (g : Geometry) (s : DirState) (xs ys : List Step) : Type 0 where
  pub records : records_of s (xs ++ ys) ≡ records_of s xs ++ records_of (after_all xs s) ys
  pub state : after_all (xs ++ ys) s ≡ after_all ys (after_all xs s)
  pub may : MaySteps g s xs → MaySteps g (after_all xs s) ys → MaySteps g s (xs ++ ys)

abbrev pub ChangesJoin : Geometry → Type 0
ChangesJoin g = (s : DirState) (xs ys : List Step) → IsJoined g s xs ys

-- ---- other commits

-- A file's new form leaves the directories as they are, where none of its blocks is one that a directory may take.
abbrev pub FilesKeepState : Geometry → Type 0
FilesKeepState g = (c : Catalog) (s : DirState) (inode : ℕ) (form : InodeForm) → HasState g c s → MayBecome g c inode form → ((place block : ℕ) → slice_get (blocks_of form) place ≡ Some block → s.zeroed block ≡ false)
    → HasState g (with_form inode form c) s
