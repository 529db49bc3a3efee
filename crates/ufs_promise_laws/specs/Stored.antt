-- A server whose tree is on a disk, where the disk keeps its promise.
use Rattle.std.specs.Prelude.{ℕ, ◌≡◌, ◌≢◌, ◌<◌, ◌≤◌, ◌⊎◌, List, [], length, replicate, true, false, IsTrue, IsSome, nat_eq, Some, None}
use Rattle.std.specs.List.{IsDistinct}
use Rattle.std.specs.FinMap as map
use Rattle.ufs_base.specs.declared.sizes.TheConstants.{SLOTS_PER_BLOCK}
use Rattle.ufs_bitmap.specs.Blocks.{BlockSet}
use Rattle.ufs_bitmap.specs.Taking.{has}
use Rattle.ufs_file.specs.Hand.{FileState}
use Rattle.ufs_files.specs.Files.{AreFilesOf}
use Rattle.ufs_image.specs.Catalog.{HasBlock}
use Rattle.ufs_image.specs.Folding.{with_form}
use Rattle.ufs_layout.specs.DentryForm.{free_slot}
use Rattle.ufs_layout.specs.InodeForm.{InodeForm}
use Rattle.ufs_layout.specs.Superblock.{geometry_of}
use Rattle.ufs_ledger.specs.Kept.{Counts, IsLedgerKept, Numbers}
use Rattle.ufs_ledger.specs.Ledger.{IsDataBlock, Ledger, is_held}
use Rattle.ufs_model.specs.FileBytes.{bytes_of}
use Rattle.ufs_model.specs.History.{IsLegal, tree_after}
use Rattle.ufs_model.specs.PosixTree.{IsTree, PosixTree}
use Rattle.ufs_model.specs.declared.data.Entry.{Entry}
use Rattle.ufs_promise_laws.specs.Files.{KeepsInode}
use Rattle.ufs_promise_laws.specs.Held.{HasSoundNames, HasState, MaySteps}
use Rattle.ufs_dir_tree.specs.DirTable.{blocks_at}
use Rattle.ufs_dir_tree.specs.Steps.{DirState, Step, after_all}
use Rattle.ufs_promise_laws.specs.Steps.{records_of}
use Rattle.ufs_name_tree.specs.Notes.{AreKindsOf, is_touched}
use Rattle.ufs_names.specs.Calls.{HaveInodes}
use Rattle.ufs_names.specs.NamesPart.{IsNamesPart, NamesPart}
use Rattle.ufs_promise_laws.specs.PathNumbers.{numbers_of}
use Rattle.ufs_crash_laws.specs.Changes.{changes_of, names_after}
use Rattle.ufs_file_commits.specs.Committing.{HasOwnBlocks}
use Rattle.ufs_file_commits.specs.Standing.{IsFileBlock, StandsFor}
use Rattle.ufs_file_commits.specs.State.{DurableState, IsNoted, blocks_held, whole_of}
use Rattle.ufs_promise_laws.specs.Parts.{FileOwns, NamesOwn, Owner, Owns, Parts, TheNames, durable_in}

-- ---- names

-- with these blocks to take for directories
abbrev pub with_fresh : List ℕ → DirState → DirState
with_fresh fresh d = record d { zeroed = has fresh }

-- with none
abbrev pub with_none : DirState → DirState
with_none d = record d { zeroed = λ _. false }

-- The inode has this block on the disk as the names know it: as a directory does that has the block still, or as a live file; or the
-- steps give the inode another form.
abbrev pub IsKnownBlock : Numbers → NamesPart → List Step → (inode block : ℕ) → Type 0
IsKnownBlock numbers n xs inode block =
    (is_touched xs inode ≡ true)
    ⊎ ((has (blocks_at n.tree.dirs inode) block ≡ true) ⊎ ((file : ℕ) × IsSome (map.get n.held file) × (numbers.inode file ≡ Some inode)))

-- The disk has directories from which the noted records lead to the server's, once the fresh blocks are zeros; and each live file
-- keeps the inode that it has on the disk, or has one that the records give it. No other inode has a block.
pub record AreNamesNoted (l : Ledger) (numbers : Numbers) (fresh : List ℕ) (n : NamesPart) : Type 0 where
  pub committed : DirState
  pub steps : List Step
  pub has : HasState (geometry_of l.superblock) l.now.catalog (with_none committed)
  pub noted : n.tree.noted ≡ Some (records_of (with_fresh fresh committed) steps)
  pub may : MaySteps (geometry_of l.superblock) (with_fresh fresh committed) steps
  pub dirs : (after_all steps (with_fresh fresh committed)).table ≡ n.tree.dirs
  pub kinds : AreKindsOf n.tree (after_all steps (with_fresh fresh committed)).kinds
  pub sound : HasSoundNames (geometry_of l.superblock) (after_all steps (with_fresh fresh committed))
  pub live : (file : ℕ) → IsSome (map.get n.held file) → KeepsInode steps numbers (numbers_of n) file
  pub known : (inode place block : ℕ) → HasBlock (geometry_of l.superblock) l.now.catalog inode place block → IsKnownBlock numbers n steps inode block

-- Where memory ran out for a note nothing is noted, and no names are committed any more.
abbrev pub AreNamesStored : Ledger → Numbers → List ℕ → NamesPart → Type 0
AreNamesStored l numbers fresh n = (n.tree.noted ≡ None) ⊎ AreNamesNoted l numbers fresh n

-- ---- files

-- a file without a byte
abbrev pub empty_form : InodeForm
empty_form = record { kind = 1; extents = []; size = 0; number = 0 }

-- as once a file is born at this inode
abbrev pub with_born : ℕ → Ledger → Ledger
with_born inode l = record l { now = record (l.now) { catalog = with_form inode empty_form l.now.catalog } }

-- Its inode is committed, and it stands on the ledger; or no commit gave it one yet, and it would stand there once one did.
abbrev pub IsFileStored : Ledger → Numbers → DurableState → Type 0
IsFileStored l numbers f =
    ((numbers.inode f.file.file ≡ Some f.file.inode) × StandsFor l f)
    ⊎ ((numbers.inode f.file.file ≡ None) × StandsFor (with_born f.file.inode l) f)

-- ---- blocks

-- a file with this number here has this inode on the disk
abbrev pub FileHasIt : Parts → Numbers → (inode block : ℕ) → Type 0
FileHasIt p numbers inode block = (file : ℕ) × FileOwns p file block × (numbers.inode file ≡ Some inode)

-- Dentries may be set in the block: it spells free slots, and nothing is folded in it.
pub record IsSpelled (l : Ledger) (block : ℕ) : Type 0 where
  pub data_block : IsDataBlock (geometry_of l.superblock) block
  pub spelled : IsTrue (l.now.dirs block)
  pub slots : l.now.catalog.slots block ≡ replicate SLOTS_PER_BLOCK free_slot
  pub unheld : is_held l.now.log block ≡ false

-- No block is two owners'. Whoever has a block that isn't the names' may give it to a file; and a fresh one may be written, or is
-- spelled already. What an inode of the disk has is that file's, or the names'.
pub record AreSpaced (l : Ledger) (unassigned : BlockSet) (numbers : Numbers) (p : Parts) : Type 0 where
  pub apart : (one other : Owner) (block : ℕ) → Owns p unassigned one block → Owns p unassigned other block → one ≡ other
  pub usable : (owner : Owner) (block : ℕ) → owner ≢ TheNames → Owns p unassigned owner block → IsFileBlock l block
  pub fresh : (block : ℕ) → has p.fresh block ≡ true → IsFileBlock l block ⊎ IsSpelled l block
  pub unheld : (inode place block : ℕ) → has p.fresh block ≡ true → HasBlock (geometry_of l.superblock) l.now.catalog inode place block → ⊥
  pub held : (inode place block : ℕ) → HasBlock (geometry_of l.superblock) l.now.catalog inode place block → NamesOwn p block ⊎ FileHasIt p numbers inode block

-- ---- the whole

-- Names are those of the tree, each file may be that of the tree, with the inode that the names tell, and each live file is here.
pub record ArePartsOf (p : Parts) (t : PosixTree) : Type 0 where
  pub names : IsNamesPart p.names t
  pub files : AreFilesOf p.files t
  pub inodes : HaveInodes p.names.held p.files
  pub here : (file : ℕ) → IsSome (map.get p.names.held file) → IsSome (map.get p.files file)

-- A file has its log in step with it, has no block twice and none that another inode has on the disk, and is stored.
pub record IsFileWhole (l : Ledger) (numbers : Numbers) (f : DurableState) : Type 0 where
  pub noted : IsNoted f
  pub once : IsDistinct nat_eq (blocks_held f)
  pub own : HasOwnBlocks l f
  pub stored : IsFileStored l numbers f

-- A file that has an inode on the disk is born there, and has it for itself. Of no file more changes stand there than it has.
pub record AreCounted (start : PosixTree) (history : List Entry) (k : Counts) : Type 0 where
  pub born : (file : ℕ) → IsSome (k.numbers.inode file) → file < (names_after start history k.names).next
  pub alone : (file other inode : ℕ) → k.numbers.inode file ≡ Some inode → k.numbers.inode other ≡ Some inode → other ≡ file
  pub made : (file : ℕ) → k.files file ≤ length (changes_of file start history)

-- The history explains whatever a crash leaves of the ledger, by these counts; and the parts are those of the tree after it, and
-- go on from what is committed. Each file here has its log in step with it, and with the tree's bytes, all in memory, it is whole:
-- of a block that isn't in memory the disk has those.
pub record IsStored (l : Ledger) (unassigned : BlockSet) (start : PosixTree) (history : List Entry) (counts : Counts) (p : Parts) : Type 0 where
  pub tree : IsTree start
  pub legal : IsLegal start history
  pub kept : IsLedgerKept l start history counts counts
  pub parts : ArePartsOf p (tree_after start history)
  pub names : AreNamesStored l counts.numbers p.fresh p.names
  pub counted : AreCounted start history counts
  pub noted : (file : ℕ) (f : FileState) → map.get p.files file ≡ Some f → IsNoted (durable_in p.commits f)
  pub each : (file : ℕ) (f : FileState) → map.get p.files file ≡ Some f → IsFileWhole l counts.numbers (whole_of (bytes_of (tree_after start history).bytes file) (durable_in p.commits f))
  pub spaced : AreSpaced l unassigned counts.numbers p
