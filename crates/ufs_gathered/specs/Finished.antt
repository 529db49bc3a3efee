-- What is known of a session on hands that has ended, and of the disk on which it ran, once everything was committed and its image was
-- made clean, or once that failed.
use Rattle.std.specs.Prelude.{ℕ, ◌≡◌, ◌≤◌, ◌+◌, ◌⊎◌, Bool, true, false, List, IfErr, IfOk, OnOk, Option, None, Some, Result, Ok, Err}
use Rattle.ufs_base.specs.Faults.{RoseTo}
use Rattle.ufs_base.specs.Images.{Image}
use Rattle.ufs_base.specs.declared.lack.Lack.TheVariants as lack
use Rattle.ufs_base.specs.declared.memory.Memory.{Memory}
use Rattle.ufs_disk.specs.Disk.{Leaves}
use Rattle.ufs_disk.specs.Moments.{Moments, reads}
use Rattle.ufs_brink.specs.Closes.{closing_fault, stopped_at, tells_unsound}
use Rattle.ufs_brink.specs.declared.closing.CloseFault.{CloseFault}
use Rattle.ufs_brink.specs.declared.closing.CloseFault.TheVariants as cause
use Rattle.ufs_image.specs.Volume.{superblock_of}
use Rattle.ufs_joint.specs.Cells.{FileCell, NamesCell, Start}
use Rattle.ufs_promise_laws.specs.Last.{StandsForTree}
use Rattle.ufs_model.specs.History.{tree_after}
use Rattle.ufs_model.specs.declared.data.Entry.{Entry}
use Rattle.ufs_recovery.specs.Recovered.{IsCleanDisk, IsRecovered}
use Rattle.ufs_store.specs.Refusals.{IsTold}
use Rattle.ufs_store.specs.State.{StoreState}
use Rattle.ufs_store.specs.declared.fault.StoreFault.{StoreFault}
use Rattle.ufs_store.specs.declared.fault.StoreFault.TheVariants as refusal
use Rattle.ufs_promise_laws.specs.OnDisk.{IsExplainedBetween}
use Rattle.ufs_told.specs.Sizes.{total_size}
use Rattle.ufs_gathered.specs.Ended.{HasEnded}

-- ---- how it ends

-- What a refusal of a commit ends it with. A commit asks for no blocks.
abbrev pub ended_by : StoreFault → CloseFault
ended_by (refusal.Device fault) = cause.Device fault
ended_by (refusal.Stopped fault) = cause.Stopped fault
ended_by (refusal.NoSpace need had) = cause.Lack lack.Unsound
ended_by (refusal.Lack why) = cause.Lack why

-- What ends it where there was no memory to commit anything, by where the store has stopped.
abbrev pub left_by : Option ℕ → Memory → CloseFault
left_by None memory = cause.Lack (lack.Memory memory)
left_by (Some n) memory = cause.Stopped n

-- Once everything was committed the image was made clean, or that failed; else the disk was left with its count.
abbrev pub EndsBehind : Result (Unit {0}) StoreFault → (before now : ℕ) → Result (Unit {0}) CloseFault → Type 0
EndsBehind (Ok x) before now ended = IsTold before now (closing_fault ended) × IfErr ended (λ fault. stopped_at fault ≡ None)
EndsBehind (Err fault) before now ended = (now ≡ before) × (ended ≡ Err (ended_by fault))

-- How it ended, by whether everything was committed, by where the store has stopped and by the disk's count of faults behind the commits
-- and now: well; by the fault at which the store stopped in a commit, or by one of the closing; by the stop of a store that commits
-- nothing more; or by a lack, of a commit or of the closing.
abbrev pub EndsBy : (all : Bool) → (stop : Option ℕ) → (before now : ℕ) → Result (Unit {0}) CloseFault → Type 0
EndsBy all stop before now (Ok x) = (all ≡ true) × (stop ≡ None) × (now ≡ before)
EndsBy all stop before now (Err (cause.Device fault)) = ((all ≡ false) × (stop ≡ Some fault) × (now ≡ before)) ⊎ ((all ≡ true) × (stop ≡ None) × RoseTo before now fault)
EndsBy all stop before now (Err (cause.Stopped fault)) = (all ≡ false) × (stop ≡ Some fault) × (now ≡ before)
EndsBy all stop before now (Err (cause.Lack why)) = (stop ≡ None) × (now ≡ before)

-- ---- how far it raises the numbers

-- The image of so many inodes has an epoch and a next commit number that rose so from these: by the commits of all files and of the
-- names, and by a recovery.
pub record ClosesBy (from number inodes : ℕ) (behind : Image) : Type 0 where
  pub epoch : from ≤ (superblock_of behind).epoch
  pub epoch_most : (superblock_of behind).epoch ≤ from + (inodes + 2)
  pub number_most : (superblock_of behind).next ≤ number + (inodes + 1)

-- ---- the whole

-- The session ended so, with names, files and store as they were behind the commits, and so the disk was left.
pub record HasFinished (k : Start) (origin : Moments) (keeps : Bool) (tickets : ℕ) (lists : List (List Entry)) (bytes : Result ℕ Memory) (sectors faults : ℕ) (now : Moments) (ended : Result (Unit {0}) CloseFault) : Type 0 where
  pub names : NamesCell
  pub files : List FileCell
  pub store : StoreState
  pub session : HasEnded k origin keeps tickets lists names files store
  -- where the files were measured they are together as large as all files of the tree
  pub measured : IfOk bytes (λ n. n ≡ total_size (tree_after session.start session.history))
  -- whether everything was committed
  pub all : Bool
  pub ends : EndsBy all store.stop store.faults faults ended
  pub size : sectors ≡ store.sectors
  -- Over a visible disk: at each moment since then what a crash leaves is explained by the whole history, and proper.
  pub moments : k.is_visible ≡ true → IsExplainedBetween keeps store.sectors session.start session.history store.moments now
  -- Once everything was committed it stands for the last tree, also where the image couldn't be made clean then,
  pub last : k.is_visible ≡ true → all ≡ true → Leaves (StandsForTree store.sectors (tree_after session.start session.history)) now.state
  -- for which only the disk is to blame, or want of memory or of a number.
  pub sound : k.is_visible ≡ true → all ≡ true → IfErr ended (λ fault. tells_unsound fault ≡ false)
  -- Where it ended well the disk is clean, and an image that was in use is as a recovery makes it.
  pub clean : k.is_visible ≡ true → OnOk ended (IsCleanDisk store.sectors now.state)
  pub recovered : k.is_visible ≡ true → OnOk ended ((superblock_of (reads store.moments)).clean ≡ false → IsRecovered (reads store.moments) (reads now))
