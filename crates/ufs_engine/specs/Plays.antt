-- What a session over a disk has told, and what it leaves.
use Rattle.std.specs.Prelude.{ℕ, ◌≡◌, ◌⊎◌, ◌-◌, ◌^◌, ◌++◌, Bool, IsTrue, List, [], Option, Some, None, Result, Ok, Err, nat_eq}
use Rattle.std.specs.List.{IsDistinct}
use Rattle.ufs_base.specs.Faults.{RoseTo}
use Rattle.ufs_base.specs.Wanting.{wanting}
use Rattle.ufs_disk.specs.Disk.{State}
use Rattle.ufs_disk.specs.Moments.{Moments, all}
use Rattle.ufs_client.specs.declared.played.EndFault.{EndFault}
use Rattle.ufs_client.specs.declared.played.EndFault.TheVariants as session
use Rattle.ufs_model.specs.History.{joined, tree_after}
use Rattle.ufs_model.specs.PosixTree.{PosixTree}
use Rattle.ufs_model.specs.declared.data.Entry.{Entry}
use Rattle.ufs_model.specs.declared.data.Op.{Op}
use Rattle.ufs_engine.specs.declared.playing.PlayFault.{PlayFault}
use Rattle.ufs_engine.specs.declared.playing.PlayFault.TheVariants.{Image, Device, Stopped, Lack}
use Rattle.ufs_recovery.specs.Recovered.{IsProperDisk}
use Rattle.ufs_told.specs.Sizes.{total_size}
use Rattle.ufs_engine.specs.Served.{IsPlayedFrom}
use Rattle.ufs_engine.specs.Stamped.{AreMomentsStamped}
use Rattle.ufs_told.specs.Told.{AreFaultsCaused, AreToldStop, HasRisen, IsCountStill, devices_in, reads_in}
use Rattle.ufs_hand_laws.specs.Owned.{Has}
use Rattle.ufs_promise_laws.specs.OnDisk.{IsExplainedBetween}

-- what the promise asks of the disk as the session begins: it is visible, and is proper
pub record MayPlay (visible : Bool) (sectors : ℕ) (state : State) : Type 0 where
  pub is_visible : IsTrue visible
  pub proper : IsProperDisk sectors state

-- how the serving ended: a fault of the closing comes behind it
abbrev pub served_end : Result (Unit {0}) PlayFault → Result (Unit {0}) EndFault
served_end (Ok x) = Ok tt
served_end (Err (Image fault)) = Err (session.Memory wanting)
served_end (Err (Device fault)) = Ok tt
served_end (Err (Stopped fault)) = Ok tt
served_end (Err (Lack _)) = Err (session.Memory wanting)

-- ---- faults

-- Each fault of the disk that a reply tells is one of the session's, and no two replies tell one: their numbers rise. Whoever is told
-- that the store stopped is told one fault, of the session too, and no read's. Reads that fail stop nothing, so there may be several.
pub record AreFaultsOf (before now : ℕ) (history : List Entry) : Type 0 where
  pub each : (fault : ℕ) → Has fault (devices_in history) → HasRisen before now fault
  pub once : IsDistinct nat_eq (devices_in history)
  -- each is told for its cause, and so is the stop
  pub caused : AreFaultsCaused history
  pub stop : Option ℕ
  pub stops : AreToldStop stop history
  pub of_session : (fault : ℕ) → stop ≡ Some fault → HasRisen before now fault
  pub apart : (fault : ℕ) → stop ≡ Some fault → Has fault (reads_in history) → ⊥

-- The store never stopped: no reply tells so, and where none tells a fault no call of the disk failed.
pub record IsUnstopped (before now : ℕ) (history : List Entry) : Type 0 where
  pub stops : AreToldStop None history
  pub quiet : devices_in history ≡ [] → IsCountStill before now

-- A call of the closing failed, and no reply tells that.
pub record IsClosingFault (before now : ℕ) (history : List Entry) (fault : ℕ) : Type 0 where
  pub stops : AreToldStop None history
  pub risen : HasRisen before now fault
  pub last : now ≡ fault
  pub untold : Has fault (devices_in history) → ⊥
  -- where no reply tells a fault it is the first
  pub alone : devices_in history ≡ [] → RoseTo before now fault ⊎ (fault ≡ 2 ^ 64 - 1)

-- The store stopped at this fault, which replies may tell.
pub record IsStopOf (before now : ℕ) (history : List Entry) (fault : ℕ) : Type 0 where
  pub stops : AreToldStop (Some fault) history
  pub risen : HasRisen before now fault
  -- it is no read's
  pub apart : Has fault (reads_in history) → ⊥

-- What the end tells: that the store never stopped, that a call failed in the closing, or the fault at which the store stopped.
abbrev pub IsEndFault : (before now : ℕ) → List Entry → Result (Unit {0}) PlayFault → Type 0
IsEndFault before now history (Ok x) = IsUnstopped before now history
IsEndFault before now history (Err (Device fault)) = IsClosingFault before now history fault
IsEndFault before now history (Err (Stopped fault)) = IsStopOf before now history fault
IsEndFault before now history (Err _) = Unit {0}

-- ---- transcripts

-- They are one history of these clients' requests from this tree on, by how the session ended.
abbrev pub ArePlayedFrom : PosixTree → List (List Op) → List (List Entry) → Result (Unit {0}) PlayFault → Type 0
ArePlayedFrom start clients told result = IsPlayedFrom start clients told (served_end result) (joined told)

-- ---- sizes

-- Behind a session that was served to its end all files together have so many bytes.
abbrev pub HasBytes : PosixTree → List Entry → Result (Unit {0}) EndFault → ℕ → Type 0
HasBytes start history ended bytes = ended ≡ Ok tt → bytes ≡ total_size (tree_after start history)

-- ---- the stamps of a session's hand

-- A session ran from one moment to another. Up to it the opening tree is all that a crash leaves; in it the hand stamped each
-- state that the disk was in; and from its end on the whole history explains what a crash leaves.
pub record IsStampedThroughout (keeps : Bool) (sectors : ℕ) (start : PosixTree) (history : List Entry) (old new : Moments) : Type 0 where
  pub from : Moments
  pub to : Moments
  pub before : IsExplainedBetween keeps sectors start [] old from
  pub passed : (inside : List State) × (all to ≡ all from ++ inside)
  pub stamped : AreMomentsStamped start history sectors from to
  pub behind : IsExplainedBetween keeps sectors start history to new
