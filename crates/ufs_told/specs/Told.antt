-- How replies tell the faults of a store's disk.
use Rattle.std.specs.Prelude.{ℕ, ◌≡◌, ◌⊎◌, ◌+◌, ◌-◌, ◌*◌, ◌^◌, ◌<◌, ◌≤◌, min, nat_eq, length, true, false, List, [], ◌∷◌, Option, Some, None, ⊤, if◌then◌else◌}
use Rattle.std.specs.List.{AllByRecursion, IsDistinct, filter_map}
use Rattle.ufs_base.specs.Faults.{RoseTo}
use Rattle.ufs_model.specs.declared.data.Entry.{Entry}
use Rattle.ufs_model.specs.declared.data.Op.{Op}
use Rattle.ufs_model.specs.declared.data.Reply.{Reply}
use Rattle.ufs_crash_laws.specs.Changes.{asks_commit}
use Rattle.ufs_told.specs.Replies.{TellsFaults, device_in, is_refused, may_turn, stopped_in}
use Rattle.ufs_told.specs.Numbers.{most_raised}
use Rattle.ufs_hand_laws.specs.Owned.{Has}
use Rattle.ufs_store.specs.Numbers.{HasRaised}
use Rattle.ufs_store.specs.State.{StoreState, geometry_of_store}

-- ---- a count of faults goes on

-- The disk's count of faults is as it was, or stands at its type's end.
abbrev pub IsCountStill : (before now : ℕ) → Type 0
IsCountStill before now = (now ≡ before) ⊎ (now ≡ 2 ^ 64 - 1)

-- The count had risen to this number by a call of the session, or stood at its type's end.
pub record HasRisen (before now fault : ℕ) : Type 0 where
  pub risen : (before < fault) ⊎ (fault ≡ 2 ^ 64 - 1)
  pub counted : fault ≤ now
  pub within : fault ≤ 2 ^ 64 - 1

-- A read failed by this number, and the store went on.
pub record IsReadFault (old new : StoreState) (fault : ℕ) : Type 0 where
  pub risen : old.faults < fault
  pub counted : fault ≤ new.faults
  pub below : fault < 2 ^ 64 - 1

-- The store stopped at this one.
pub record IsStopFault (old new : StoreState) (fault : ℕ) : Type 0 where
  pub going : old.stop ≡ None
  pub stop : new.stop ≡ Some fault
  pub risen : HasRisen old.faults new.faults fault

-- ---- a history

-- the numbers of the disk's faults that the replies tell
abbrev pub devices_in : List Entry → List ℕ
devices_in history = filter_map (λ entry. device_in entry.reply) history

-- those of them that a request is told which asks for no commit: a read failed
abbrev pub read_in : Entry → Option ℕ
read_in entry = if asks_commit entry.op then None else device_in entry.reply

abbrev pub reads_in : List Entry → List ℕ
reads_in history = filter_map read_in history

-- The reply tells that the store stopped at this fault: earlier, or in this request, which asks for a commit.
abbrev pub TellsStop : Entry → ℕ → Type 0
TellsStop entry fault = (stopped_in entry.reply ≡ Some fault) ⊎ ((asks_commit entry.op ≡ true) × (device_in entry.reply ≡ Some fault))

-- whoever is told that the store stopped is told this
abbrev pub AreToldStop : Option ℕ → List Entry → Type 0
AreToldStop stop history = AllByRecursion (λ entry. (fault : ℕ) → TellsStop entry fault → stop ≡ Some fault) history

-- ---- an excuse has its cause

-- Each request that asks for a commit is refused, or told that the store has stopped at this fault.
abbrev pub AreHalted : ℕ → List Entry → Type 0
AreHalted fault history = AllByRecursion (λ entry. asks_commit entry.op ≡ true → is_refused entry.reply ≡ false → stopped_in entry.reply ≡ Some fault) history

-- Once a reply tells that the store stopped, this is so of all behind it.
abbrev pub StaysHalted : List Entry → Type 0
StaysHalted [] = ⊤
StaysHalted (entry ∷ later) = ((fault : ℕ) → TellsStop entry fault → AreHalted fault later) × StaysHalted later

-- each number is below all behind it
abbrev pub AreRising : List ℕ → Type 0
AreRising [] = ⊤
AreRising (fault ∷ later) = AllByRecursion (λ other. fault < other) later × AreRising later

-- The excuses of a history for faults of the disk have their cause in it.
pub record AreFaultsCaused (history : List Entry) : Type 0 where
  -- that the store had stopped is told to a request that asks for a commit
  pub asked : AllByRecursion (λ entry. (fault : ℕ) → stopped_in entry.reply ≡ Some fault → asks_commit entry.op ≡ true) history
  -- and from the first such reply on to each one that isn't refused
  pub halted : StaysHalted history
  -- the numbers of the disk's faults rise
  pub rising : AreRising (devices_in history)
  -- and only a request is told one that may have a turn of the store
  pub turns : AllByRecursion (λ entry. (fault : ℕ) → device_in entry.reply ≡ Some fault → may_turn entry.op ≡ true) history

-- ---- the store beside it

-- The store's epoch and next commit number are raised by no more than so many requests may raise them.
pub record IsRaisedBy (requests : ℕ) (old new : StoreState) : Type 0 where
  pub geometry : geometry_of_store new ≡ geometry_of_store old
  pub raised : HasRaised (requests * most_raised (geometry_of_store old)) (requests * most_raised (geometry_of_store old)) old new

-- The store's count of faults, where it stopped, and its numbers, before and after a history.
pub record AreFaultsTold (old new : StoreState) (history : List Entry) : Type 0 where
  -- a fault that a reply tells is that of a read, or the one at which the store stopped
  pub each : (fault : ℕ) → Has fault (devices_in history) → IsReadFault old new fault ⊎ IsStopFault old new fault
  -- no two replies tell one
  pub once : IsDistinct nat_eq (devices_in history)
  -- each is told for its cause
  pub caused : AreFaultsCaused history
  -- also where the store had stopped before
  pub halted : (fault : ℕ) → old.stop ≡ Some fault → AreHalted fault history
  -- where the store had stopped it stays
  pub kept : (fault : ℕ) → old.stop ≡ Some fault → new.stop ≡ Some fault
  -- where it stops it stops at a fault of this session
  pub stopped : (fault : ℕ) → old.stop ≡ None → new.stop ≡ Some fault → HasRisen old.faults new.faults fault
  pub stops : AreToldStop new.stop history
  -- and that is no read's
  pub apart : (fault : ℕ) → old.stop ≡ None → new.stop ≡ Some fault → Has fault (reads_in history) → ⊥
  pub count : min old.faults (2 ^ 64 - 1) ≤ new.faults
  -- where none is told and the store goes on, no call failed that could have been told
  pub quiet : devices_in history ≡ [] → new.stop ≡ None → IsCountStill old.faults new.faults
  pub numbers : IsRaisedBy (length history) old new

-- ---- one request

-- The blocks that a request needs were read first. A read that fails stops nothing, and is told where its number can be.
pub record HasRead (old mid : StoreState) (failed : Option ℕ) : Type 0 where
  pub stop : mid.stop ≡ old.stop
  pub told : (fault : ℕ) → failed ≡ Some fault → (fault ≡ old.faults + 1) × (mid.faults ≡ fault) × (fault < 2 ^ 64 - 1)
  pub untold : failed ≡ None → (mid.faults ≡ old.faults) ⊎ RoseTo old.faults mid.faults (2 ^ 64 - 1)

-- What a request's reply tells of faults: a read failed before it was served, and the reply tells so, or it was served.
pub record TellsRequest (old new : StoreState) (reply : Reply) : Type 0 where
  pub read : StoreState
  pub failed : Option ℕ
  pub before : HasRead old read failed
  -- the reply tells the read and nothing else was done, or it is the server's
  pub ends : ((device_in reply ≡ failed) × (stopped_in reply ≡ None) × (new ≡ read))
      ⊎ ((failed ≡ None) × TellsFaults read new reply × ((fault : ℕ) → stopped_in reply ≡ Some fault → read.stop ≡ Some fault) × ((fault : ℕ) → read.stop ≡ Some fault → device_in reply ≡ None))

-- The excuse for a fault has its cause in the request.
pub record IsCaused (old new : StoreState) (request : Op) (reply : Reply) : Type 0 where
  -- that the store has stopped is told to each request that asks for a commit and isn't refused, and to no other
  pub asked : (fault : ℕ) → stopped_in reply ≡ Some fault → asks_commit request ≡ true
  pub halted : asks_commit request ≡ true → (fault : ℕ) → old.stop ≡ Some fault → is_refused reply ≡ false → stopped_in reply ≡ Some fault
  -- a fault of the disk is told to one that may have a turn of the store
  pub turns : (fault : ℕ) → device_in reply ≡ Some fault → may_turn request ≡ true
  -- the store stopped at it where the request asks for a commit, and else a read failed, which stops nothing
  pub stops : (fault : ℕ) → asks_commit request ≡ true → device_in reply ≡ Some fault → new.stop ≡ Some fault
  pub reads : (fault : ℕ) → asks_commit request ≡ false → device_in reply ≡ Some fault → new.stop ≡ old.stop
