-- What a reply tells of the disk's faults.
use Rattle.std.specs.Prelude.{ℕ, ◌≡◌, ◌⊎◌, Bool, true, false, Option, Some, None, Result, Ok, Err}
use Rattle.ufs_base.specs.Faults.{RoseTo}
use Rattle.ufs_model.specs.declared.data.Excuse.{Excuse}
use Rattle.ufs_model.specs.declared.data.Excuse.TheVariants as excuse
use Rattle.ufs_model.specs.declared.data.Op.{Op}
use Rattle.ufs_model.specs.declared.data.Op.TheVariants as op
use Rattle.ufs_model.specs.declared.data.Reply.{Reply}
use Rattle.ufs_model.specs.declared.data.Reply.TheVariants as reply
use Rattle.ufs_store.specs.Refusals.{IsTold, stop_after}
use Rattle.ufs_store.specs.State.{StoreState}

-- the number of a fault of the disk in this call
abbrev pub device_of : Excuse → Option ℕ
device_of (excuse.Device fault) = Some fault
device_of _ = None

abbrev pub device_in : Reply → Option ℕ
device_in (reply.Excused x) = device_of x
device_in _ = None

abbrev pub device_told : {T : Type 0} → Result T Excuse → Option ℕ
device_told (Ok x) = None
device_told (Err x) = device_of x

-- the number of the fault at which the store stopped earlier
abbrev pub stopped_of : Excuse → Option ℕ
stopped_of (excuse.Stopped fault) = Some fault
stopped_of _ = None

abbrev pub stopped_in : Reply → Option ℕ
stopped_in (reply.Excused x) = stopped_of x
stopped_in _ = None

-- POSIX refuses the request
abbrev pub is_refused : Reply → Bool
is_refused (reply.Refused errno) = true
is_refused _ = false

-- The request may have a turn of the store, in which a call of the disk may fail.
abbrev pub may_turn : Op → Bool
may_turn (op.Stat path) = false
may_turn (op.List path) = false
may_turn (op.Seek fd from by) = false
may_turn (op.Close fd) = false
may_turn _ = true

-- The request gives or changes bytes of a file: no other needs a block of one.
abbrev pub needs_bytes : Op → Bool
needs_bytes (op.Read fd n) = true
needs_bytes (op.Pread fd n at) = true
needs_bytes (op.Write fd bytes) = true
needs_bytes (op.Pwrite fd bytes at) = true
needs_bytes (op.Trunc fd size) = true
needs_bytes _ = false

-- Memory was wanting, or a read failed.
abbrev pub is_of_read : Excuse → Bool
is_of_read excuse.Memory = true
is_of_read (excuse.Device fault) = true
is_of_read _ = false

-- ---- faults that no reply tells

-- No call of the disk failed.
pub record HasNoFault (old new : StoreState) : Type 0 where
  pub faults : new.faults ≡ old.faults
  pub stop : new.stop ≡ old.stop

-- One failed, and the store stopped at it.
pub record StopsAt (old new : StoreState) (fault : ℕ) : Type 0 where
  pub going : old.stop ≡ None
  pub rose : RoseTo old.faults new.faults fault
  pub stop : new.stop ≡ Some fault

abbrev pub IsUntold : StoreState → StoreState → Type 0
IsUntold old new = HasNoFault old new ⊎ ((fault : ℕ) × StopsAt old new fault)

-- The reply tells the call that failed, if one did.
pub record TellsItsOwn (old new : StoreState) (reply : Reply) : Type 0 where
  pub told : IsTold old.faults new.faults (device_in reply)
  pub stop : new.stop ≡ stop_after old.stop (device_in reply)

-- It tells none, and the store stopped at one beside it: later replies tell the stop.
pub record TellsNone (old new : StoreState) (reply : Reply) : Type 0 where
  pub none : device_in reply ≡ None
  pub fault : ℕ
  pub beside : StopsAt old new fault

abbrev pub TellsFaults : StoreState → StoreState → Reply → Type 0
TellsFaults old new reply = TellsItsOwn old new reply ⊎ TellsNone old new reply
