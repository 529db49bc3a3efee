-- What the answer to a request tells of the store's stop, and of what the store counts.
use Rattle.std.specs.Prelude.{ℕ, ◌≡◌, ◌+◌, ◌≤◌, Option, Some, None}
use Rattle.ufs_joint.specs.Cells.{View}
use Rattle.ufs_model.specs.declared.data.Excuse.TheVariants as excuse
use Rattle.ufs_model.specs.declared.data.Reply.{Reply}
use Rattle.ufs_model.specs.declared.data.Reply.TheVariants as reply
use Rattle.ufs_turns.specs.Lent.{Runs, StopsByFault, Tally, stop_in, tally_in}
use Rattle.ufs_turns.specs.Told.{fault_told}

-- The answer excuses by a stop where the store had stopped before, by just that one, and else by none.
pub record TellsItsStop (stop : Option ℕ) (r : Reply) : Type 0 where
  pub halted : (fault : ℕ) → stop ≡ Some fault → r ≡ reply.Excused (excuse.Stopped fault)
  pub only : (fault : ℕ) → r ≡ reply.Excused (excuse.Stopped fault) → stop ≡ Some fault

-- So a request is answered, where the store's cell is told.
abbrev pub ExcusesByStop : Option View → Reply → Type 0
ExcusesByStop (Some v) r = TellsItsStop (stop_in v.store) r
ExcusesByStop None r = Unit {0}

-- the fault of the device that an answer tells
abbrev pub fault_by : Reply → Option ℕ
fault_by (reply.Excused (excuse.Device fault)) = Some fault
fault_by _ = None

-- Behind a request that is answered so, the store has stopped where it had before, or at the fault by which a turn of the request failed.
-- The answer tells that fault, but for the last number of the disk's count, which is no fault's. The count went on by that fault alone, and
-- the store's epoch and next commit number by no more than these.
abbrev pub StopsByReply : Option View → Option View → (epochs commits : ℕ) → Reply → Type 0
StopsByReply tells told epochs commits r = (fault : Option ℕ) × (fault_told fault ≡ fault_by r) × StopsByFault tells told fault × Runs tells told fault epochs commits

-- The store has stopped where it had before; the count went on by this fault alone, and the store's epoch and next commit number are as they
-- were.
abbrev pub Rests : Option View → Option View → Option ℕ → Type 0
Rests tells told fault = StopsByFault tells told None × Runs tells told fault 0 0

-- So it is behind a request that commits nothing and is answered so, by the fault by which a read of it failed. The answer tells that fault,
-- but for the last number of the disk's count.
abbrev pub RestsByReply : Option View → Option View → Reply → Type 0
RestsByReply tells told r = (fault : Option ℕ) × (fault_told fault ≡ fault_by r) × Rests tells told fault

-- The epoch and the next commit number rose by no more than this.
pub record HasRaisedBy (most : ℕ) (old new : Tally) : Type 0 where
  pub epoch : old.epoch ≤ new.epoch
  pub epoch_most : new.epoch ≤ old.epoch + most
  pub number : old.number ≤ new.number
  pub number_most : new.number ≤ old.number + most

-- So the store's rose, where its cell is told.
abbrev pub Raises : Option View → Option View → ℕ → Type 0
Raises (Some v) (Some w) most = HasRaisedBy most (tally_in v.store) (tally_in w.store)
Raises _ _ most = Unit {0}
