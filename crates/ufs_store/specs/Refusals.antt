-- What an answer of a store tells of its disk, and where the store stops.
use Rattle.std.specs.Prelude.{ℕ, ◌≡◌, Bool, true, false, Option, Some, None, Result, Ok, Err}
use Rattle.ufs_base.specs.Faults.{RoseTo}
use Rattle.ufs_store.specs.declared.fault.StoreFault.{StoreFault}
use Rattle.ufs_store.specs.declared.fault.StoreFault.TheVariants.{Device, Stopped, NoSpace, Lack}
use Rattle.ufs_store.specs.declared.fault.Uncommitted.{Uncommitted}

-- the number of the disk's fault that a refusal tells, if it is one of this call
abbrev pub fault_of : StoreFault → Option ℕ
fault_of (Device fault) = Some fault
fault_of (Stopped fault) = None
fault_of (NoSpace need had) = None
fault_of (Lack _) = None

abbrev pub fault_in : {T : Type 0} → Result T StoreFault → Option ℕ
fault_in (Ok x) = None
fault_in (Err refusal) = fault_of refusal

-- The disk's count of faults rose by one to the number that is told, or it is as before.
abbrev pub IsTold : ℕ → ℕ → Option ℕ → Type 0
IsTold before now None = now ≡ before
IsTold before now (Some fault) = RoseTo before now fault

-- the fault at which a store has stopped after a call that told this one
abbrev pub stop_after : Option ℕ → Option ℕ → Option ℕ
stop_after None told = told
stop_after (Some fault) told = Some fault

-- The refusal tells a fault of the disk, of this call or of an earlier one.
abbrev pub is_of_disk : StoreFault → Bool
is_of_disk (Device fault) = true
is_of_disk (Stopped fault) = true
is_of_disk (NoSpace need had) = false
is_of_disk (Lack _) = false

-- It tells of this call alone: a fault of the disk, or want of memory or of a number.
abbrev pub is_own : StoreFault → Bool
is_own (Device fault) = true
is_own (Stopped fault) = false
is_own (NoSpace need had) = false
is_own (Lack _) = true

abbrev pub is_no_space : StoreFault → Bool
is_no_space (Device fault) = false
is_no_space (Stopped fault) = false
is_no_space (NoSpace need had) = true
is_no_space (Lack _) = false

-- an answer without the runs that a refused commit gives back
abbrev pub answer_of : {T : Type 0} → Result T Uncommitted → Result T StoreFault
answer_of (Ok x) = Ok x
answer_of (Err refused) = Err refused.fault
