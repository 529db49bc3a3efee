-- What the calls of a disk in memory do. This is the disk's model in full: each moment follows from the calls that passed.
use Rattle.std.specs.Prelude.{◌≡◌, ◌⊎◌, ℕ, zero, suc, ◌+◌, ◌%◌, ◌/◌, true, false, List, [], ◌∷◌, ◌++◌, length, if◌then◌else◌, ◌==◌, slice_index_or, Result, OnOk, OnErr}
use Rattle.ufs_base.specs.Faults.{raised}
use Rattle.ufs_disk.specs.Disk.{State, possible, seen, sectors_of}
use Rattle.ufs_disk.specs.Moments.{Moments, gone_to}
use Rattle.ufs_disk.specs.declared.disk.Fault.{Fault}
use Rattle.ufs_disk.specs.declared.medium.Request.{Request}
use Rattle.ufs_disk.specs.declared.medium.Request.TheVariants.{Read, Write, Barrier}
use Rattle.ufs_disk.specs.declared.medium.Call.{Call}

-- the sector has this content too, and a read gives it
abbrev pub give : ℕ → List ℕ → State → State
give sector bytes state k = if k == sector then record { older = possible (state k); seen = bytes } else state k

-- each sector has only what a read gives
abbrev pub settled : State → State
settled state sector = record { older = []; seen = seen state sector }

-- sectors from one on are written, one after the other
abbrev pub written : ℕ → List (List ℕ) → Moments → Moments
written sector [] moments = moments
written sector (piece ∷ rest) moments = written (sector + 1) rest (gone_to (give sector piece moments.state) moments)

abbrev pub after_request : Request → Moments → Moments
after_request (Read sector bytes) moments = moments
after_request (Write sector bytes) moments = written sector (sectors_of bytes.items) moments
after_request Barrier moments = gone_to (settled moments.state) moments

-- a call that failed changes nothing
abbrev pub after_call : Call → Moments → Moments
after_call call moments = if call.passed then after_request call.request moments else moments

abbrev pub after_calls : List Call → Moments → Moments
after_calls [] moments = moments
after_calls (call ∷ calls) moments = after_calls calls (after_call call moments)

-- A call is noted with its request. It passes where it may and fails where it must. One that finds no memory fails
-- too, and is counted so and not noted.
pub record Notes {T : Type 0} (May Must : Type 0) (IsAsked : Request → Type 0) (old new : List Call) (starved_old starved_new : ℕ) (result : Result T Fault) : Type 0 where
  pub may : OnOk result May
  pub passed : OnOk result ((request : Request) × IsAsked request × (new ≡ old ++ record { request = request; passed = true } ∷ []))
  pub fed : OnOk result (starved_new ≡ starved_old)
  pub failed : OnErr result (((new ≡ old) × (starved_new ≡ raised starved_old))
      ⊎ (Must × (starved_new ≡ starved_old) × (request : Request) × IsAsked request × (new ≡ old ++ record { request = request; passed = false } ∷ [])))

-- it asks to write these bytes there
abbrev pub IsWrite : ℕ → List ℕ → Request → Type 0
IsWrite sector bytes (Read other count) = ⊥
IsWrite sector bytes (Write other written) = (other ≡ sector) × (written.items ≡ bytes)
IsWrite sector bytes Barrier = ⊥

-- The image that a number names: of so many sectors from one on, each sector's possible content with that number
-- modulo how many there are, oldest first, and then by the quotient.
abbrev pub picked : State → ℕ → ℕ → ℕ → List ℕ
picked state pick sector zero = []
picked state pick sector (suc count) =
    let contents = possible (state sector) in
    slice_index_or contents (pick % length contents) [] ++ picked state (pick / length contents) (sector + 1) count
