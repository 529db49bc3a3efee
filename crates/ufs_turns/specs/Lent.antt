-- What a turn of the store says of the hand that is lent to it.
use Rattle.std.specs.Prelude.{ℕ, ◌≡◌, ◌+◌, ◌≤◌, ◌<◌, Bool, true, List, [], ◌∷◌, Option, None, Some, Result, Err}
use Rattle.std.specs.FinSet as set
use Rattle.ufs_bitmap.specs.Blocks.{BlockSet}
use Rattle.ufs_file_commits.specs.State.{DurableState}
use Rattle.ufs_joint.specs.Cells.{FileCell, StoreCell, View}
use Rattle.ufs_store.specs.Blocks.{AreApart, MovesLowest}
use Rattle.ufs_store.specs.Numbers.{HasRaised}
use Rattle.ufs_store.specs.Refusals.{IsTold, stop_after}
use Rattle.ufs_store.specs.State.{StoreState}
use Rattle.ufs_store.specs.declared.fault.StoreFault.{StoreFault}
use Rattle.ufs_store.specs.declared.fault.StoreFault.TheVariants as refusal

-- The hand has this file alone with this cell, and not the names.
pub record IsFileIn (name : ℕ) (cell : FileCell) (v : View) : Type 0 where
  pub files : v.files ≡ (name, cell) ∷ []
  pub names : v.names ≡ []
  pub number : cell.value.file.file ≡ name

-- So it lends the file, and hasn't the store's cell.
pub record LendsFile (name : ℕ) (cell : FileCell) (v : View) : Type 0 where
  pub file : IsFileIn name cell v
  pub away : v.store ≡ []

-- It has the file once it is committed: where the disk is visible, all that changed of it is known as committed.
pub record HasCommitted (visible : Bool) (name : ℕ) (cell : FileCell) (value : DurableState) (v : View) : Type 0 where
  pub known : ℕ
  pub file : IsFileIn name (record cell { value = value; known = known }) v
  pub all : visible ≡ true → cell.changed ≤ known

-- Clients and pools are as they were, and the hand has seen no less.
pub record IsBeside (v w : View) : Type 0 where
  pub clients : w.clients ≡ v.clients
  pub asked : w.asked ≡ v.asked
  pub pools : w.pools ≡ v.pools
  pub seen : v.seen ≤ w.seen

-- ---- what is about no file

-- The hand has neither a file nor the names nor the store's cell.
pub record IsBare (v : View) : Type 0 where
  pub files : v.files ≡ []
  pub names : v.names ≡ []
  pub away : v.store ≡ []

-- It has this pool alone, and not the store's cell.
pub record LendsPool (name : ℕ) (pool : BlockSet) (v : View) : Type 0 where
  pub pools : v.pools ≡ (name, pool) ∷ []
  pub away : v.store ≡ []

-- All but the pools is as it was, and the hand has seen no less.
pub record IsBesidePools (v w : View) : Type 0 where
  pub clients : w.clients ≡ v.clients
  pub asked : w.asked ≡ v.asked
  pub files : w.files ≡ v.files
  pub names : w.names ≡ v.names
  pub faults : w.faults ≡ v.faults
  pub seen : v.seen ≤ w.seen

-- Of these unassigned blocks, none of them the pool's, as many as are missing or more, it got the lowest, and 64 more where there were so
-- many; the others are left.
pub record GainsBlocks (missing : ℕ) (had left old new : BlockSet) : Type 0 where
  pub apart : AreApart old had
  pub enough : missing ≤ set.len had
  pub moved : MovesLowest (missing + 64) had left old new

-- There were so many, which is fewer.
pub record LacksBlocks (missing had : ℕ) (fault : StoreFault) : Type 0 where
  pub fewer : had < missing
  pub told : fault ≡ refusal.NoSpace missing had

-- ---- where a way to the store tells of its cell

-- the unassigned blocks
abbrev pub free_in : List (Unit {0} × StoreCell) → BlockSet
free_in [] = set.empty
free_in (c ∷ cs) = c.1.unassigned.free

-- how many places of the journal are given out
abbrev pub used_in : List (Unit {0} × StoreCell) → ℕ
used_in [] = 0
used_in (c ∷ cs) = c.1.journal.used

-- the fault at which the store stopped
abbrev pub stop_in : List (Unit {0} × StoreCell) → Option ℕ
stop_in [] = None
stop_in (c ∷ cs) = c.1.stop

-- Behind a turn the store has stopped where it had before, or at the fault that the turn told, where its cell is told.
abbrev pub StopsByFault : Option View → Option View → Option ℕ → Type 0
StopsByFault (Some v) (Some w) told = stop_in w.store ≡ stop_after (stop_in v.store) told
StopsByFault _ _ told = Unit {0}

-- The device's count of faults went on by what was told, and the store's epoch and next commit number rose by no more than these.
pub record HasRun (told : Option ℕ) (epochs commits : ℕ) (old new : StoreState) : Type 0 where
  pub count : IsTold old.faults new.faults told
  pub raised : HasRaised epochs commits old new

-- what a store counts: the faults of its device, its epochs and its commits
pub record Tally : Type 0 where
  pub faults : ℕ
  pub epoch : ℕ
  pub number : ℕ

abbrev pub tally_in : List (Unit {0} × StoreCell) → Tally
tally_in [] = record { faults = 0; epoch = 0; number = 0 }
tally_in (c ∷ cs) = record { faults = c.1.faults; epoch = c.1.superblock.epoch; number = c.1.journal.number }

-- So they went on.
pub record HasGoneBy (told : Option ℕ) (epochs commits : ℕ) (old new : Tally) : Type 0 where
  pub count : IsTold old.faults new.faults told
  pub epoch : old.epoch ≤ new.epoch
  pub epoch_most : new.epoch ≤ old.epoch + epochs
  pub number : old.number ≤ new.number
  pub number_most : new.number ≤ old.number + commits

abbrev pub RunIn : Option ℕ → (epochs commits : ℕ) → List (Unit {0} × StoreCell) → List (Unit {0} × StoreCell) → Type 0
RunIn told epochs commits old new = HasGoneBy told epochs commits (tally_in old) (tally_in new)

-- So it was in a turn, where the store's cell is told.
abbrev pub Runs : Option View → Option View → Option ℕ → (epochs commits : ℕ) → Type 0
Runs (Some v) (Some w) told epochs commits = RunIn told epochs commits v.store w.store
Runs _ _ told epochs commits = Unit {0}

-- A turn of a store that had stopped says so, where its cell is told.
abbrev pub TellsStop : {A : Type 0} → Option View → Result A StoreFault → Type 0
TellsStop (Some v) result = (fault : ℕ) → stop_in v.store ≡ Some fault → result ≡ Err (refusal.Stopped fault)
TellsStop None result = Unit {0}

-- Who is told in a turn that the store has stopped is told the fault at which it did, where its cell is told.
abbrev pub TellsWhere : {A : Type 0} → Option View → Result A StoreFault → Type 0
TellsWhere (Some v) result = (fault : ℕ) → result ≡ Err (refusal.Stopped fault) → stop_in v.store ≡ Some fault
TellsWhere None result = Unit {0}

-- So it is with the unassigned blocks before a turn and behind it, where they are told.
abbrev pub AreTold : Option View → Option View → (BlockSet → BlockSet → Type 0) → Type 0
AreTold (Some v) (Some w) so = so (free_in v.store) (free_in w.store)
AreTold _ _ so = Unit {0}
