-- A block that is read, slot by slot.
use Rattle.std.specs.Prelude.{◌≡◌, ℕ, ◌+◌, ◌*◌, ◌<◌, ◌≤◌, List, [], ◌∷◌, ◌++◌, length, take, drop, flat_map, false, Some, None, IsSome, ⊤, slice_set}
use Rattle.ufs_layout.specs.DentryForm.{DentryForm, dentry_bytes, dentry_of, is_named}
use Rattle.ufs_dirs.specs.Directory.{Directory, IsDirectory, entry_at, entry_of}
use Rattle.ufs_dirs.specs.declared.SlotFault.{SlotFault}
use Rattle.ufs_dirs.specs.declared.SlotFault.TheVariants.{OffForm, NameTwice}
use Rattle.ufs_dirs.specs.declared.BlockFault.{BlockFault}
use Rattle.ufs_dirs.specs.declared.BlockFault.TheVariants.{NoMemory, BadSlot}

-- the bytes of slot k of the block
abbrev pub slot_bytes : List ℕ → ℕ → List ℕ
slot_bytes bytes k = take 64 (drop (64 * k) bytes)

-- The slot at this place has what the bytes are the spelling of, and nothing else changed.
pub record ReadsSlot (old new : Directory) (place : ℕ) (bytes : List ℕ) : Type 0 where
  pub spelling : dentry_bytes (entry_at new.slots place) ≡ bytes
  pub slots : new ≡ record old { slots = slice_set old.slots place (entry_at new.slots place) }

-- The directory with a block behind the others, of which the first k slots are read and the others free.
pub record IsReadSoFar (old : Directory) (block : ℕ) (bytes : List ℕ) (k : ℕ) (d : Directory) : Type 0 where
  pub directory : IsDirectory d
  pub blocks : d.blocks ≡ old.blocks ++ block ∷ []
  pub kept : take (length old.slots) d.slots ≡ old.slots
  pub spelling : flat_map dentry_bytes (take k (drop (length old.slots) d.slots)) ≡ take (64 * k) bytes
  pub free : (place : ℕ) → length old.slots + k ≤ place → is_named (entry_at d.slots place) ≡ false

-- What is off: the bytes are no dentry's spelling, or the name of the dentry is there already.
abbrev pub IsSlotFault : List DentryForm → List ℕ → SlotFault → Type 0
IsSlotFault slots bytes OffForm = dentry_of bytes ≡ None
IsSlotFault slots bytes NameTwice = (e : DentryForm) × (dentry_of bytes ≡ Some e) × IsSome (entry_of slots e.name)

-- The first slot of the block at which something is off. Want of memory has no cause.
abbrev pub IsBlockFault : Directory → ℕ → List ℕ → BlockFault → Type 0
IsBlockFault old block bytes NoMemory = ⊤
IsBlockFault old block bytes (BadSlot k fault) = (d : Directory) × (k < 64) × IsReadSoFar old block bytes k d × IsSlotFault d.slots (slot_bytes bytes k) fault
