-- Slots of a directory, and what a change of one does.
use Rattle.std.specs.Prelude.{◌≡◌, ◌≢◌, ℕ, ◌+◌, ◌*◌, ◌/◌, ◌%◌, ◌<◌, List, length, true, false, ◌==◌, Option, Some, IsSome, slice_set, take, drop, flat_map}
use Rattle.std.specs.List.{position_or_len}
use Rattle.std.specs.declared.cmp.Ordering.TheVariants.{Less, Greater}
use Rattle.ufs_layout.specs.DentryForm.{DentryForm, dentry_bytes, is_named}
use Rattle.ufs_dirs.specs.Directory.{Directory, entry_at, entry_of, name_cmp}
use Rattle.ufs_dirs.specs.declared.Slot.{Slot}

-- A slot's place: its block's place in the list, 8 sectors a block, 8 slots a sector.
abbrev pub place_of : List ℕ → Slot → ℕ
place_of blocks s = 64 * position_or_len (λ b. b == s.sector / 8) blocks + 8 * (s.sector % 8) + s.slot

-- a slot of the directory's blocks
pub record IsSlot (d : Directory) (s : Slot) : Type 0 where
  pub in_sector : s.slot < 8
  pub in_blocks : place_of d.blocks s < length d.slots

abbrev pub entry_in : Directory → Slot → DentryForm
entry_in d s = entry_at d.slots (place_of d.blocks s)

pub record IsFreeSlot (d : Directory) (s : Slot) : Type 0 where
  pub slot : IsSlot d s
  pub free : is_named (entry_in d s) ≡ false

-- Of the free slots it has the lowest place.
pub record IsLowestFree (d : Directory) (s : Slot) : Type 0 where
  pub free : IsFreeSlot d s
  pub lowest : (place : ℕ) → place < place_of d.blocks s → is_named (entry_at d.slots place) ≡ true

-- the slot in which a name stands
pub record IsSlotOf (d : Directory) (name : List ℕ) (s : Slot) : Type 0 where
  pub slot : IsSlot d s
  pub used : is_named (entry_in d s) ≡ true
  pub named : (entry_in d s).name ≡ name

-- the directory with this in the slot
abbrev pub with_entry : Directory → Slot → DentryForm → Directory
with_entry d s e = record d { slots = slice_set d.slots (place_of d.blocks s) e }

-- The name stands for this now, and each other name for what it did.
pub record SetsName (old new : Directory) (name : List ℕ) (w : Option DentryForm) : Type 0 where
  pub this : entry_of new.slots name ≡ w
  pub others : (other : List ℕ) → other ≢ name → entry_of new.slots other ≡ entry_of old.slots other

-- Of the names above this one it has the lowest.
pub record IsNextName (d : Directory) (after : List ℕ) (e : DentryForm) : Type 0 where
  pub there : entry_of d.slots e.name ≡ Some e
  pub above : name_cmp after e.name ≡ Less
  pub lowest : (name : List ℕ) → IsSome (entry_of d.slots name) → name_cmp after name ≡ Less → name_cmp e.name name ≢ Greater

-- No name is above this one.
abbrev pub IsLastName : Directory → List ℕ → Type 0
IsLastName d after = (name : List ℕ) → IsSome (entry_of d.slots name) → name_cmp after name ≢ Less

-- the bytes of a block's 64 slots
abbrev pub bytes_of_block : List DentryForm → ℕ → List ℕ
bytes_of_block slots index = flat_map dentry_bytes (take 64 (drop (64 * index) slots))
