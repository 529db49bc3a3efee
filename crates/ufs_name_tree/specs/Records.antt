-- The record of each step of a change of names.
use Rattle.std.specs.Prelude.{ℕ, ◌*◌, List, [], ◌∷◌, ◌++◌, length, Option, Some, None}
use Rattle.ufs_base.specs.declared.sizes.TheConstants.{BLOCK}
use Rattle.ufs_layout.specs.DentryForm.{DentryForm, free_slot}
use Rattle.ufs_layout.specs.declared.records.LogRecord.{LogRecord}
use Rattle.ufs_layout.specs.declared.records.LogRecord.TheVariants.{Delta, Place, Free}
use Rattle.ufs_dirs.specs.declared.Slot.{Slot}
use Rattle.ufs_dir_tree.specs.DirTable.{DirTable, blocks_at}
use Rattle.ufs_dir_tree.specs.Space.{extents_of}
use Rattle.ufs_dir_tree.specs.Steps.{Step, Born, Grown, Put, Freed, table_after}
use Rattle.ufs_dir_tree.specs.declared.found.Found.{Found}
use Rattle.ufs_dir_tree.specs.declared.found.Found.TheVariants.{Dir}
use Rattle.ufs_dir_tree.specs.declared.place.Moved.{Moved}
use Rattle.ufs_ilog.specs.Deltas as log

-- A directory with these blocks. It is told whole, since an image may spell the extents of the same blocks otherwise.
abbrev pub dir_delta : (inode : ℕ) (blocks : List ℕ) → LogRecord
dir_delta inode blocks = Delta inode 2 (BLOCK * length blocks) 0 (log.extents_of (extents_of blocks))

abbrev pub record_of : DirTable → Step → LogRecord
record_of t (Born i kind) = Delta i kind 0 0 []
record_of t (Grown i block) = dir_delta i (blocks_at t i ++ block ∷ [])
record_of t (Put i slot d) = Place slot.sector slot.slot d
record_of t (Freed i) = Free i

-- each over the directories behind those before it
abbrev pub records_of : DirTable → List Step → List LogRecord
records_of t [] = []
records_of t (x ∷ xs) = record_of t x ∷ records_of (table_after x t) xs

-- ---- what a change tells, in the order of its steps

-- a directory that took a block
abbrev pub grown_noted : DirTable → ℕ → Option ℕ → List LogRecord
grown_noted t dir None = []
grown_noted t dir (Some block) = dir_delta dir (blocks_at t dir) ∷ []

-- an inode that has nothing yet
abbrev pub born_noted : (inode kind : ℕ) → LogRecord
born_noted inode kind = Delta inode kind 0 0 []

-- a slot that was set
abbrev pub slot_noted : Slot → DentryForm → LogRecord
slot_noted slot d = Place slot.sector slot.slot d

-- a name that went, and the inode of a directory that it stood for
abbrev pub cleared_noted : Slot → Option Found → List LogRecord
cleared_noted slot (Some (Dir i)) = slot_noted slot free_slot ∷ Free i ∷ []
cleared_noted slot _ = slot_noted slot free_slot ∷ []

-- the same of a name that gave place to another, where there was one
abbrev pub replaced_noted : Option Slot → Option Found → List LogRecord
replaced_noted None at = []
replaced_noted (Some slot) at = cleared_noted slot at

abbrev pub added_noted : DirTable → ℕ → Option ℕ → Slot → DentryForm → List LogRecord
added_noted t dir grown slot d = grown_noted t dir grown ++ born_noted d.inode d.kind ∷ slot_noted slot d ∷ []

abbrev pub moved_noted : DirTable → ℕ → Moved → Option Found → DentryForm → List LogRecord
moved_noted t dir m at d = replaced_noted m.dropped at ++ grown_noted t dir m.grown ++ slot_noted m.left free_slot ∷ slot_noted m.taken d ∷ []
