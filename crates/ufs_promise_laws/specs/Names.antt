-- Which steps leave the names sound.
use Rattle.std.specs.Prelude.{ℕ, ◌≡◌, ◌≢◌, ◌+◌, ◌⊎◌, ⊤, length, true, Some}
use Rattle.std.specs.List.{slice_get}
use Rattle.ufs_layout.specs.DentryForm.{DentryForm, free_slot, is_named}
use Rattle.ufs_layout.specs.declared.geometry.Geometry.{Geometry}
use Rattle.ufs_dirs.specs.Changes.{place_of}
use Rattle.ufs_dirs.specs.Directory.{IsDirectory}
use Rattle.ufs_dirs.specs.declared.Slot.{Slot}
use Rattle.ufs_dir_tree.specs.DirTable.{DirTable, IsDirTable, IsMet, dir_at, slots_at, blocks_at}
use Rattle.ufs_dir_tree.specs.Steps.{DirState, Step, Born, Grown, Put, Freed, after}
use Rattle.ufs_promise_laws.specs.Held.{HasName, FitsName, MayPut, MayStep, HasSoundNames}

-- The name fits, and neither it nor its inode is there at another place.
pub record IsNewName (g : Geometry) (s : DirState) (dir : ℕ) (slot : Slot) (d : DentryForm) : Type 0 where
  pub fits : FitsName g s d
  pub name : (p : ℕ) (e : DentryForm) → HasName g s dir p e → e.name ≡ d.name → p ≡ place_of (blocks_at s.table dir) slot
  pub inode : (other p : ℕ) (e : DentryForm) → HasName g s other p e → e.inode ≡ d.inode → (other ≡ dir) × (p ≡ place_of (blocks_at s.table dir) slot)

-- No name stands for the inode, but for names in itself.
abbrev pub IsNameless : Geometry → DirState → ℕ → Type 0
IsNameless g s inode = (dir p : ℕ) (e : DentryForm) → dir ≢ inode → HasName g s dir p e → e.inode ≢ inode

-- An inode is born that is none; a name is cleared, or is new; an inode is freed that has no name.
abbrev pub KeepsNames : Geometry → DirState → Step → Type 0
KeepsNames g s (Born i kind) = s.kinds i ≡ 0
KeepsNames g s (Grown i block) = ⊤
KeepsNames g s (Put i slot d) = (d ≡ free_slot) ⊎ IsNewName g s i slot d
KeepsNames g s (Freed i) = IsNameless g s i

-- Such a step leaves sound names sound.
abbrev pub NamesStaySound : Geometry → Type 0
NamesStaySound g = (s : DirState) (x : Step) → HasSoundNames g s → MayStep g s x → KeepsNames g s x → HasSoundNames g (after x s)

-- ---- names of a table

-- Each directory is one, and each that has a name is met by a walk from the root; and each name's inode is of its kind.
pub record IsWellNamed (t : DirTable) (kinds : ℕ → ℕ) : Type 0 where
  pub dirs : (i : ℕ) → IsDirectory (dir_at t i)
  pub met : (i place : ℕ) (d : DentryForm) → slice_get (slots_at t i) place ≡ Some d → is_named d ≡ true → IsMet t i
  pub kind : (i place : ℕ) (d : DentryForm) → slice_get (slots_at t i) place ≡ Some d → is_named d ≡ true → (kinds d.inode ≡ d.kind) × (d.kind ≢ 0)

-- A table of directories that is so has sound names.
abbrev pub TablesNameSoundly : Geometry → Type 0
TablesNameSoundly g = (s : DirState) → length s.table.dirs ≡ g.inodes + 1 → IsDirTable s.table → IsWellNamed s.table s.kinds → HasSoundNames g s

-- ---- the order of slots

-- Where the first may be set it may be behind the second, and both orders lead to the same.
pub record IsEitherOrder (g : Geometry) (s : DirState) (i j : ℕ) (a b : Slot) (d e : DentryForm) : Type 0 where
  pub may : MayPut g (after (Put j b e) s) i a d
  pub same : after (Put i a d) (after (Put j b e) s) ≡ after (Put j b e) (after (Put i a d) s)

-- Two slots may be set in either order. So the two of a rename stand in the order of their sectors, though a name that stands
-- elsewhere too is no new one.
abbrev pub PutsCommute : Geometry → Type 0
PutsCommute g = (s : DirState) (i j : ℕ) (a b : Slot) (d e : DentryForm) → MayPut g s i a d → MayPut g s j b e → (i ≡ j → place_of (blocks_at s.table i) a ≢ place_of (blocks_at s.table i) b)
    → IsEitherOrder g s i j a b d e
