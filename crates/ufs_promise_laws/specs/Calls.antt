-- The changes of names that calls make, and that they leave the names sound.
use Rattle.std.specs.Prelude.{ℕ, ◌≡◌, ◌≢◌, None}
use Rattle.ufs_layout.specs.DentryForm.{DentryForm, free_slot}
use Rattle.ufs_layout.specs.declared.geometry.Geometry.{Geometry}
use Rattle.ufs_path.specs.Names.{IsName}
use Rattle.ufs_dirs.specs.Directory.{entry_of}
use Rattle.ufs_dirs.specs.Changes.{place_of}
use Rattle.ufs_dirs.specs.declared.Slot.{Slot}
use Rattle.ufs_dir_tree.specs.DirTable.{slots_at, blocks_at}
use Rattle.ufs_dir_tree.specs.Steps.{DirState, Put, after, after_all, adding, dropping, moving}
use Rattle.ufs_promise_laws.specs.Held.{HasName, MaySteps, HasSoundNames}

-- This stands in the slot.
abbrev pub StandsIn : Geometry → DirState → ℕ → Slot → DentryForm → Type 0
StandsIn g s dir slot d = HasName g s dir (place_of (blocks_at s.table dir) slot) d

-- A name that may stand in a path and isn't in the directory, for an inode that was none,
abbrev pub AddingIsSound : Geometry → Type 0
AddingIsSound g = (s : DirState) (dir : ℕ) (slot : Slot) (d : DentryForm) → HasSoundNames g s → MaySteps g s (adding dir slot d) → s.kinds d.inode ≡ 0 → d.inode ≢ 1 → IsName d.name
    → entry_of (slots_at s.table dir) d.name ≡ None → HasSoundNames g (after_all (adding dir slot d) s)

-- a name that goes with its inode,
abbrev pub DroppingIsSound : Geometry → Type 0
DroppingIsSound g = (s : DirState) (dir : ℕ) (slot : Slot) (d : DentryForm) → HasSoundNames g s → StandsIn g s dir slot d → MaySteps g s (dropping dir slot d.inode) → HasSoundNames g (after_all (dropping dir slot d.inode) s)

-- and one that is moved to where its new name isn't: each leaves the names sound.
abbrev pub MovingIsSound : Geometry → Type 0
MovingIsSound g = (s : DirState) (from to : ℕ) (old new : Slot) (d e : DentryForm) → HasSoundNames g s → StandsIn g s from old d → e.inode ≡ d.inode → e.kind ≡ d.kind → IsName e.name → MaySteps g s (moving from old to new e)
    → entry_of (slots_at (after (Put from old free_slot) s).table to) e.name ≡ None → HasSoundNames g (after_all (moving from old to new e) s)
