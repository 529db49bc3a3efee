-- What is told of one inode, one block, one slot or one name from findings alone, without an image.
use Rattle.std.specs.Prelude.{ℕ, ◌-◌, List, Bool, false, ◌==◌, ◌&&◌, ◌||◌, not, nat_le, if◌then◌else◌, length, Option, Some, None, slice_index_or}
use Rattle.std.specs.List.{enumerate_from, filter_map, list_any}
use Rattle.std.specs.Prelude.{take}
use Rattle.std.specs.Str.{bytes_eq}
use Rattle.ufs_base.specs.Choices.{some_if}
use Rattle.ufs_layout.specs.InodeForm.{InodeForm}
use Rattle.ufs_layout.specs.DentryForm.{DentryForm, is_named}
use Rattle.ufs_layout.specs.declared.geometry.Geometry.{Geometry}
use Rattle.ufs_image.specs.Nodes.{Node, is_bad_form, ReadSlot, Dir}
use Rattle.ufs_image.specs.Damage.{Damage, BadInode, BadExtent, ShortExtents, BadDentry, FreeInode, NameTwice, is_short, is_bad_dentry}
use Rattle.ufs_damage.specs.declared.forms.FormKind.{FormKind}
use Rattle.ufs_damage.specs.declared.forms.FormKind.TheVariants.{Sector, Extents, Size}
use Rattle.ufs_damage.specs.declared.slots.SlotKind.{SlotKind}
use Rattle.ufs_damage.specs.declared.slots.SlotKind.TheVariants.{Spelling, Target}
use Rattle.ufs_damage.specs.Told.{form_of, has_bad_extent, is_sound_form}

-- ---- inodes

-- an inode's number beside what its sector is the spelling of
abbrev pub ReadForm : Type 0
ReadForm = ℕ × Option InodeForm

abbrev pub numbered : List (Option InodeForm) → List ReadForm
numbered forms = enumerate_from 1 forms

abbrev pub node_of : Geometry → ReadForm → Option Node
node_of g n = some_if (is_sound_form g n.0 n.1) (n.0, form_of n.1)

-- the sound nodes among these
abbrev pub nodes_in : Geometry → List (Option InodeForm) → List Node
nodes_in g forms = filter_map (node_of g) (numbered forms)

abbrev pub form_damage : FormKind → Geometry → ReadForm → Option Damage
form_damage Sector g n = some_if (is_bad_form n.0 n.1) (BadInode n.0)
form_damage Extents g n = some_if (has_bad_extent g n.0 n.1) (BadExtent n.0)
form_damage Size g n = some_if (is_sound_form g n.0 n.1 && is_short (form_of n.1)) (ShortExtents n.0)

-- ---- slots

-- 0 for an inode that is out of range, free or off its form
abbrev pub kind_in : List (Option InodeForm) → ℕ → ℕ
kind_in forms inode = if nat_le 1 inode && nat_le inode (length forms) then (form_of (slice_index_or forms (inode - 1) None)).kind else 0

abbrev pub names_none : List (Option InodeForm) → DentryForm → Bool
names_none forms d = let kind = kind_in forms d.inode in kind == 0 || not (kind == d.kind)

abbrev pub target_damage : List (Option InodeForm) → ℕ → ℕ → Option DentryForm → Option Damage
target_damage forms dir place None = None
target_damage forms dir place (Some d) = some_if (is_named d && names_none forms d) (FreeInode dir place d.inode)

abbrev pub slot_damage : SlotKind → List (Option InodeForm) → ℕ → ReadSlot → Option Damage
slot_damage Spelling forms dir s = some_if (is_bad_dentry s) (BadDentry dir s.0)
slot_damage Target forms dir s = target_damage forms dir s.0 s.1

-- the damage of this kind in all slots of a directory
abbrev pub slots_damage : SlotKind → List (Option InodeForm) → Dir → List Damage
slots_damage kind forms dir = filter_map (slot_damage kind forms dir.inode) dir.slots

-- ---- names

-- The slot has this name.
abbrev pub has_this_name : List ℕ → Option DentryForm → Bool
has_this_name name None = false
has_this_name name (Some d) = is_named d && bytes_eq d.name name

-- One of these slots has the name.
abbrev pub is_known : List (Option DentryForm) → List ℕ → Bool
is_known slots name = list_any (has_this_name name) slots

-- where the slot's name is known already
abbrev pub twice_damage : (List ℕ → Bool) → ℕ → ℕ → Option DentryForm → Option Damage
twice_damage known dir place None = None
twice_damage known dir place (Some d) = some_if (is_named d && known d.name) (NameTwice dir place)

-- A slot before this one has its name.
abbrev pub earlier_damage : List (Option DentryForm) → ℕ → ReadSlot → Option Damage
earlier_damage slots dir s = twice_damage (is_known (take s.0 slots)) dir s.0 s.1
