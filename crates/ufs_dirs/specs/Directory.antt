-- A directory as its blocks have it.
use Rattle.std.specs.Prelude.{◌≡◌, ◌≢◌, ℕ, ◌*◌, ◌<◌, List, length, Bool, true, ◌&&◌, ◌==◌, IsTrue, Option, All, nat_eq, slice_index_or}
use Rattle.std.specs.List.{find, list_any, IsDistinct}
use Rattle.std.specs.Str.{bytes_eq}
use Rattle.std.specs.Ordering.{nat_cmp}
use Rattle.std.specs.Cmp.Lexicographic.{slice_cmp}
use Rattle.std.specs.declared.cmp.Ordering.{Ordering}
use Rattle.ufs_base.specs.declared.sizes.TheConstants.{MAX_BLOCKS, SLOTS_PER_BLOCK}
use Rattle.ufs_layout.specs.DentryForm.{DentryForm, free_slot, is_dentry, is_named}

-- its blocks in order, and what stands in their slots: `SLOTS_PER_BLOCK` a block, those of the first block first
pub record Directory : Type 0 where
  pub blocks : List ℕ
  pub slots : List DentryForm

abbrev pub has_block : List ℕ → ℕ → Bool
has_block blocks block = list_any (λ b. b == block) blocks

-- ---- names

-- what stands at this place; nothing behind the end
abbrev pub entry_at : List DentryForm → ℕ → DentryForm
entry_at slots place = slice_index_or slots place free_slot

abbrev pub has_name : List ℕ → DentryForm → Bool
has_name name e = is_named e && bytes_eq e.name name

-- The directory as a map from names to dentries: what a name stands for.
abbrev pub entry_of : List DentryForm → List ℕ → Option DentryForm
entry_of slots name = find (has_name name) slots

-- names by their bytes
abbrev pub name_cmp : List ℕ → List ℕ → Ordering
name_cmp = slice_cmp nat_cmp

-- Used slots have different names.
abbrev pub NamesOnce : List DentryForm → Type 0
NamesOnce slots = (i j : ℕ) → i < j → j < length slots → is_named (entry_at slots j) ≡ true → (entry_at slots i).name ≢ (entry_at slots j).name

-- what is true of every directory
pub record IsDirectory (d : Directory) : Type 0 where
  pub sized : length d.slots ≡ SLOTS_PER_BLOCK * length d.blocks
  pub blocks_once : IsDistinct nat_eq d.blocks
  pub blocks_below : All (λ b. b < MAX_BLOCKS) d.blocks
  pub forms : All (λ e. IsTrue (is_dentry e)) d.slots
  pub names_once : NamesOnce d.slots
