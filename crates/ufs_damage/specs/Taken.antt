-- The used blocks, and the bits of a bitmap.
use Rattle.std.specs.Prelude.{ℕ, ◌≡◌, List, Bool, false, ◌==◌, ◌||◌, ◌/◌, ◌%◌, ◌^◌, not, nat_lt, map, is_some, slice_index_or, Option}
use Rattle.std.specs.List.{enumerate_from}
use Rattle.ufs_base.specs.Choices.{some_if}
use Rattle.ufs_layout.specs.Words.{byte_at}
use Rattle.ufs_layout.specs.declared.geometry.Geometry.{Geometry}
use Rattle.ufs_image.specs.Nodes.{Node, is_taken}
use Rattle.ufs_image.specs.Damage.{Damage, BitmapDiffers, same_bool}
use Rattle.ufs_damage.specs.declared.marks.Held.{Held}

-- These marks say of each block whether it is used; a block past the last one isn't.
abbrev pub AreTaken : Geometry → List Node → List Bool → Type 0
AreTaken g nodes marks = (block : ℕ) → is_taken g nodes block ≡ slice_index_or marks block false

-- A block is before the data area, or is held.
abbrev pub is_used_block : ℕ → ℕ × Held → Bool
is_used_block first n = nat_lt n.0 first || is_some n.1.first

abbrev pub taken_marks : ℕ → List Held → List Bool
taken_marks first held = map (is_used_block first) (enumerate_from 0 held)

-- the bit of this place, least first in each byte
abbrev pub bit_of : List ℕ → ℕ → Bool
bit_of bytes place = byte_at (place / 8) bytes / 2 ^ (place % 8) % 2 == 1

abbrev pub bit_damage : Bool → Bool → ℕ → Option Damage
bit_damage bit taken block = some_if (not (same_bool bit taken)) (BitmapDiffers block)
