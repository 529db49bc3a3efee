-- What is told of an inode from its form alone.
use Rattle.std.specs.Prelude.{ℕ, Bool, ◌&&◌, not, Option, unwrap_or}
use Rattle.std.specs.List.{list_any}
use Rattle.ufs_layout.specs.InodeForm.{InodeForm, free_inode, is_used}
use Rattle.ufs_layout.specs.declared.geometry.Geometry.{Geometry}
use Rattle.ufs_image.specs.Nodes.{is_bad_form, leaves_data}

-- An inode that is off its form counts as a free one.
abbrev pub form_of : Option InodeForm → InodeForm
form_of o = unwrap_or o (free_inode 0)

abbrev pub has_bad_extent : Geometry → ℕ → Option InodeForm → Bool
has_bad_extent g inode o = not (is_bad_form inode o) && list_any (leaves_data g) (form_of o).extents

-- used, on its form, and inside the data area
abbrev pub is_sound_form : Geometry → ℕ → Option InodeForm → Bool
is_sound_form g inode o = not (is_bad_form inode o) && (not (has_bad_extent g inode o) && is_used (form_of o))
