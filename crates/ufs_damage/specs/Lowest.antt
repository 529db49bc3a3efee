-- The lower of two numbers that there may be.
use Rattle.std.specs.Prelude.{ℕ, min, Option, Some, None}
use Rattle.ufs_base.specs.Choices.{some_if}
use Rattle.ufs_layout.specs.Areas.{is_inode_number}
use Rattle.ufs_layout.specs.declared.geometry.Geometry.{Geometry}

abbrev pub lower : Option ℕ → Option ℕ → Option ℕ
lower None b = b
lower (Some a) None = Some a
lower (Some a) (Some b) = Some (min a b)

-- the number, where it is an inode's
abbrev pub if_inode : Geometry → Option ℕ → Option ℕ
if_inode g None = None
if_inode g (Some inode) = some_if (is_inode_number g inode) inode
