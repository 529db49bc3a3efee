-- The free blocks of an image, whatever its bitmap says.
use Rattle.std.specs.Prelude.{ℕ, Bool, ◌&&◌, not}
use Rattle.ufs_base.specs.Images.{Image}
use Rattle.ufs_bitmap.specs.Space.{is_between}
use Rattle.ufs_layout.specs.Areas.{first_of_data}
use Rattle.ufs_layout.specs.declared.geometry.Geometry.{Geometry}
use Rattle.ufs_image.specs.Nodes.{sound_nodes, is_taken}

-- in the data area, and held by no inode
abbrev pub is_free_block : Geometry → Image → ℕ → Bool
is_free_block g image block = is_between (first_of_data g) g.blocks block && not (is_taken g (sound_nodes g image) block)
