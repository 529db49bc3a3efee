-- What was read of an image's inodes and directories.
use Rattle.std.specs.Prelude.{◌≡◌, List, map, Option}
use Rattle.ufs_base.specs.Images.{Image}
use Rattle.ufs_layout.specs.Areas.{all_inodes}
use Rattle.ufs_layout.specs.InodeForm.{InodeForm}
use Rattle.ufs_layout.specs.declared.geometry.Geometry.{Geometry}
use Rattle.ufs_image.specs.Images.{inode_at}
use Rattle.ufs_image.specs.Nodes.{Dir, dirs_of, sound_nodes}

pub record CatalogRead : Type 0 where
  -- of inode 1, 2, .. in order; none where its sector is off its form
  pub forms : List (Option InodeForm)
  -- the directories among the sound nodes, by rising inode
  pub dirs : List Dir

-- The findings are those of this image.
pub record AreFindingsOf (g : Geometry) (image : Image) (f : CatalogRead) : Type 0 where
  pub forms : f.forms ≡ map (inode_at g image) (all_inodes g)
  pub dirs : f.dirs ≡ dirs_of image (sound_nodes g image)
