-- The tree of an image, as the file calls see it.
use Rattle.std.specs.Prelude.{ℕ, ◌≡◌, List, length, map, Option, Some, None, Ok, false}
use Rattle.ufs_image.specs.Damage.{bad_tree}
use Rattle.ufs_image.specs.Volume.{volume}
use Rattle.ufs_damage.specs.Findings.{AreFindingsOf}
use Rattle.ufs_overlay.specs.Seen.{HasAdded}
use Rattle.ufs_volume.specs.Volumes.{committed_in, folded_image, volume_in}
use Rattle.ufs_opening.specs.declared.opened.Opened.{Opened}
use Rattle.std.specs.FinMap as fin
use Rattle.std.specs.FinMap.{from_entries}
use Rattle.ufs_base.specs.Images.{Image}
use Rattle.ufs_layout.specs.Areas.{all_inodes}
use Rattle.ufs_layout.specs.InodeForm.{InodeForm}
use Rattle.ufs_layout.specs.declared.geometry.Geometry.{Geometry}
use Rattle.ufs_image.specs.Images.{form_at, inode_at}
use Rattle.ufs_image.specs.Catalog.{IsInode}
use Rattle.ufs_image.specs.Nodes.{is_bad_inode, is_bad_extent}
use Rattle.ufs_image.specs.Opens.{NodeBytes, ImageTree, file_bytes}
use Rattle.ufs_image.specs.Opens as image
use Rattle.ufs_model.specs.Start.{PathNodes}
use Rattle.ufs_model.specs.declared.data.PathEntry.{PathEntry}
use Rattle.ufs_model.specs.declared.data.PathNode.{PathNode}
use Rattle.ufs_model.specs.declared.data.PathNode.TheVariants as node

-- a file's bytes; none for a directory
abbrev pub bytes_of_node : PathNode → NodeBytes
bytes_of_node node.Dir = None
bytes_of_node (node.File bytes) = Some bytes

-- the tree of paths, as an image stands for it
abbrev pub image_tree : PathNodes → ImageTree
image_tree nodes = from_entries (map {B = image.PathEntry} (λ (e : List ℕ × PathNode). (e.0, bytes_of_node e.1)) (fin.entries nodes))

abbrev pub shown_entry : PathEntry → image.PathEntry
shown_entry e = (e.path, bytes_of_node e.node)

abbrev pub shown : List PathEntry → List image.PathEntry
shown es = map {B = image.PathEntry} shown_entry es

-- The forms are those of the image, and none of them is off its form, leaves the data area or is short of blocks.
pub record AreReadable (g : Geometry) (disk : Image) (forms : List (Option InodeForm)) : Type 0 where
  pub forms_are : forms ≡ map (inode_at g disk) (all_inodes g)
  pub on_form : (inode : ℕ) → IsInode g inode → is_bad_inode g disk inode ≡ false
  pub inside : (inode : ℕ) → IsInode g inode → is_bad_extent g disk inode ≡ false
  -- a file has as many bytes as its size says
  pub sized : (inode : ℕ) → IsInode g inode → length (file_bytes disk (form_at g disk inode)) ≡ (form_at g disk inode).size

-- The image was opened: there is a volume, whose overlay has what is committed, these are its findings, and nothing of
-- its tree is damaged.
pub record IsOpened (o : Opened) (sectors : ℕ) (disk : Image) : Type 0 where
  pub taken : volume sectors disk ≡ Ok (volume_in o.volume disk)
  pub added : HasAdded o.volume.overlay (committed_in o.volume disk)
  pub found : AreFindingsOf o.volume.superblock.geometry (folded_image o.volume disk) o.findings
  pub whole : bad_tree o.volume.superblock.geometry (folded_image o.volume disk) ≡ None
