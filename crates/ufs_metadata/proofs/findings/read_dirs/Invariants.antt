use Rattle.std.proofs.Common.{◌≡◌, IsTrue, map}
use Rattle.std.specs.List.{range_with_len, filter_map}
use Rattle.ufs_base.specs.Images.{Image}
use Rattle.ufs_disk.specs.Moments.{reads}
use Rattle.ufs_metadata.specs.Folded.{IsFolded}
use Rattle.ufs_metadata.specs.Reading.{IsReadOnly}
use Rattle.ufs_layout.specs.Areas.{all_inodes}
use Rattle.ufs_image.specs.Images.{inode_at}
use Rattle.ufs_image.specs.Nodes.{dirs_of, sound_node}
use Rattle.ufs_metadata.proofs.findings.read_dirs.Given as goal

abbrev pub invariant-loop-i : goal.invariant-loop-i
invariant-loop-i g l =
    let disk = g.D.Disk in
    let first = disk.moments l.fn.disk in
    record {
      dirs : IsTrue disk.visible → (image : Image) → IsFolded l.overlay (reads first) image → l.forms ≡ map (inode_at l.geometry image) (all_inodes l.geometry) → l.dirs.items ≡ dirs_of image (filter_map (sound_node l.geometry image) (range_with_len 1 l.i));
      read_only : IsTrue disk.visible → IsReadOnly disk.keeps first (disk.moments l.disk);
      size : disk.size l.disk ≡ disk.size l.fn.disk;
      faults : disk.faults l.disk ≡ disk.faults l.fn.disk;
    }
