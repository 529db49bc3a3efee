use Rattle.std.proofs.Common.{◌≡◌, ◌≤◌, ℕ, None, Some, slice_index_or}
use Rattle.std.specs.Prelude.{IsSome}
use Rattle.std.specs.FinMap as map
use Rattle.ufs_base.specs.Images.{Image}
use Rattle.ufs_damage.specs.Findings.{AreFindingsOf}
use Rattle.ufs_image.specs.Catalog.{catalog_at}
use Rattle.ufs_layout.specs.declared.geometry.Geometry.{Geometry}
use Rattle.ufs_names.specs.NamesPart.{NamesPart}
use Rattle.ufs_promise_laws.specs.Loaded.{AreRead}
use Rattle.ufs_start.specs.Files.{AreLaid, AreSized, AreUnread, HasNumbers}
use Rattle.ufs_start.proofs.files.files_of.Given as goal

abbrev pub invariant-loop-place : goal.invariant-loop-place
invariant-loop-place l = record {
  read : (geometry : Geometry) (image : Image) (n : NamesPart) → AreFindingsOf geometry image l.findings → HasNumbers n.tree l.numbers → AreSized geometry image → AreRead image (catalog_at geometry image) n l.files;
  here : (inode file : ℕ) → 1 ≤ inode → inode ≤ l.place → slice_index_or l.numbers inode None ≡ Some file → IsSome (map.get l.files file);
  told : (file : ℕ) → IsSome (map.get l.files file) → (inode : ℕ) × (1 ≤ inode) × (inode ≤ l.place) × (slice_index_or l.numbers inode None ≡ Some file);
  unread : (geometry : Geometry) (image : Image) → AreFindingsOf geometry image l.findings → AreUnread (catalog_at geometry image) l.files;
  laid : (geometry : Geometry) (image : Image) → AreFindingsOf geometry image l.findings → AreLaid (catalog_at geometry image) l.files;
}
