-- What a session on hands begins with, of what was read of a disk's image.
use Rattle.std.specs.Prelude.{ℕ, Bool}
use Rattle.ufs_joint.specs.FirstHand.{Beginning}
use Rattle.ufs_start.specs.declared.parts.Start.{Start}

abbrev pub beginning_of : Start → (clients workers : ℕ) → Bool → Beginning
beginning_of s clients workers is_visible = record {
  tree = s.parts.start.tree;
  geometry = s.superblock.geometry;
  names = s.names;
  files = s.files;
  clients = clients;
  workers = workers;
  is_visible = is_visible;
}
