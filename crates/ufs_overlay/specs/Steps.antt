-- What the records of one sector do to it, one after the other.
use Rattle.std.specs.Prelude.{ℕ, List, [], ◌∷◌, Bool, ◌==◌, nat_lt, if◌then◌else◌, unwrap_or}
use Rattle.ufs_layout.specs.InodeForm.{InodeForm, inode_of, inode_bytes, free_inode}
use Rattle.ufs_layout.specs.DentryForm.{dentry_bytes}
use Rattle.ufs_image.specs.Images.{with_slot}
use Rattle.ufs_image.specs.Fold.{after_delta}
use Rattle.ufs_layout.specs.declared.records.LogRecord.{LogRecord}
use Rattle.ufs_overlay.specs.declared.lists.Numbered.{Numbered}
use Rattle.ufs_layout.specs.declared.records.LogRecord.TheVariants.{Delta, Place, Free}

-- the inode that a sector is read as: a free one with number 0, where it is off its form
abbrev pub form_of : List ℕ → InodeForm
form_of bytes = unwrap_or (inode_of bytes) (free_inode 0)

-- the sector after one record, which changes an inode only where its transaction is newer than the inode
abbrev pub stepped : Bool → ℕ → LogRecord → List ℕ → List ℕ
stepped newer number (Delta inode kind size keep extents) bytes =
    if newer then inode_bytes (after_delta (form_of bytes) number kind size keep extents) else bytes
stepped newer number (Place sector slot dentry) bytes = with_slot slot (dentry_bytes dentry) bytes
stepped newer number (Free inode) bytes = if newer then inode_bytes (free_inode number) else bytes

-- Whether a transaction is newer is asked of the sector as its first record finds it. `last` is the number of the
-- transaction before, and `newer` its answer.
abbrev pub stepped_all : ℕ → Bool → List Numbered → List ℕ → List ℕ
stepped_all last newer [] bytes = bytes
stepped_all last newer (n ∷ ns) bytes =
    let asked = if n.number == last then newer else nat_lt (form_of bytes).number n.number in
    stepped_all n.number asked ns (stepped asked n.number n.change bytes)
