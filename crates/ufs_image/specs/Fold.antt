-- The committed records, folded over the sectors of an image.
use Rattle.std.specs.Prelude.{ℕ, List, [], ◌∷◌, ◌++◌, take, Bool, nat_lt, if◌then◌else◌}
use Rattle.ufs_layout.specs.Areas.{sector_of_inode, is_inode_number, is_data_sector}
use Rattle.ufs_layout.specs.InodeForm.{InodeForm, inode_bytes, free_inode}
use Rattle.ufs_layout.specs.declared.inode.Extent.{Extent}
use Rattle.ufs_layout.specs.DentryForm.{dentry_bytes}
use Rattle.ufs_base.specs.Images.{Image}
use Rattle.ufs_image.specs.Images.{with_sector, with_slot, form_at}
use Rattle.ufs_layout.specs.declared.geometry.Geometry.{Geometry}
use Rattle.ufs_layout.specs.declared.records.LogRecord.{LogRecord}
use Rattle.ufs_layout.specs.declared.records.LogRecord.TheVariants.{Delta, Place, Free}
use Rattle.ufs_layout.specs.declared.records.Committed.{Committed}

-- The record is of an inode or a sector of this geometry.
abbrev pub is_in_range : Geometry → LogRecord → Bool
is_in_range g (Delta inode kind size keep extents) = is_inode_number g inode
is_in_range g (Place sector slot dentry) = is_data_sector g sector
is_in_range g (Free inode) = is_inode_number g inode

-- Before its transaction the inode had a lower commit number.
abbrev pub is_newer : Geometry → ℕ → Image → ℕ → Bool
is_newer g number before inode = nat_lt (form_at g before inode).number number

abbrev pub with_inode : Geometry → ℕ → InodeForm → Image → Image
with_inode g inode form = with_sector (sector_of_inode g inode) (inode_bytes form)

-- the inode after a delta: the first extents kept, the given ones behind them
abbrev pub after_delta : InodeForm → (number kind size keep : ℕ) → List Extent → InodeForm
after_delta form number kind size keep extents = record { kind = kind; extents = take keep form.extents ++ extents; size = size; number = number }

-- One record of the transaction with this number, which found `before`. A dentry set is always applied.
abbrev pub with_record : Geometry → ℕ → Image → LogRecord → Image → Image
with_record g number before (Delta inode kind size keep extents) now =
    if is_newer g number before inode
    then with_inode g inode (after_delta (form_at g now inode) number kind size keep extents) now
    else now
with_record g number before (Place sector slot dentry) now = with_sector sector (with_slot slot (dentry_bytes dentry) (now sector)) now
with_record g number before (Free inode) now = if is_newer g number before inode then with_inode g inode (free_inode number) now else now

-- A record out of range changes nothing.
abbrev pub with_valid : Geometry → ℕ → Image → LogRecord → Image → Image
with_valid g number before r now = if is_in_range g r then with_record g number before r now else now

abbrev pub with_records : Geometry → ℕ → Image → List LogRecord → Image → Image
with_records g number before [] now = now
with_records g number before (r ∷ rs) now = with_records g number before rs (with_valid g number before r now)

abbrev pub with_committed : Geometry → Committed → Image → Image
with_committed g c image = with_records g c.number image c.records image

-- one transaction after the other
abbrev pub folded : Geometry → List Committed → Image → Image
folded g [] image = image
folded g (c ∷ cs) image = folded g cs (with_committed g c image)
