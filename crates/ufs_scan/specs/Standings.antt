-- How each inode stands while records are folded.
use Rattle.std.specs.Prelude.{ℕ, ◌+◌, ◌-◌, List, [], ◌∷◌, ◌++◌, length, slice_set, slice_index_or, map, min, unwrap_or, Bool, false, ◌&&◌, nat_lt, if◌then◌else◌}
use Rattle.ufs_layout.specs.Areas.{all_inodes, is_inode_number}
use Rattle.ufs_image.specs.Journal.{PlacedRecord, Transaction}
use Rattle.ufs_layout.specs.InodeForm.{inode_of, free_inode}
use Rattle.ufs_base.specs.Images.{Image}
use Rattle.ufs_image.specs.Images.{form_at}
use Rattle.ufs_layout.specs.declared.geometry.Geometry.{Geometry}
use Rattle.ufs_layout.specs.declared.records.LogRecord.{LogRecord}
use Rattle.ufs_layout.specs.declared.records.LogRecord.TheVariants.{Delta, Place, Free}
use Rattle.ufs_scan.specs.declared.standing.Standing.{Standing}

-- before a transaction, and now
abbrev pub standing_of : Geometry → Image → Image → ℕ → Standing
standing_of g before now inode = record { before = (form_at g before inode).number; number = (form_at g now inode).number; count = length (form_at g now inode).extents }

abbrev pub standings : Geometry → Image → Image → List Standing
standings g before now = map (standing_of g before now) (all_inodes g)

abbrev pub no_standing : Standing
no_standing = record { before = 0; number = 0; count = 0 }

abbrev pub standing_at : List Standing → ℕ → Standing
standing_at all inode = slice_index_or all (inode - 1) no_standing

-- a record of this inode, where it is applied
abbrev pub changed : ℕ → ℕ → Standing → Standing
changed number count one = if nat_lt one.before number then record { before = one.before; number = number; count = count } else one

abbrev pub stepped : Geometry → ℕ → LogRecord → List Standing → List Standing
stepped g number (Delta inode kind size keep extents) all =
    if is_inode_number g inode then slice_set all (inode - 1) (changed number (min keep (standing_at all inode).count + length extents) (standing_at all inode)) else all
stepped g number (Place sector slot dentry) all = all
stepped g number (Free inode) all = if is_inode_number g inode then slice_set all (inode - 1) (changed number 0 (standing_at all inode)) else all

-- It is applied, and keeps more extents than there are.
abbrev pub outkeeps : Geometry → ℕ → LogRecord → List Standing → Bool
outkeeps g number (Delta inode kind size keep extents) all = is_inode_number g inode && (nat_lt (standing_at all inode).before number && nat_lt (standing_at all inode).count keep)
outkeeps g number (Place sector slot dentry) all = false
outkeeps g number (Free inode) all = false

-- the sectors of a transaction's records that are applied and keep too many, and how inodes stand behind it
abbrev pub out_in : Geometry → ℕ → List PlacedRecord → List Standing → List ℕ
out_in g number [] all = []
out_in g number (p ∷ ps) all = (if outkeeps g number p.1 all then p.0 ∷ [] else []) ++ out_in g number ps (stepped g number p.1 all)

abbrev pub behind : Geometry → ℕ → List PlacedRecord → List Standing → List Standing
behind g number [] all = all
behind g number (p ∷ ps) all = behind g number ps (stepped g number p.1 all)

-- where the next transaction begins
abbrev pub rested : Standing → Standing
rested one = record { before = one.number; number = one.number; count = one.count }

-- the same of several transactions
abbrev pub out_of : Geometry → List Transaction → List Standing → List ℕ
out_of g [] all = []
out_of g (t ∷ ts) all = out_in g t.number t.records (map rested all) ++ out_of g ts (behind g t.number t.records (map rested all))

-- of the inodes that are marked
abbrev pub marked_standing : Geometry → List Bool → Image → ℕ → Standing
marked_standing g marks image inode = if slice_index_or marks (inode - 1) false then standing_of g image image inode else no_standing

abbrev pub marked_standings : Geometry → List Bool → Image → List Standing
marked_standings g marks image = map (marked_standing g marks image) (all_inodes g)

-- of an inode's sector, before any transaction
abbrev pub standing_in : List ℕ → Standing
standing_in bytes = let form = unwrap_or (inode_of bytes) (free_inode 0) in record { before = form.number; number = form.number; count = length form.extents }
