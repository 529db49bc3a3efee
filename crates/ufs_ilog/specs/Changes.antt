-- The order of the records in a change of names.
use Rattle.std.specs.Prelude.{ℕ, ◌+◌, ◌*◌, List, [], ◌∷◌, Bool, true, ◌==◌, ◌&&◌, ◌||◌, nat_lt, nat_le, if◌then◌else◌}
use Rattle.ufs_layout.specs.declared.records.LogRecord.{LogRecord}
use Rattle.ufs_layout.specs.declared.records.LogRecord.TheVariants.{Delta, Place, Free}

-- deltas come first, then dentry sets, then frees
abbrev pub kind_order : LogRecord → ℕ
kind_order (Delta inode kind size keep extents) = 0
kind_order (Place sector slot dentry) = 1
kind_order (Free inode) = 2

-- deltas and frees by inode, dentry sets by sector and slot
abbrev pub place_order : LogRecord → ℕ
place_order (Delta inode kind size keep extents) = inode
place_order (Place sector slot dentry) = 8 * sector + slot
place_order (Free inode) = inode

abbrev pub may_follow : LogRecord → LogRecord → Bool
may_follow r s = nat_lt (kind_order r) (kind_order s) || kind_order r == kind_order s && nat_le (place_order r) (place_order s)

-- each record may follow the one before it
abbrev pub is_in_order : List LogRecord → Bool
is_in_order [] = true
is_in_order (r ∷ []) = true
is_in_order (r ∷ s ∷ rs) = may_follow r s && is_in_order (s ∷ rs)

-- the records with one more, before the first that may follow it
abbrev pub put_in_order : LogRecord → List LogRecord → List LogRecord
put_in_order r [] = r ∷ []
put_in_order r (s ∷ rs) = if may_follow r s then r ∷ s ∷ rs else s ∷ put_in_order r rs

-- the records in their order; two that stand at one place in that which they had
abbrev pub in_order : List LogRecord → List LogRecord
in_order [] = []
in_order (r ∷ rs) = put_in_order r (in_order rs)
