-- Several owners of blocks beside one pool: that no block has two of them is that the pool is apart from all their
-- blocks, listed one owner after the other.
use Rattle.std.specs.Prelude.{◌≡◌, ℕ, List, ◌++◌}
use Rattle.std.specs.FinSet as set
use Rattle.ufs_bitmap.specs.Blocks.{BlockSet}
use Rattle.ufs_bitmap.specs.Taking.{IsApart}

-- A pool that is apart from all owners is apart from each.
abbrev pub OwnersAreApart : Type 0
OwnersAreApart = (pool : BlockSet) (front own back : List ℕ) → IsApart pool ((front ++ own) ++ back) → IsApart pool own

-- One owner and the pool exchange blocks: where they have the same together as before and are apart, no block has two
-- owners.
abbrev pub OwnersStayApart : Type 0
OwnersStayApart = (before after : BlockSet) (front old new back : List ℕ) → IsApart before ((front ++ old) ++ back) → IsApart after new
    → set.union after (set.from_list new) ≡ set.union before (set.from_list old) → IsApart after ((front ++ new) ++ back)
