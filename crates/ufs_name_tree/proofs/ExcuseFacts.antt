-- What an excuse says of the directory that would get a name.
use Rattle.std.proofs.Common.{◌≡◌, ℕ, ◌+◌, ◌%◌, ◌≤◌, List, length, ap, ◌∙◌, arith}
use Rattle.ufs_base.specs.declared.sizes.TheConstants.{SLOTS_PER_BLOCK}
use Rattle.ufs_bitmap.specs.Blocks.{BlockSet}
use Rattle.ufs_dirs.specs.Directory.{Directory}
use Rattle.ufs_dirs.specs.Names.{AreNamesIn}
use Rattle.ufs_dirs.proofs.Facts.{same_names_in}
use Rattle.ufs_dir_tree.specs.DirTable.{DirTable, IsDirTable, blocks_at}
use Rattle.ufs_dir_tree.specs.DirCalls.{IsFull, IsListed, LacksExtent}
use Rattle.ufs_dir_tree.proofs.SpaceLemmas.{few_extents}

-- where each slot is used the names fill whole blocks
pub full_names : (d : Directory) (names : List (List ℕ)) → IsListed d → IsFull d → AreNamesIn d.slots names → length names % SLOTS_PER_BLOCK ≡ 0
full_names d names listed full are = ap (λ (l : List (List ℕ)). length l % SLOTS_PER_BLOCK) (same_names_in d.slots names listed.names are listed.listed) ∙ listed.whole full

-- one extent more than there may be
pub one_extent_more : (t : DirTable) (i need : ℕ) (pool : BlockSet) → IsDirTable t → LacksExtent (blocks_at t i) pool need → need ≤ 56 + 1
one_extent_more t i need pool is lacks = omega (arith, lacks.counted, few_extents (blocks_at t i) lacks.block (is.extents i))
