-- The inode of a file that lost its name is still in use.
use Rattle.std.proofs.Common.{◌≡◌, ℕ, List, Option, Some, length, ap, subst, ◌∙◌, arith}
use Rattle.std.specs.FinSet as set
use Rattle.ufs_bitmap.specs.Blocks.{BlockSet}
use Rattle.ufs_dir_tree.specs.DirTable.{DirTable, InodeSet, IsDirTable, IsUsed, found_at}
use Rattle.ufs_dir_tree.specs.DirCalls.{Frees, SpendsNone}
use Rattle.ufs_dir_tree.specs.declared.found.Found.{Found}
use Rattle.ufs_dir_tree.specs.declared.found.Found.TheVariants.{File}

pub still_used : (old new : DirTable) (before after : BlockSet) (path : List (List ℕ)) (i : ℕ) → IsDirTable old → found_at old path ≡ Some (File i) → Frees old new before after (found_at old path) → length new.dirs ≡ length old.dirs → IsUsed new i
still_used old new before after path i is met freed counted =
    let used : IsUsed old i = is.met path (File i) met in
    let none : SpendsNone old new before after = subst (λ (o : Option Found). Frees old new before after o) met freed in
    record {
      from_one = used.from_one;
      within = omega (arith, used.within, counted);
      used = ap (λ (s : InodeSet). set.contains s i) none.free ∙ used.used;
    }
