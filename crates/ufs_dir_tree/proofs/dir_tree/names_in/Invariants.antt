use Rattle.std.proofs.Common.{◌≡◌, ℕ, List, take}
use Rattle.ufs_dirs.specs.Names.{AreNamesIn}
use Rattle.ufs_dir_tree.proofs.dir_tree.names_in.Given as goal

-- the first names of the list, which there is
abbrev pub invariant-loop-rank : goal.invariant-loop-rank
invariant-loop-rank l = (all : List (List ℕ)) → AreNamesIn l.blocks.slots all → l.names.items ≡ take l.rank all
