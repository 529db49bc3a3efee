use Rattle.std.proofs.Common.{◌≡◌, ℕ, length}
use Rattle.ufs_dir_tree.specs.DirTable.{no_dir}
use Rattle.ufs_dir_tree.specs.DirEdits.{dir_in}
use Rattle.ufs_dir_tree.proofs.dir_tree.bare_dirs.Given as goal

abbrev pub invariant-loop-made : goal.invariant-loop-made
invariant-loop-made l = record {
  counted : length l.dirs.items ≡ l.made;
  bare : (k : ℕ) → dir_in l.dirs.items k ≡ no_dir;
}
