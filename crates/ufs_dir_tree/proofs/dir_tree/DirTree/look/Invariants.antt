use Rattle.std.proofs.Common.{◌≡◌, ◌≤◌, ◌-◌, [], Some, take, drop}
use Rattle.ufs_dir_tree.specs.DirCalls.{refusal_by}
use Rattle.ufs_dir_tree.specs.DirTable.{found_at}
use Rattle.ufs_dir_tree.specs.declared.found.Found.TheVariants.{Dir}
use Rattle.ufs_dir_tree.proofs.dir_tree.DirTree.look.Given as goal

-- what was met behind the first names; those before were looked at
abbrev pub invariant-loop-i : goal.invariant-loop-i
invariant-loop-i l = record {
  dir : 1 ≤ l.i → found_at l.self (take (l.i - 1) l.path) ≡ Some (Dir l.dir);
  met : l.at ≡ found_at l.self (take l.i l.path);
  passed : refusal_by (found_at l.self) [] l.path ≡ refusal_by (found_at l.self) (take (l.i - 1) l.path) (drop (l.i - 1) l.path);
}
