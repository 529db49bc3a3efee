use Rattle.std.proofs.Common.{◌≡◌, length}
use Rattle.ufs_recovery.specs.Orphans.{AreTold, orphan_dir_number, orphan_number}
use Rattle.ufs_recovery.proofs.orphans.find_orphans.Given as goal

abbrev pub invariant-loop-place : goal.invariant-loop-place
invariant-loop-place l = record {
  counted : length l.numbers.items ≡ l.place;
  counted_dirs : length l.dirs.items ≡ l.place;
  numbers : AreTold orphan_number l.forms l.reached l.numbers.items;
  dirs : AreTold orphan_dir_number l.forms l.reached l.dirs.items;
}
