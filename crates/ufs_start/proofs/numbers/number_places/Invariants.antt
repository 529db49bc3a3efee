use Rattle.std.proofs.Common.{◌≡◌, ◌≤◌, ◌+◌, None, replicate, take}
use Rattle.ufs_walk.specs.Walked.{pairs_of}
use Rattle.ufs_start.specs.Numbers.{is_dir_in, next_number, numbers_from}
use Rattle.ufs_start.proofs.numbers.number_places.Given as goal

abbrev pub invariant-loop-k : goal.invariant-loop-k
invariant-loop-k l = record {
  files : l.files.items ≡ numbers_from (is_dir_in l.forms) 0 (pairs_of (take l.k l.places)) (replicate (l.geometry.inodes + 1) None);
  next : l.next ≡ next_number (is_dir_in l.forms) 0 (pairs_of (take l.k l.places));
  few : l.next ≤ l.k;
}
