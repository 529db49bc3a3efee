use Rattle.std.proofs.Common.{◌≡◌, ◌≤◌, ◌*◌, take}
use Rattle.std.specs.List.{sum_by}
use Rattle.ufs_gathered.specs.Ended.{size_of_cell}
use Rattle.ufs_gathered.proofs.measuring.length_of.Given as goal

abbrev pub invariant-loop-file : goal.invariant-loop-file
invariant-loop-file g l = record {
  total : l.total ≡ sum_by size_of_cell (take l.file-index l.fn.files);
  bound : l.total ≤ l.file-index * 18446744073709551616;
}
