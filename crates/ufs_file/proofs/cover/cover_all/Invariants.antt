use Rattle.std.proofs.Common.{◌≡◌, ◌-◌, ◌≤◌, max, length, replicate, true}
use Rattle.std.specs.Prelude.{All}
use Rattle.ufs_file.specs.Lists.{over}
use Rattle.ufs_file.specs.Table.{absent_within, bytes_in, marks_of, there_of, IsWhole, IsZeros}
use Rattle.ufs_file.proofs.cover.cover_all.Given as goal

abbrev pub invariant-loop-k : goal.invariant-loop-k
invariant-loop-k l = record {
  whole : All IsWhole l.table.items;
  long : length l.table.items ≡ length l.initial.table.items;
  bytes : bytes_in l.table.items ≡ bytes_in l.initial.table.items;
  marks : marks_of l.table.items ≡ marks_of l.initial.table.items;
  there : there_of l.table.items ≡ over (there_of l.initial.table.items) l.from (replicate (l.k - l.from) true);
  zeros : All IsZeros l.spare.items;
  count : length l.spare.items ≡ absent_within (there_of l.initial.table.items) l.k l.to;
  end : l.k ≤ max l.from l.to;
}
