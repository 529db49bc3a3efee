use Rattle.std.proofs.Common.{◌≡◌, ◌-◌, length, replicate, false}
use Rattle.std.specs.Prelude.{All}
use Rattle.ufs_file.specs.Lists.{over}
use Rattle.ufs_file.specs.Table.{bytes_in, marks_of, there_of, IsWhole}
use Rattle.ufs_file.proofs.blocks.clean_all.Given as goal

abbrev pub invariant-loop-k : goal.invariant-loop-k
invariant-loop-k l = record {
  whole : All IsWhole l.table.items;
  count : length l.table.items ≡ length l.initial.table.items;
  bytes : bytes_in l.table.items ≡ bytes_in l.initial.table.items;
  marks : marks_of l.table.items ≡ over (marks_of l.initial.table.items) l.fn.written.from (replicate (l.k - l.fn.written.from) false);
  there : there_of l.table.items ≡ there_of l.initial.table.items;
}
