use Rattle.std.proofs.Common.{◌≡◌, ◌*◌, replicate, length, false}
use Rattle.std.specs.Prelude.{All}
use Rattle.ufs_file.specs.Table.{bytes_in, marks_of, there_of, IsWhole}
use Rattle.ufs_file.proofs.blocks.absent_blocks.Given as goal

abbrev pub invariant-loop-made : goal.invariant-loop-made
invariant-loop-made l = record {
  whole : All IsWhole l.table.items;
  bytes : bytes_in l.table.items ≡ replicate (4096 * l._made) 0;
  marks : marks_of l.table.items ≡ replicate l._made false;
  there : there_of l.table.items ≡ replicate l._made false;
  count : length l.table.items ≡ l._made;
}
