use Rattle.std.proofs.Common.{◌≡◌, length}
use Rattle.std.specs.Prelude.{All}
use Rattle.ufs_file.specs.Table.{IsZeros}
use Rattle.ufs_file.proofs.cover.zero_bytes.Given as goal

abbrev pub invariant-loop-made : goal.invariant-loop-made
invariant-loop-made l = record {
  zeros : All IsZeros l.spare.items;
  count : length l.spare.items ≡ l._made;
}
