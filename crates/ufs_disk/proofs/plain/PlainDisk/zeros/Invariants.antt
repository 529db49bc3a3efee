use Rattle.std.proofs.Common.{◌≡◌, ◌*◌, length}
use Rattle.ufs_disk.specs.Bytes.{AreZeros}
use Rattle.ufs_disk.proofs.plain.PlainDisk.zeros.Given as goal

abbrev pub invariant-loop-sector : goal.invariant-loop-sector
invariant-loop-sector l = record {
  sized : length l.bytes.items ≡ 512 * l._sector;
  zeros : AreZeros l.bytes.items;
}
