use Rattle.std.proofs.Common.{◌≡◌, length}
use Rattle.ufs_start.specs.Tables.{AreFrom, AreReadIn}
use Rattle.ufs_start.proofs.tables.all_dirs.Given as goal

abbrev pub invariant-loop-inode : goal.invariant-loop-inode
invariant-loop-inode l = record {
  counted : length l.table.items ≡ l.inode;
  from : AreFrom l.findings.dirs l.next l.inode;
  so_far : AreReadIn l.findings.forms l.findings.dirs l.next l.table.items;
}
