use Rattle.std.proofs.Common.{◌≡◌, []}
use Rattle.ufs_store_tests.specs.Small.{small}
use Rattle.ufs_store_tests.proofs.images.commit_sizes.Given as goal

abbrev pub invariant-loop-size : goal.invariant-loop-size
invariant-loop-size g l = record {
  geometry : l.store.tables.journal.geometry ≡ small;
  inode : l.log.inode ≡ 2;
  runs : l.log.noted.runs ≡ [];
}
