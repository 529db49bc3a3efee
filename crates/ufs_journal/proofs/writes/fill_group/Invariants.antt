use Rattle.std.proofs.Common.{length, drop, take, ◌-◌, ◌*◌, ◌≡◌, ◌≤◌}
use Rattle.ufs_layout.specs.Filled.{sectors_of_records, sector_count_of}
use Rattle.ufs_journal.specs.Spelled.{spelled_sectors, joined, AreReadBack}
use Rattle.ufs_journal.proofs.writes.fill_group.Given as goal

abbrev pub invariant-loop-count : goal.invariant-loop-count
invariant-loop-count l = record {
  within : l.taken ≤ length l.records;
  some : l.count ≡ 0 → l.taken ≡ 0;
  more : l.count ≤ l.taken;
  most : l.count ≤ 8;
  inside : l.count ≤ sector_count_of l.records;
  rest : sectors_of_records (drop l.taken l.records) ≡ drop l.count (sectors_of_records l.records);
  bytes : take (512 * l.count) l.bytes ≡ joined (spelled_sectors l.epoch l.txn l.index (take l.count (sectors_of_records l.records)));
  read_back : AreReadBack l.epoch l.txn l.index (take l.count (sectors_of_records l.records));
  kept : length l.bytes ≡ 4096;
}

abbrev pub decreases-loop-count : goal.decreases-loop-count
decreases-loop-count l = length l.records - l.taken
