use Rattle.std.proofs.Common.{◌≡◌, ◌++◌, length, take, drop}
use Rattle.std.specs.List.{AllByRecursion}
use Rattle.ufs_layout.specs.Records.{records_bytes, FitsRecord}
use Rattle.ufs_layout.proofs.record_codec.put_records.Given as goal

abbrev pub invariant-loop-record : goal.invariant-loop-record
invariant-loop-record l = record {
  place : l.at ≡ length (records_bytes (take l.record-index l.records));
  written : l.content ≡ records_bytes (take l.record-index l.records) ++ drop l.at l.fn.content;
  in_range : AllByRecursion FitsRecord (take l.record-index l.records);
}
