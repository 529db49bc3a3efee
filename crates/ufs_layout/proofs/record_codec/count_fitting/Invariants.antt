use Rattle.std.proofs.Common.{◌≡◌, ◌+◌, length, take}
use Rattle.ufs_layout.specs.Records.{records_bytes}
use Rattle.ufs_layout.proofs.record_codec.count_fitting.Given as goal

abbrev pub invariant-loop-i : goal.invariant-loop-i
invariant-loop-i l = l.left + length (records_bytes (take l.i l.records)) ≡ l.room
