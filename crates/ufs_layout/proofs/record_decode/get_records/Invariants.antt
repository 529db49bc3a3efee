use Rattle.std.proofs.Common.{◌≡◌, ◌-◌, ◌≤◌, ◌++◌, length, drop}
use Rattle.std.specs.Prelude.{option_map}
use Rattle.ufs_layout.specs.Records.{records_of}
use Rattle.ufs_layout.proofs.record_decode.get_records.Given as goal

abbrev pub invariant-loop-at : goal.invariant-loop-at
invariant-loop-at l = record {
  within : l.at ≤ length l.content;
  read : records_of l.content ≡ option_map (λ rs. l.records.items ++ rs) (records_of (drop l.at l.content));
}

abbrev pub decreases-loop-at : goal.decreases-loop-at
decreases-loop-at l = length l.content - l.at
