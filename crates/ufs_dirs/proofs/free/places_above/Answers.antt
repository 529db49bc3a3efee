use Rattle.std.proofs.Common.{get_or, ltb, arith, rules}
use Rattle.std.proofs.lemmas.Bool.{ltb-false, ltb-true}
use Rattle.std.proofs.lemmas.List.Sorted.{IsPartitionPoint-from_clause}
use Rattle.ufs_dirs.proofs.FreeLemmas.{falling_parted}
use Rattle.ufs_dirs.proofs.free.places_above.Goals as goal

pub returns : goal.returns
returns c =
    let free = c.args.free.now in
    let place = c.args.place in
    let point = IsPartitionPoint-from_clause (λ y. ltb place y) free c.partition_point.result c.partition_point.ensures.partitioned (falling_parted free place c.requires) (λ a r q k. search rules) in
    record {
      in_range = c.partition_point.ensures.bound;
      above = λ k h. ltb-true place (get_or free k 0) (point.0 k 0 (omega arith) h);
      rest = λ k from h. ltb-false place (get_or free k 0) (point.1 k 0 from h);
    }
