use Rattle.std.proofs.Common.{rules, nat_lt}
use Rattle.std.proofs.lemmas.List.Sorted.{IsPartitionPoint-from_clause, IsPartitionedBy-ltb}
use Rattle.ufs_found.specs.Sorted.{place_of}
use Rattle.ufs_found.proofs.Windows.{before_point}
use Rattle.ufs_found.proofs.sorted.up_to_place.Goals as goal

pub returns : goal.returns
returns c =
    let parted = IsPartitionedBy-ltb (λ b. place_of b.now) _ c.args.high c.requires in
    before_point (λ b. nat_lt (place_of b.now) c.args.high) _ _
    (IsPartitionPoint-from_clause (λ b. nat_lt (place_of b.now) c.args.high) _ _ c.partition_point-to.ensures.partitioned parted (λ a r q k. search rules))
