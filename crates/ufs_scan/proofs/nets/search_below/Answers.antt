use Rattle.std.proofs.Common.{rules, nat_lt}
use Rattle.std.proofs.lemmas.List.Sorted.{IsPartitionPoint-from_clause, IsPartitionedBy-ltb}
use Rattle.ufs_scan.proofs.nets.search_below.Goals as goal

pub returns-clause-point : goal.returns-clause-point
returns-clause-point c =
    IsPartitionPoint-from_clause (λ n. nat_lt n.index c.args.index) _ _ c.partition_point.ensures.partitioned (IsPartitionedBy-ltb (λ n. n.index) _ c.args.index c.requires) (λ a r q k. search rules)
