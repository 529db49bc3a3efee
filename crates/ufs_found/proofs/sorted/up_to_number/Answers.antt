use Rattle.std.proofs.Common.{rules, nat_le}
use Rattle.std.proofs.lemmas.List.Sorted.{IsPartitionPoint-from_clause, IsPartitionedBy-leb}
use Rattle.ufs_found.specs.Sorted.{number_of}
use Rattle.ufs_found.proofs.Windows.{before_point}
use Rattle.ufs_found.proofs.sorted.up_to_number.Goals as goal

pub returns : goal.returns
returns c =
    let parted = IsPartitionedBy-leb (λ b. number_of b.now) _ c.args.number c.requires in
    before_point (λ b. nat_le (number_of b.now) c.args.number) _ _
    (IsPartitionPoint-from_clause (λ b. nat_le (number_of b.now) c.args.number) _ _ c.partition_point-to.ensures.partitioned parted (λ a r q k. search rules))
