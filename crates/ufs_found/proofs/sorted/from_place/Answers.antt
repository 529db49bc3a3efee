use Rattle.std.proofs.Common.{rules, nat_lt, ◌∙◌}
use Rattle.std.proofs.lemmas.List.{take_rest}
use Rattle.std.proofs.lemmas.List.Sorted.{IsPartitionPoint-from_clause, IsPartitionedBy-ltb}
use Rattle.ufs_found.specs.Sorted.{place_of}
use Rattle.ufs_found.proofs.Windows.{behind_point}
use Rattle.ufs_found.proofs.sorted.from_place.Goals as goal

pub returns-clause-kept : goal.returns-clause-kept
returns-clause-kept c =
    let parted = IsPartitionedBy-ltb (λ b. place_of b.now) _ c.args.low c.requires in
    take_rest c.args.list.now c.partition_point-from.result
    ∙ behind_point (λ b. nat_lt (place_of b.now) c.args.low) _ _
    (IsPartitionPoint-from_clause (λ b. nat_lt (place_of b.now) c.args.low) _ _ c.partition_point-from.ensures.partitioned parted (λ a r q k. search rules))
