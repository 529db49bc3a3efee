use Rattle.std.proofs.Common.{rules, nat_lt, ◌∙◌}
use Rattle.std.proofs.lemmas.List.{take_rest}
use Rattle.std.proofs.lemmas.List.Sorted.{IsPartitionPoint-from_clause, IsPartitionedBy-ltb}
use Rattle.ufs_found.specs.Sorted.{number_of}
use Rattle.ufs_found.proofs.Windows.{behind_point}
use Rattle.ufs_found.proofs.sorted.from_number.Goals as goal

pub returns-clause-kept : goal.returns-clause-kept
returns-clause-kept c =
    let parted = IsPartitionedBy-ltb (λ b. number_of b.now) _ c.args.number c.requires in
    take_rest c.args.list.now c.partition_point-from.result
    ∙ behind_point (λ b. nat_lt (number_of b.now) c.args.number) _ _
    (IsPartitionPoint-from_clause (λ b. nat_lt (number_of b.now) c.args.number) _ _ c.partition_point-from.ensures.partitioned parted (λ a r q k. search rules))
