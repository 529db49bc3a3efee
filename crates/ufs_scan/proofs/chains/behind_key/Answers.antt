use Rattle.std.proofs.Common.{rules, nat_le, ◌∙◌}
use Rattle.std.proofs.lemmas.List.{take_rest}
use Rattle.std.proofs.lemmas.List.Sorted.{IsPartitionPoint-from_clause, IsPartitionedBy-leb}
use Rattle.ufs_found.proofs.Windows.{behind_point}
use Rattle.ufs_scan.specs.Edits.{key_of}
use Rattle.ufs_scan.proofs.chains.behind_key.Goals as goal

pub returns-clause-kept : goal.returns-clause-kept
returns-clause-kept c =
    let parted = IsPartitionedBy-leb (λ s. key_of s.edit) _ c.args.key c.requires in
    take_rest c.args.steps.now c.partition_point-from.result
    ∙ behind_point (λ s. nat_le (key_of s.edit) c.args.key) _ _
    (IsPartitionPoint-from_clause (λ s. nat_le (key_of s.edit) c.args.key) _ _ c.partition_point-from.ensures.partitioned parted (λ a r q k. search rules))
