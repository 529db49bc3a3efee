use Rattle.std.proofs.Common.{◌≡◌, rules, nat_lt, nat_le, ap, sym, ◌∙◌, drop, take, arith}
use Rattle.std.proofs.lemmas.List.Sorted.{IsPartitionPoint-from_clause, IsPartitionedBy-ltb, IsPartitionedBy-leb}
use Rattle.ufs_scan.specs.Folding as fold
use Rattle.ufs_scan.proofs.Ranges.{range_in_order, range_is}
use Rattle.ufs_scan.proofs.folding.Fold.fold_commit.Goals as goal

pub fold_chains-requires-clause-from : goal.fold_chains-requires-clause-from
fold_chains-requires-clause-from c =
    range_in_order c.args.chains.now c.txn-txn.result c.partition_point-from.result c.partition_point-to.result c.partition_point-from.ensures.bound
    (IsPartitionPoint-from_clause (λ s. nat_lt s.txn c.txn-txn.result) _ _ c.partition_point-from.ensures.partitioned (IsPartitionedBy-ltb (λ s. s.txn) _ c.txn-txn.result c.requires.order) (λ a r q k. search rules))
    (IsPartitionPoint-from_clause (λ s. nat_le s.txn c.txn-txn.result) _ _ c.partition_point-to.ensures.partitioned (IsPartitionedBy-leb (λ s. s.txn) _ c.txn-txn.result c.requires.order) (λ a r q k. search rules))

pub returns-clause-folded : goal.returns-clause-folded
returns-clause-folded c =
    let range = range_is c.args.chains.now c.txn-txn.result c.partition_point-from.result c.partition_point-to.result c.partition_point-from.ensures.bound c.partition_point-to.ensures.bound
    (IsPartitionPoint-from_clause (λ s. nat_lt s.txn c.txn-txn.result) _ _ c.partition_point-from.ensures.partitioned (IsPartitionedBy-ltb (λ s. s.txn) _ c.txn-txn.result c.requires.order) (λ a r q k. search rules))
    (IsPartitionPoint-from_clause (λ s. nat_le s.txn c.txn-txn.result) _ _ c.partition_point-to.ensures.partitioned (IsPartitionedBy-leb (λ s. s.txn) _ c.txn-txn.result c.requires.order) (λ a r q k. search rules)) in
    record {
      from = c.partition_point-from.result;
      to = c.partition_point-to.result;
      range = Rattle.std.proofs.Common.subst (λ n. fold.IsRange c.args.chains.now n c.partition_point-from.result c.partition_point-to.result) c.txn-txn.ensures range;
      small = omega (arith, c.index.ensures, c.index.type_inv);
      folded = c.fold_chains.ensures.folded ∙ (λ i. fold.folded_from (c.number.ensures i) (c.index.ensures i) c.partition_point-from.result (drop c.partition_point-from.result (take c.partition_point-to.result c.args.chains.now)) c.args.self.now);
    }
