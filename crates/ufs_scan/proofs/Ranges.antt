-- Where the chains of a transaction stand.
use Rattle.std.proofs.Common.{◌≡◌, inl, inr, ℕ, ◌≤◌, List, [], ◌∷◌, true, false, length, arith}
use Rattle.std.specs.Prelude.{nat_lt, nat_le}
use Rattle.std.specs.List.Sorted.{IsPartitionPoint}
use Rattle.std.proofs.lemmas.Bool.{cases_lt, ltb-true, ltb-false, leb-true, leb-false}
use Rattle.ufs_scan.specs.Folding.{IsRange}
use Rattle.ufs_scan.specs.declared.chains.Chain.{Chain}

pub range_in_order : (chains : List Chain) (txn from to : ℕ) → from ≤ length chains → IsPartitionPoint (λ (c : Chain). nat_lt c.txn txn ≡ true) (λ (c : Chain). nat_lt c.txn txn ≡ false) chains from
    → IsPartitionPoint (λ (c : Chain). nat_le c.txn txn ≡ true) (λ (c : Chain). nat_le c.txn txn ≡ false) chains to → from ≤ to
range_in_order [] txn from to most low high = omega (arith, most)
range_in_order (x ∷ xs) txn from to most low high = elim (cases_lt to from) [
  | inl less ↦ (let below = ltb-true _ txn (low.0 to x (omega arith) less) in
      let above = leb-false _ txn (high.1 to x (omega arith) (omega (arith, less, most))) in
      absurd (omega (arith, below, above)))
  | inr le ↦ le
]

pub range_is : (chains : List Chain) (txn from to : ℕ) → from ≤ length chains → to ≤ length chains → IsPartitionPoint (λ (c : Chain). nat_lt c.txn txn ≡ true) (λ (c : Chain). nat_lt c.txn txn ≡ false) chains from
    → IsPartitionPoint (λ (c : Chain). nat_le c.txn txn ≡ true) (λ (c : Chain). nat_le c.txn txn ≡ false) chains to → IsRange chains txn from to
range_is chains txn from to most_from most_to low high = record {
  order = range_in_order chains txn from to most_from low high;
  most = most_to;
  each = λ q d le less.
      let above = ltb-false _ txn (low.1 q d le (omega (arith, less, most_to))) in
      let below = leb-true _ txn (high.0 q d (omega arith) less) in
      omega (arith, above, below);
  low = λ q d less. ltb-true _ txn (low.0 q d (omega arith) less);
  high = λ q d le less. leb-false _ txn (high.1 q d le less);
}
