use Rattle.std.proofs.Common.{◌≡◌, ℕ, true, Some, length}
use Rattle.ufs_links.specs.Nodes.{has, nodes_in}
use Rattle.ufs_links.specs.Numbered.{number_at, slot_in}
use Rattle.ufs_links.specs.Chains.{AreApart}
use Rattle.ufs_links.proofs.TailLemmas.{tail_from}
use Rattle.ufs_links.proofs.numbered.slot_of.Given as goal

abbrev pub invariant-loop-at : goal.invariant-loop-at
invariant-loop-at l = record {
  left : slot_in (number_at l.numbers.items) (nodes_in l.buckets.lists l.bucket) l.list ≡ slot_in (number_at l.numbers.items) (tail_from (nodes_in l.buckets.lists l.bucket) l.at) l.list;
  there : (s : ℕ) → l.at ≡ Some s → has (nodes_in l.buckets.lists l.bucket) s ≡ true;
  apart : AreApart (nodes_in l.buckets.lists l.bucket);
}

abbrev pub decreases-loop-at : goal.decreases-loop-at
decreases-loop-at l = length (tail_from (nodes_in l.buckets.lists l.bucket) l.at)
