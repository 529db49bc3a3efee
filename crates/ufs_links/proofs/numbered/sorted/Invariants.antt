use Rattle.std.proofs.Common.{◌≡◌, ◌≤◌, length, vec_len}
use Rattle.ufs_links.specs.Nodes.{nodes_in}
use Rattle.ufs_links.specs.Numbered.{number_at, AreSorted}
use Rattle.ufs_links.proofs.numbered.sorted.Given as goal

abbrev pub invariant-loop-slot : goal.invariant-loop-slot
invariant-loop-slot l = record {
  sorted : AreSorted l.slot (number_at l.numbers.items) (nodes_in l.slots.lists) l.buckets.lists;
  nodes : vec_len l.numbers ≤ l.buckets.nodes;
  count : length l.buckets.lists ≡ l.count;
}
