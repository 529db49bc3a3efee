use Rattle.std.proofs.Common.{◌≡◌, ◌-◌, true, false, take, length, get_or}
use Rattle.std.specs.List.{All}
use Rattle.ufs_scan.proofs.marks.marked.Given as goal

abbrev pub invariant-loop-chain : goal.invariant-loop-chain
invariant-loop-chain l = record {
  marks : All (λ c. get_or l.marks.items (c.inode - 1) false ≡ true) (take l.chain-index l.chains);
  sized : length l.marks.items ≡ l.geometry.inodes;
}
