use Rattle.std.proofs.Common.{◌≡◌, ℕ, None, length, get_or}
use Rattle.ufs_scan.proofs.folding.no_leasts.Given as goal

abbrev pub invariant-loop-chain : goal.invariant-loop-chain
invariant-loop-chain l = record {
  sized : length l.list.items ≡ l._chain;
  none : (q : ℕ) → get_or l.list.items q None ≡ None;
}
