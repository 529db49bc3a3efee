use Rattle.std.proofs.Common.{◌≡◌, drop, take, length}
use Rattle.ufs_scan.specs.Folding as fold
use Rattle.ufs_scan.proofs.folding.Fold.fold_chains.Given as goal

abbrev pub invariant-loop-place : goal.invariant-loop-place
invariant-loop-place l = record {
  folded : fold.folded_from l.number l.index l.from (drop l.from (take l.to l.chains)) l.fn.self ≡ fold.folded_from l.number l.index l.place (drop l.place (take l.to l.chains)) l.self;
  standings : length l.self.standings ≡ length l.fn.self.standings;
  leasts : length l.self.leasts ≡ length l.fn.self.leasts;
}
