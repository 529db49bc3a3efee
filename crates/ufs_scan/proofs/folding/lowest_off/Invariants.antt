use Rattle.std.proofs.Common.{◌≡◌, List, drop, length}
use Rattle.std.specs.Prelude.{map}
use Rattle.ufs_image.specs.Journal.{FoundSector}
use Rattle.ufs_layout.specs.declared.geometry.Geometry.{Geometry}
use Rattle.ufs_found.specs.Off.{lower}
use Rattle.ufs_scan.specs.Folding.{IsFoldable}
use Rattle.ufs_scan.proofs.Commits.{Going, sum_of}
use Rattle.ufs_scan.proofs.folding.lowest_off.Given as goal

abbrev pub invariant-loop-commit : goal.invariant-loop-commit
invariant-loop-commit l = record {
  standings : length l.fold.standings ≡ length l.fn.start.items;
  leasts : length l.fold.leasts ≡ length l.chains;
  going : (g : Geometry) (all parts : List FoundSector) → IsFoldable g all parts l.chains (map (λ b. b.now) l.commits) l.fn.start.items l.fn.known
      → Going g all parts l.chains l.fn.known (lower l.fn.known (sum_of g all (map (λ b. b.now) l.commits) l.fn.start.items)) (map (λ b. b.now) (drop l.commit-index l.commits)) l.fold;
}
