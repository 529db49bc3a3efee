use Rattle.std.proofs.Common.{◌≡◌, List, take}
use Rattle.std.specs.Prelude.{map}
use Rattle.ufs_image.specs.Journal.{FoundSector}
use Rattle.ufs_scan.specs.Gathered.{transaction_in, HasParts}
use Rattle.ufs_scan.proofs.gathered.gather.Given as goal

abbrev pub invariant-loop-one : goal.invariant-loop-one
invariant-loop-one l = (all : List FoundSector) → HasParts all (map (λ b. b.now) l.parts) → l.list.items ≡ map (transaction_in all) (map (λ b. b.now) (take l.one-index l.commits))
