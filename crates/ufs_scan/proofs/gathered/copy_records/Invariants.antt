use Rattle.std.proofs.Common.{◌≡◌, take}
use Rattle.std.specs.Prelude.{flat_map, map}
use Rattle.ufs_scan.specs.Gathered.{placed_in}
use Rattle.ufs_scan.proofs.gathered.copy_records.Given as goal

abbrev pub invariant-loop-one : goal.invariant-loop-one
invariant-loop-one l = l.list.items ≡ map (λ p. p.1) (flat_map (λ b. placed_in b.now) (take l.one-index l.sectors))
