use Rattle.std.proofs.Common.{◌≡◌, take}
use Rattle.std.specs.Prelude.{map}
use Rattle.ufs_scan.specs.Nets.{nets_of}
use Rattle.ufs_scan.proofs.nets.nets_of.Given as goal

abbrev pub invariant-loop-chain : goal.invariant-loop-chain
invariant-loop-chain l = map (λ v. v.items) l.list.items ≡ map nets_of (take l.chain-index l.chains)
