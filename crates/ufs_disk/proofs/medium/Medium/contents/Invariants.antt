use Rattle.std.proofs.Common.{◌≡◌, take}
use Rattle.ufs_disk.specs.Pending.{covered_in}
use Rattle.ufs_disk.proofs.medium.Medium.contents.Given as goal

abbrev pub invariant-loop-covered : goal.invariant-loop-covered
invariant-loop-covered l = l.contents.items ≡ covered_in l.sector (take l.covered-index l.self.covered.items)
