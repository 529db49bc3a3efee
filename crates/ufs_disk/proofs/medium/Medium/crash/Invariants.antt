use Rattle.std.proofs.Common.{◌≡◌, ◌++◌, ◌-◌}
use Rattle.ufs_disk.specs.Calls.{picked}
use Rattle.ufs_disk.specs.Medium.{medium_moments}
use Rattle.ufs_disk.proofs.medium.Medium.crash.Given as goal

abbrev pub invariant-loop-sector : goal.invariant-loop-sector
invariant-loop-sector l = l.image.items ++ picked (medium_moments l.self).state l.left l.sector (l.self.sectors - l.sector) ≡ picked (medium_moments l.self).state l.pick 0 l.self.sectors
