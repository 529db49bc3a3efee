-- After a change of leases a block of a file that isn't in memory has its bytes on the disk.
use Rattle.std.proofs.Common.{sym, subst}
use Rattle.ufs_hand_laws.specs.Parts.{FilePart}
use Rattle.ufs_hand_laws.specs.DiskBytes.{IsOnDisk}
use Rattle.ufs_hand_laws.specs.DiskBytes.{HasDiskBytes}
use Rattle.ufs_hand_laws.specs.Visible.{IsDiskVisible}
use Rattle.ufs_hand_laws.proofs.Lease.Setting.{LeaseStep, leasing}

module _ (step : LeaseStep) where
  open step use {S, k, word, views, i, v, o, at, go}
  open leasing step use {w, next, client_was, file_was, names_were, client_present, file_present}

  pub disk_next : IsDiskVisible k → HasDiskBytes next
  disk_next = λ visible f x is. let y = file_was f x is in subst (λ (z : FilePart). IsOnDisk z o.world.store.state) (sym y.2) (o.disk_bytes visible f y.0 y.1)
