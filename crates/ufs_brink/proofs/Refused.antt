-- What a mount that is refused leaves.
use Rattle.std.proofs.Common.{◌≡◌, ◌≢◌, Bool, refl}
use Rattle.ufs_base.specs.Images.{Image}
use Rattle.ufs_base.specs.declared.lack.Lack as lack
use Rattle.ufs_disk.specs.Disk.{Leaves}
use Rattle.ufs_disk.specs.Moments.{LeavesOnly, Moments}
use Rattle.ufs_disk.proofs.Runs.{stays, weaker}
use Rattle.ufs_store.specs.declared.fault.StoreFault.{StoreFault}
use Rattle.ufs_store.specs.declared.fault.StoreFault.TheVariants.{Device, Stopped, NoSpace, Lack}

-- Where memory was wanting the disk is as it was, and otherwise in the middle of the mount.
pub refused_leaves : (P Q : Image → Type 0) (keeps : Bool) (old new : Moments) (fault : StoreFault) → ((w : lack.Lack) → fault ≡ Lack w → new ≡ old) → (((w : lack.Lack) → fault ≢ Lack w) → LeavesOnly keeps Q old new) → ((image : Image) → Q image → P image)
    → Leaves P old.state → LeavesOnly keeps P old new
refused_leaves P Q keeps old new (Device number) same run more here = weaker keeps Q P more old new (run (λ w e. cc))
refused_leaves P Q keeps old new (Stopped number) same run more here = weaker keeps Q P more old new (run (λ w e. cc))
refused_leaves P Q keeps old new (NoSpace need had) same run more here = weaker keeps Q P more old new (run (λ w e. cc))
refused_leaves P Q keeps old new (Lack w) same run more here = stays keeps P old new (same w refl) here
