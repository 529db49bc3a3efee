use Rattle.ufs_joint.proofs.Forgetting.{kept_is_on_disk, less_is_kept, on_disk_is_kept}
use Rattle.ufs_joint.proofs.events.forgetting_law.Goals as goal

pub returns : goal.returns
returns c = record { on_disk = kept_is_on_disk; kept = on_disk_is_kept; less = less_is_kept }
