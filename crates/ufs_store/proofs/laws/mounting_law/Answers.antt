use Rattle.ufs_store.proofs.Cleaned.{clean_disks_mount}
use Rattle.ufs_store.proofs.laws.mounting_law.Goals as goal

pub returns : goal.returns
returns c = clean_disks_mount
