use Rattle.ufs_joint.proofs.Fetching.{fetches}
use Rattle.ufs_joint.proofs.events.file_fetch_law.Goals as goal

pub returns : goal.returns
returns c = fetches
