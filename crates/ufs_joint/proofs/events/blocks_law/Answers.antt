use Rattle.ufs_joint.proofs.FreeBlocks.{by_commits, by_requests}
use Rattle.ufs_joint.proofs.events.blocks_law.Goals as goal

pub returns : goal.returns
returns c = record { requests = by_requests; commits = by_commits }
