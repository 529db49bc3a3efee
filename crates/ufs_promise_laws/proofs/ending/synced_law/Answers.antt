use Rattle.ufs_promise_laws.proofs.Last.{synced}
use Rattle.ufs_promise_laws.proofs.ending.synced_law.Goals as goal

pub returns : goal.returns
returns c = synced c.an_acknowledgement_is_kept.ensures.sync
