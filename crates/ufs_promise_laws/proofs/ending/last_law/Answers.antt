use Rattle.ufs_promise_laws.proofs.Last.{all_last}
use Rattle.ufs_promise_laws.proofs.ending.last_law.Goals as goal

pub returns : goal.returns
returns c = all_last c.args.geometry.now c.on_disk_law.ensures.all_synced c.on_disk_law.ensures.explained c.synced_law.ensures
