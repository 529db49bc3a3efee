use Rattle.ufs_promise_laws.proofs.Writing.{written_syncs_go_on}
use Rattle.ufs_promise_laws.proofs.file_events.file_memory_law.Goals as goal

pub returns : goal.returns
returns c = written_syncs_go_on c.args.geometry.now c.ready_law.ensures.checkpoint c.committing_law.ensures.written c.standing_law.ensures.may c.committing_law.ensures.bytes c.standing_law.ensures.written c.others_law.ensures.writes
