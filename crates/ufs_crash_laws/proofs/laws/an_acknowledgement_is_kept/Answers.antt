use Rattle.ufs_crash_laws.proofs.LawLemmas.{syncs, fsyncs, fsynced_there, synced_there}
use Rattle.ufs_crash_laws.proofs.laws.an_acknowledgement_is_kept.Goals as goal

pub returns : goal.returns
returns c = record { sync = syncs c.a_request_keeps_the_tree.ensures; fsync = fsyncs c.a_request_keeps_the_tree.ensures; there = fsynced_there; bytes = synced_there }
