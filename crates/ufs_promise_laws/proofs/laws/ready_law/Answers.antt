use Rattle.std.proofs.Common.{sym, subst}
use Rattle.ufs_promise_laws.specs.ChangeLaws.{ZerosAreTaken}
use Rattle.ufs_promise_laws.proofs.Zeros.{emptied_stored, settled_stored, spelled_kept, spelled_stored, written_stored}
use Rattle.ufs_promise_laws.proofs.laws.ready_law.Goals as goal

pub returns-clause-write : goal.returns-clause-write
returns-clause-write c l unassigned start history counts p block bytes same none fresh st =
    written_stored c.args.geometry.now l unassigned start history counts p same st c.promise_law.ensures.written block bytes none fresh

pub returns-clause-barrier : goal.returns-clause-barrier
returns-clause-barrier c l unassigned start history counts p same none st =
    settled_stored c.args.geometry.now l unassigned start history counts p same st c.promise_law.ensures.settled none

pub returns-clause-spelled : goal.returns-clause-spelled
returns-clause-spelled c l unassigned start history counts p block same none sound covers fresh free st =
    spelled_stored l unassigned start history counts p block none fresh free st (subst ZerosAreTaken (sym same) c.state_law.ensures.zeros)
    (spelled_kept c.args.geometry.now c.promise_law.ensures.zeros l block start history counts same none sound covers free.no_dir st.kept)

pub returns-clause-checkpoint : goal.returns-clause-checkpoint
returns-clause-checkpoint c l unassigned start history counts p superblock home same next st =
    emptied_stored c.args.geometry.now l unassigned start history counts p same st c.promise_law.ensures.emptied superblock home next
