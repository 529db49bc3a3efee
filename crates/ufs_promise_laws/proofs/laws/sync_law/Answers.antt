use Rattle.std.proofs.Common.{ap}
use Rattle.ufs_promise_laws.specs.Laws.{leaves_tree}
use Rattle.ufs_promise_laws.proofs.Entries.{still_kept}
use Rattle.ufs_promise_laws.proofs.laws.sync_law.Goals as goal

pub returns-clause-fsync : goal.returns-clause-fsync
returns-clause-fsync c l unassigned start history entry counts p fd file same legal is named has made st =
    still_kept c.args.geometry.now c.promise_law.ensures.entry l unassigned start history entry counts p same legal (ap leaves_tree is)
    (c.an_entry_keeps_what_is_shown.ensures.fsync start history entry counts.names counts.files fd file is named made (st.counted.born file has)) st

pub returns-clause-dir_fsync : goal.returns-clause-dir_fsync
returns-clause-dir_fsync c l unassigned start history entry counts p fd same legal is named made st =
    still_kept c.args.geometry.now c.promise_law.ensures.entry l unassigned start history entry counts p same legal (ap leaves_tree is)
    (c.an_entry_keeps_what_is_shown.ensures.dir_fsync start history entry counts.names counts.files fd is named made) st

pub returns-clause-sync : goal.returns-clause-sync
returns-clause-sync c l unassigned start history entry counts p same legal is made each st =
    still_kept c.args.geometry.now c.promise_law.ensures.entry l unassigned start history entry counts p same legal (ap leaves_tree is)
    (c.an_entry_keeps_what_is_shown.ensures.sync start history entry counts.names counts.files is made each) st
