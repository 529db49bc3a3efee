use Rattle.ufs_promise_laws.proofs.Entries.{entry_kept, excuse_kept, still_kept}
use Rattle.ufs_promise_laws.proofs.NewFiles.{name_entry_kept}
use Rattle.ufs_promise_laws.proofs.laws.entry_law.Goals as goal

pub returns-clause-quiet : goal.returns-clause-quiet
returns-clause-quiet c l unassigned start history entry counts p same legal ack after bytes st =
    entry_kept c.args.geometry.now c.promise_law.ensures.entry l unassigned start history entry counts p same legal ack after bytes st

pub returns-clause-excused : goal.returns-clause-excused
returns-clause-excused c l unassigned start history entry counts p same legal excused st =
    excuse_kept c.args.geometry.now c.promise_law.ensures.entry c.an_entry_keeps_what_is_shown.ensures.other l unassigned start history entry counts p same legal excused st

pub returns-clause-still : goal.returns-clause-still
returns-clause-still c l unassigned start history entry counts p same legal still ack st =
    still_kept c.args.geometry.now c.promise_law.ensures.entry l unassigned start history entry counts p same legal still ack st

pub returns-clause-names : goal.returns-clause-names
returns-clause-names c l unassigned start history entry counts p next same legal ack parts names files spaced st =
    name_entry_kept c.args.geometry.now c.promise_law.ensures.entry l unassigned start history entry counts p next same legal ack parts names files spaced st
