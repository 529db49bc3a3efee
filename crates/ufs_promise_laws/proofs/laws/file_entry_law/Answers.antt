use Rattle.ufs_promise_laws.proofs.FileEntries.{file_entry_kept}
use Rattle.ufs_promise_laws.proofs.laws.file_entry_law.Goals as goal

pub returns : goal.returns
returns c l unassigned start history entry counts p f next pool ask server ticket desc d same legal no_commit old kind asked is of applied st =
    file_entry_kept c.args.geometry.now c.promise_law.ensures.entry c.an_entry_keeps_what_is_shown.ensures.other c.a_file_request_keeps_the_names.ensures c.standing_law.ensures.served c.committing_law.ensures.served
    l unassigned start history entry counts p f next pool ask server ticket desc d same legal no_commit old kind asked is of applied st
