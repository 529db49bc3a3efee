use Rattle.ufs_promise_laws.proofs.RequestOnDisk.{request_on_disk}
use Rattle.ufs_promise_laws.proofs.names_events.names_request_law.Goals as goal

pub returns : goal.returns
returns c =
    request_on_disk c.args.geometry.now c.promise_law.ensures.entry c.an_entry_keeps_what_is_shown.ensures.other c.entry_law.ensures.names c.notes_law.ensures c.names_law.ensures.table
