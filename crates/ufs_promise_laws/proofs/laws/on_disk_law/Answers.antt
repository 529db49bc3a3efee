use Rattle.std.proofs.Common.{inl, inr}
use Rattle.ufs_promise_laws.proofs.OnDisk.{all_synced, excused, explained, file_synced, names_synced, on_disk_proper, stays_beside, stays_still}
use Rattle.ufs_promise_laws.proofs.laws.on_disk_law.Goals as goal

pub returns-clause-explained : goal.returns-clause-explained
returns-clause-explained c s start history p same is = explained c.args.geometry.now c.opening_law.ensures.ledger s start history p same is

pub returns-clause-proper : goal.returns-clause-proper
returns-clause-proper c s start history p same is = on_disk_proper c.args.geometry.now c.proper_law.ensures s start history p same is

pub returns-clause-excused : goal.returns-clause-excused
returns-clause-excused c s start history entry p same legal is on_disk =
    excused c.args.geometry.now c.promise_law.ensures.entry s start history entry p same legal c.an_entry_keeps_what_is_shown.ensures.other is on_disk

pub returns-clause-still : goal.returns-clause-still
returns-clause-still c s start history entry p same legal still no_commit on_disk =
    stays_still c.args.geometry.now c.promise_law.ensures.entry s start history entry p same legal c.an_entry_keeps_what_is_shown.ensures.other still (inr no_commit) on_disk

pub returns-clause-refused : goal.returns-clause-refused
returns-clause-refused c s start history entry p same legal still no_ok on_disk =
    stays_still c.args.geometry.now c.promise_law.ensures.entry s start history entry p same legal c.an_entry_keeps_what_is_shown.ensures.other still (inl no_ok) on_disk

pub returns-clause-beside : goal.returns-clause-beside
returns-clause-beside c s start history entry p same legal nothing after bytes on_disk =
    stays_beside c.args.geometry.now c.promise_law.ensures.entry s start history entry p same legal c.an_entry_keeps_what_is_shown.ensures.other nothing after bytes on_disk

pub returns-clause-names_synced : goal.returns-clause-names_synced
returns-clause-names_synced c s start history entry p fd same legal is named has =
    names_synced c.args.geometry.now c.promise_law.ensures.entry s start history entry p same legal c.an_entry_keeps_what_is_shown.ensures.dir_fsync fd is named has

pub returns-clause-file_synced : goal.returns-clause-file_synced
returns-clause-file_synced c s start history entry p fd file same legal is named has =
    file_synced c.args.geometry.now c.promise_law.ensures.entry s start history entry p same legal c.an_entry_keeps_what_is_shown.ensures.fsync fd file is named has

pub returns-clause-all_synced : goal.returns-clause-all_synced
returns-clause-all_synced c s start history entry p same legal is has =
    all_synced c.args.geometry.now c.promise_law.ensures.entry s start history entry p same legal c.an_entry_keeps_what_is_shown.ensures.sync is has
