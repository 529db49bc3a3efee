use Rattle.ufs_joint.proofs.Everything.{all_acknowledged}
use Rattle.ufs_joint.proofs.events.sync_law.Goals as goal

pub returns : goal.returns
returns c =
    all_acknowledged c.args.geometry.now c.promise_law.ensures.entry c.promise_law.ensures.commit c.an_entry_keeps_what_is_shown.ensures.sync c.a_request_keeps_the_tree.ensures c.a_history_goes_by_its_changes.ensures.names
