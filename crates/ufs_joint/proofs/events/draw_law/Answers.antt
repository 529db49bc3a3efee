use Rattle.ufs_joint.proofs.Draws.{beside_requests, excuses, file_requests, still_requests}
use Rattle.ufs_joint.proofs.events.draw_law.Goals as goal

pub returns : goal.returns
returns c = record {
  excused = excuses c.a_request_keeps_the_tree.ensures c.an_entry_keeps_what_is_shown.ensures.other;
  still = still_requests c.a_request_keeps_the_tree.ensures c.an_entry_keeps_what_is_shown.ensures.other;
  beside = beside_requests c.a_request_keeps_the_tree.ensures c.an_entry_keeps_what_is_shown.ensures.other;
  file = file_requests c.a_request_keeps_the_tree.ensures c.an_entry_keeps_what_is_shown.ensures.other c.a_file_request_keeps_the_names.ensures c.standing_law.ensures.served c.standing_law.ensures.reads c.committing_law.ensures.served;
}
