use Rattle.ufs_promise_laws.proofs.EventsGoing.{free_blocks_go_on, parts_by_excuses, parts_by_requests, requests_go_on}
use Rattle.ufs_promise_laws.proofs.Sound.{sound_by_free_blocks, sound_by_requests}
use Rattle.ufs_promise_laws.proofs.file_events.file_request_law.Goals as goal

pub returns : goal.returns
returns c = record {
  free = free_blocks_go_on;
  free_sound = sound_by_free_blocks;
  request = requests_go_on c.a_request_keeps_the_tree.ensures c.an_entry_keeps_what_is_shown.ensures.other c.a_file_request_keeps_the_names.ensures c.standing_law.ensures.served c.standing_law.ensures.reads c.committing_law.ensures.served;
  parts = parts_by_requests c.a_file_request_keeps_the_names.ensures;
  excused = parts_by_excuses;
  request_sound = sound_by_requests;
}
