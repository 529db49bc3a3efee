use Rattle.ufs_promise_laws.proofs.Fetching.{fetches_are_explained, fetches_go_on, fetches_read_the_tree, parts_by_fetches, sound_by_fetches}
use Rattle.ufs_promise_laws.proofs.file_events.fetch_law.Goals as goal

pub returns : goal.returns
returns c = record {
  tree = fetches_read_the_tree;
  on_disk = fetches_go_on;
  moments = fetches_are_explained c.args.geometry.now c.always_law.ensures.ledger;
  parts = parts_by_fetches;
  sound = sound_by_fetches;
}
