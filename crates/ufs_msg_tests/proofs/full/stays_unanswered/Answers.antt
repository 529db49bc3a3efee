use Rattle.std.proofs.Common.{◌∙◌}
use Rattle.std.proofs.lemmas.List.{length-set}
use Rattle.ufs_msg_tests.proofs.Rooms.{still_addressed}
use Rattle.ufs_msg_tests.proofs.full.stays_unanswered.Goals as goal

pub invariant_of-post-clause-to_clients : goal.invariant_of-post-clause-to_clients
invariant_of-post-clause-to_clients g c = length-set c.args.post.now.clients.items 0 c.no_room.result ∙ c.args.post.now.to_clients

pub invariant_of-post-clause-addressed : goal.invariant_of-post-clause-addressed
invariant_of-post-clause-addressed g c = still_addressed c.args.post.now.clients.items 0 0 c.no_room.result c.no_room.ensures c.args.post.now.addressed
