use Rattle.std.proofs.Common.{◌∙◌}
use Rattle.ufs_ring.specs.Buffers.{HasLost, IsEmpty}
use Rattle.ufs_msg.specs.Rows.{IsSoAt}
use Rattle.ufs_msg.proofs.Addressing.{addressed_taken}
use Rattle.ufs_msg.proofs.Places.{taken_length}
use Rattle.ufs_msg.proofs.plain.PlainPostClientPost.take_answer.Goals as goal

pub invariant_of-self-clause-to_clients : goal.invariant_of-self-clause-to_clients
invariant_of-self-clause-to_clients g c =
    taken_length HasLost (IsSoAt IsEmpty c.args.self.now.clients.items c.from.result) c.args.self.now.clients.items c.take_at.new.rings.items c.from.result c.take_at.result c.take_at.ensures ∙ c.args.self.now.to_clients

pub invariant_of-self-clause-addressed : goal.invariant_of-self-clause-addressed
invariant_of-self-clause-addressed g c =
    addressed_taken (IsSoAt IsEmpty c.args.self.now.clients.items c.from.result) c.args.self.now.clients.items c.take_at.new.rings.items c.from.result c.take_at.result c.args.self.now.addressed c.take_at.ensures
