use Rattle.ufs_msg.proofs.Addressing.{addressed_new}
use Rattle.ufs_msg.proofs.plain.PlainPost.make.Goals as goal

pub invariant_of-result-clause-addressed : goal.invariant_of-result-clause-addressed
invariant_of-result-clause-addressed g c = addressed_new c.args.clients 1 c.in_ok-clients.clients.items c.in_ok-clients.ensures
