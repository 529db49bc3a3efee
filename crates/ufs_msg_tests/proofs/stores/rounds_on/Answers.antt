use Rattle.std.proofs.Common.{◌≡◌, rules, sym, subst, ap, ◌∙◌}
use Rattle.ufs_joint.specs.Ends.{CanBegin}
use Rattle.ufs_msg_tests.proofs.TwoClients.{two_begin}
use Rattle.ufs_msg.specs.There.{client_count, worker_count}
use Rattle.ufs_msg_tests.proofs.stores.rounds_on.Goals as goal

pub open-requires : goal.open-requires
open-requires g c = subst CanBegin (sym c.two_parts-parts.ensures) (two_begin c.args.names.now (g.D.Door.store c.args.store.now) c.requires.part c.requires.counted c.requires.bare c.requires.formed c.requires.free)

pub session-requires-clause-clients : goal.session-requires-clause-clients
session-requires-clause-clients g c =
    let is : client_count c.in-Ok.opened.start ≡ 2 = ap client_count (c.in-Ok.ensures ∙ c.two_parts-parts.ensures) in
    search (rules, is)

pub session-requires-clause-workers : goal.session-requires-clause-workers
session-requires-clause-workers g c =
    let is : worker_count c.in-Ok.opened.start ≡ 3 = ap worker_count (c.in-Ok.ensures ∙ c.two_parts-parts.ensures) in
    search (rules, is)
