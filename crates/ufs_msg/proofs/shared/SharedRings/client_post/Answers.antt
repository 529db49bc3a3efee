use Rattle.std.proofs.Common.{◌≡◌, ℕ, Some, length, slice_get, subst, arith}
use Rattle.ufs_ring.specs.Ends.{room_of}
use Rattle.ufs_msg.specs.There.{client_count}
use Rattle.ufs_msg.proofs.Places.{at_place}
use Rattle.ufs_msg.proofs.Rooms.{count_of_rooms}
use Rattle.ufs_msg.proofs.shared.SharedRings.client_post.Goals as goal

pub returns-clause-mail : goal.returns-clause-mail
returns-clause-mail g c =
    let rings = c.args.self.now.clients.items in
    let count : length rings ≡ client_count g.N.Naming.start = count_of_rooms room_of rings (client_count g.N.Naming.start) 1 c.args.self.now.answers_room in
    let found = at_place rings c.from.result c.index.result.now (omega (arith, count, c.requires, c.from.ensures)) c.index.ensures in
    (c.index.result.now, subst (λ (place : ℕ). slice_get rings place ≡ Some c.index.result.now) c.from.ensures found, c.new-mail.ensures)

pub returns-clause-requests : goal.returns-clause-requests
returns-clause-requests g c = record { primary = c.new.ensures; others = c.in_ok-ends.ensures }
