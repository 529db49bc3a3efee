use Rattle.std.proofs.Common.{◌≡◌, ℕ, ◌≤◌, ◌-◌, Some, length, slice_get, sym, ap, subst, arith}
use Rattle.ufs_model.specs.declared.data.Actor.{Actor}
use Rattle.ufs_ring.specs.Ends.{room_of}
use Rattle.ufs_msg.specs.Inboxes.{IsInboxOf}
use Rattle.ufs_msg.specs.Shared.{IsEndFor}
use Rattle.ufs_msg.specs.There.{IsServerThere, worker_count}
use Rattle.ufs_msg.specs.declared.ruled.Inbox.TheVariants as inbox
use Rattle.ufs_msg.proofs.Places.{at_place}
use Rattle.ufs_msg.proofs.Rooms.{count_of_rooms}
use Rattle.ufs_msg.proofs.shared.SharedRings.own_ends.Goals as goal

pub returns-in-Primary-clause-inbox : goal.returns-in-Primary-clause-inbox
returns-in-Primary-clause-inbox g c = subst (λ (who : Actor). IsInboxOf c.args.self.now.requests who (inbox.Primary c.new.result)) (sym c.in-Primary.is) c.new.ensures

pub returns-in-Primary-clause-moves : goal.returns-in-Primary-clause-moves
returns-in-Primary-clause-moves g c = subst (λ (who : Actor). IsEndFor c.args.self.now.letters who c.new-in-Primary.result) (sym c.in-Primary.is) c.new-in-Primary.ensures

pub returns-in-Worker-clause-inbox : goal.returns-in-Worker-clause-inbox
returns-in-Worker-clause-inbox g c =
    let there : (1 ≤ c.in-Worker.worker) × (c.in-Worker.worker ≤ worker_count g.N.Naming.start) = subst (IsServerThere g.N.Naming.start) c.in-Worker.is c.requires in
    let rings = c.args.self.now.requests.workers.items in
    let count : length rings ≡ worker_count g.N.Naming.start = count_of_rooms room_of rings (worker_count g.N.Naming.start) 16 c.args.self.now.hinted_room in
    let found = at_place rings (c.from-place.result - 1) c.index.result.now (omega (arith, count, there.0, there.1, c.from-place.ensures)) c.index.ensures in
    let at : slice_get rings (c.in-Worker.worker - 1) ≡ Some c.index.result.now = subst (λ (place : ℕ). slice_get rings place ≡ Some c.index.result.now) (ap (λ (n : ℕ). n - 1) c.from-place.ensures) found in
    subst (λ (who : Actor). IsInboxOf c.args.self.now.requests who (inbox.Worker c.new-in-Worker.result)) (sym c.in-Worker.is) (c.index.result.now, at, c.new-in-Worker.ensures)

pub returns-in-Worker-clause-moves : goal.returns-in-Worker-clause-moves
returns-in-Worker-clause-moves g c =
    let there : (1 ≤ c.in-Worker.worker) × (c.in-Worker.worker ≤ worker_count g.N.Naming.start) = subst (IsServerThere g.N.Naming.start) c.in-Worker.is c.requires in
    let rings = c.args.self.now.letters.workers.items in
    let count : length rings ≡ worker_count g.N.Naming.start = count_of_rooms room_of rings (worker_count g.N.Naming.start) 64 c.args.self.now.letters_room in
    let found = at_place rings (c.from-place.result - 1) c.index-in-Worker.result.now (omega (arith, count, there.0, there.1, c.from-place.ensures)) c.index-in-Worker.ensures in
    let at : slice_get rings (c.in-Worker.worker - 1) ≡ Some c.index-in-Worker.result.now = subst (λ (place : ℕ). slice_get rings place ≡ Some c.index-in-Worker.result.now) (ap (λ (n : ℕ). n - 1) c.from-place.ensures) found in
    subst (λ (who : Actor). IsEndFor c.args.self.now.letters who c.new-in-Worker-2.result) (sym c.in-Worker.is) (c.index-in-Worker.result.now, at, c.new-in-Worker-2.ensures)
