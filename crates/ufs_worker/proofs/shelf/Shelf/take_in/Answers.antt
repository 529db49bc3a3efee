use Rattle.std.proofs.Common.{ap, arith, ◌∙◌}
use Rattle.std.specs.FinMap as fin
use Rattle.std.specs.VecDeque.{deque_capacity, deque_len}
use Rattle.ufs_worker.specs.Worker.{ShelfState, filled}
use Rattle.ufs_worker.proofs.Places.{numbered_made, on_err, on_ok, room_made}
use Rattle.ufs_worker.proofs.shelf.Shelf.take_in.Goals as goal

pub invariant_of-self : goal.invariant_of-self
invariant_of-self g c =
    let ok = c.in-Ok.ensures.ok in
    let n = c.len.ensures.len in (
      numbered_made c.make_place.result c.self.inside.places.entries c.make_place.new.places.entries c.args.parcel c.make_place.ensures.made c.make_place.ensures.kept c.self.invariant.0,
      room_made c.make_place.result c.self.inside.places.entries c.make_place.new.places.entries (deque_len c.reserve.new.self) (deque_capacity c.reserve.new.self) c.make_place.ensures.len c.make_place.ensures.kept (omega (arith, ok, n)),
    )

pub returns-in-Ok-clause-taken : goal.returns-in-Ok-clause-taken
returns-in-Ok-clause-taken g c = on_ok c.make_place.result (λ put.
    (λ i. record { files = put i; letters = c.reserve.ensures.items i }) ∙ ap (λ (s : ShelfState). record s { files = fin.insert s.files c.args.parcel.value.file.file c.args.parcel }) c.self.view_is) c.make_place.ensures.made

pub returns-in-Ok-clause-kept : goal.returns-in-Ok-clause-kept
returns-in-Ok-clause-kept g c = on_err c.make_place.result (λ same.
    (λ i. record { files = filled (same i); letters = c.reserve.ensures.items i }) ∙ c.self.view_is) c.make_place.ensures.kept

pub returns-in-Err-clause-kept : goal.returns-in-Err-clause-kept
returns-in-Err-clause-kept g c = (λ i. record { files = filled c.self.inside.places.entries; letters = c.reserve.ensures.items i }) ∙ c.self.view_is

pub invariant_of-self-in-Err : goal.invariant_of-self-in-Err
invariant_of-self-in-Err g c =
    let r = c.self.invariant.1 in
    let n = c.reserve.ensures.len in
    let m = c.reserve.ensures.capacity in
    (c.self.invariant.0, omega (arith, r, n, m))
