use Rattle.std.proofs.Common.{◌≡◌, ◌∙◌, List, ap, sym, subst}
use Rattle.std.specs.Prelude.{IsSome, OnErr}
use Rattle.std.proofs.lemmas.Result.{err_from_is_err_and, on_ok_weaker}
use Rattle.ufs_ledger.specs.Ledger.{IsLedgerOf, Ledger}
use Rattle.ufs_model.specs.PosixTree.{PosixTree}
use Rattle.ufs_model.specs.declared.data.Entry.{Entry}
use Rattle.ufs_store.specs.Ledgers.{HasLedger}
use Rattle.ufs_store.specs.State.{StoreState, geometry_of_store}
use Rattle.ufs_promise_laws.specs.Known.{IsKeptGoing, IsKeptStopped, Known, nothing_known}
use Rattle.ufs_promise_laws.specs.Parts.{Parts}
use Rattle.ufs_promise_laws.proofs.Known.{nothing_going}
use Rattle.ufs_promise_laws.proofs.Stamping.{is_going}
use Rattle.ufs_promise_laws.proofs.Stretches.{explained_joined}
use Rattle.ufs_names_commit.specs.Laws.{IsBeside}
use Rattle.ufs_names_commit.proofs.Stops.{device_alone, has_stopped, on_err_cases, passed_ok, stop_is}
use Rattle.ufs_names_commit.proofs.zeros.make_ready.Goals as goal

pub write_zeros-requires-clause-stamped : goal.write_zeros-requires-clause-stamped
write_zeros-requires-clause-stamped g c stamps =
    let old = g.D.Door.store c.args.door.now in
    let told = c.requires.stamped stamps in
    let e = told.2 in (
      told.0,
      told.1,
      record {
        start = e.start;
        history = e.history;
        zeroed = c.zeros_law.ensures.begin old e.start e.history told.0 nothing_known (nothing_going old e.start e.history told.0 (is_going old e.start e.history told.0 c.requires.going e.on_disk));
        allowed = e.allowed;
      },
    )

pub returns-in_err-write_zeros-clause-err : goal.returns-in_err-write_zeros-clause-err
returns-in_err-write_zeros-clause-err g c visible =
    let old = g.D.Door.store c.args.door.now in
    let new = g.D.Door.store c.write_zeros.new.door in
    let stops : (start : PosixTree) (history : List Entry) (p : Parts) (known : Known) → p.fresh ≡ c.args.fresh.now → IsKeptGoing old start history p known → IsKeptStopped new start history p known =
    λ start history p known same go. c.in_err-write_zeros.ensures.err visible start history p known same (c.zeros_law.ensures.begin old start history p known go) in
    let p = err_from_is_err_and c.from_residual.result c.from_residual.ensures.1 in
    subst (λ r. OnErr r ((start : PosixTree) (history : List Entry) (p : Parts) (known : Known) → p.fresh ≡ c.args.fresh.now → IsKeptGoing old start history p known → IsKeptStopped new start history p known)) (sym p.1) stops

pub returns-clause-ok : goal.returns-clause-ok
returns-clause-ok g c visible =
    let old = g.D.Door.store c.args.door.now in
    let mid = g.D.Door.store c.write_zeros.new.door in
    let new = g.D.Door.store c.settle.new.self in
    let beside : IsBeside c.geometry-geometry.result mid new = record {
      old_form = ap geometry_of_store c.write_zeros.ensures.rest ∙ sym c.geometry-geometry.ensures.is;
      new_form = ap geometry_of_store c.settle.ensures.rest ∙ ap geometry_of_store c.write_zeros.ensures.rest ∙ sym c.geometry-geometry.ensures.is;
      unassigned = ap (λ (s : StoreState). s.unassigned) c.settle.ensures.rest;
    } in
    on_ok_weaker c.settle.result (λ barrier start history p known same go. c.zeros_law.ensures.barrier mid new start history p known beside (g.met.D.Door.whole visible c.settle.new.self) barrier
    (c.in_ok-write_zeros.ensures.ok visible start history p known same (c.zeros_law.ensures.begin old start history p known go))) (c.settle.ensures.ok visible)

pub returns-clause-err : goal.returns-clause-err
returns-clause-err g c visible =
    let old = g.D.Door.store c.args.door.now in
    let mid = g.D.Door.store c.write_zeros.new.door in
    let new = g.D.Door.store c.settle.new.self in
    let beside : IsBeside c.geometry-geometry.result mid new = record {
      old_form = ap geometry_of_store c.write_zeros.ensures.rest ∙ sym c.geometry-geometry.ensures.is;
      new_form = ap geometry_of_store c.settle.ensures.rest ∙ ap geometry_of_store c.write_zeros.ensures.rest ∙ sym c.geometry-geometry.ensures.is;
      unassigned = ap (λ (s : StoreState). s.unassigned) c.settle.ensures.rest;
    } in
    let going = ap (λ (s : StoreState). s.stop) c.in_ok-write_zeros.ensures.passed ∙ c.requires.going in
    let device = device_alone mid.stop new.stop going c.settle.result c.settle.ensures.refused c.settle.ensures.stopped in
    let stopped = has_stopped mid.stop new.stop going c.settle.result (stop_is mid.stop new.stop _ going c.settle.ensures.stop) device in
    on_err_cases c.settle.result _ (λ at start history p known same go. c.zeros_law.ensures.barrier_fails mid new start history p known p.fresh beside (at (IsSome new.stop) stopped)
    (at ((l : Ledger) → HasLedger mid l → IsLedgerOf new.sectors new.moments.state l) (c.settle.ensures.err visible))
    (c.in_ok-write_zeros.ensures.ok visible start history p known same (c.zeros_law.ensures.begin old start history p known go)))

pub returns-clause-stop : goal.returns-clause-stop
returns-clause-stop g c = stop_is _ _ _ (ap (λ (s : StoreState). s.stop) c.in_ok-write_zeros.ensures.passed ∙ c.requires.going) c.settle.ensures.stop

pub returns-clause-refused : goal.returns-clause-refused
returns-clause-refused g c = device_alone (g.D.Door.store c.write_zeros.new.door).stop (g.D.Door.store c.settle.new.self).stop (ap (λ (s : StoreState). s.stop) c.in_ok-write_zeros.ensures.passed ∙ c.requires.going) c.settle.result c.settle.ensures.refused c.settle.ensures.stopped

pub returns-clause-passed : goal.returns-clause-passed
returns-clause-passed g c =
    let old = g.D.Door.store c.args.door.now in
    let mid = g.D.Door.store c.write_zeros.new.door in
    let new = g.D.Door.store c.settle.new.self in
    let going = ap (λ (s : StoreState). s.stop) c.in_ok-write_zeros.ensures.passed ∙ c.requires.going in
    on_ok_weaker c.settle.result (λ passed. passed ∙ ap (λ (s : StoreState). record s { moments = new.moments; unsettled = new.unsettled }) c.in_ok-write_zeros.ensures.passed)
    (passed_ok c.settle.result mid new going c.settle.ensures.rest c.settle.ensures.cause c.settle.ensures.stop)

pub returns-in_err-write_zeros-clause-moments : goal.returns-in_err-write_zeros-clause-moments
returns-in_err-write_zeros-clause-moments g c visible start history p known same go =
    c.write_zeros.ensures.moments visible start history p known same (c.zeros_law.ensures.begin (g.D.Door.store c.args.door.now) start history p known go)

pub returns-clause-moments : goal.returns-clause-moments
returns-clause-moments g c visible start history p known same go =
    let old = g.D.Door.store c.args.door.now in
    let mid = g.D.Door.store c.write_zeros.new.door in
    let new = g.D.Door.store c.settle.new.self in
    let z = c.zeros_law.ensures.begin old start history p known go in
    explained_joined g.D.Door.keeps start history old.sectors old.moments mid new.moments (ap (λ (s : StoreState). s.sectors) c.write_zeros.ensures.rest)
    (c.write_zeros.ensures.moments visible start history p known same z)
    (c.zeros_law.ensures.barrier_moments g.D.Door.keeps mid new.moments start history p known p.fresh (ap geometry_of_store c.write_zeros.ensures.rest ∙ sym c.geometry-geometry.ensures.is) (c.settle.ensures.crash visible)
    (c.in_ok-write_zeros.ensures.ok visible start history p known same z))
