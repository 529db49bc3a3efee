use Rattle.std.proofs.Common.{◌≡◌, ℕ, ap, subst, refl, arith}
use Rattle.std.specs.Prelude.{Err}
use Rattle.std.proofs.lemmas.Result.{err_from_is_err_and, on_ok_weaker}
use Rattle.ufs_disk.specs.Moments.{LeavesOnly}
use Rattle.ufs_disk.proofs.Runs.{joined, started, weaker}
use Rattle.ufs_layout.specs.declared.records.Committed.{Committed}
use Rattle.ufs_ledger.specs.Changes.{committed_one}
use Rattle.ufs_ledger.specs.Ledger.{IsLedgerOf, IsLeftBy}
use Rattle.ufs_store.specs.Ledgers.{HasAny, HasLedger, IsLeftByAny, commit_stages, room_stages, stages, with_room}
use Rattle.ufs_store.specs.State.{next_commit}
use Rattle.ufs_store.specs.Tables.{state_of}
use Rattle.ufs_store.specs.declared.fault.StoreFault.TheVariants as refusal
use Rattle.ufs_store.proofs.Raised.{raises_more, raises_none, raises_then}
use Rattle.ufs_store.proofs.Rooms.{at_first, at_room, at_commit, by_room, may_in_room}
use Rattle.ufs_store.proofs.commits.commit.Goals as goal

pub returns-then-tables-clause-crash : goal.returns-then-tables-clause-crash
returns-then-tables-clause-crash g c visible l has may =
    let s = state_of (g.D.Disk.size c.args.disk.now) (g.D.Disk.moments c.args.disk.now) (g.D.Disk.faults c.args.disk.now) c.args.tables.now in
    started g.D.Disk.keeps (IsLeftByAny (g.D.Disk.size c.args.disk.now) (stages s c.args.records.now l)) (g.D.Disk.moments c.args.disk.now)
    (λ image left. at_first s c.args.records.now l (λ l. IsLeftBy (g.D.Disk.size c.args.disk.now) l image) (has.by.is.images image left))

pub returns-in_err-make_room-clause-crash : goal.returns-in_err-make_room-clause-crash
returns-in_err-make_room-clause-crash g c visible l has may =
    let s = state_of (g.D.Disk.size c.args.disk.now) (g.D.Disk.moments c.args.disk.now) (g.D.Disk.faults c.args.disk.now) c.args.tables.now in
    let rs = c.args.records.now in
    let size = g.D.Disk.size c.args.disk.now in
    weaker g.D.Disk.keeps (IsLeftByAny size (room_stages s rs l)) (IsLeftByAny size (stages s rs l)) (λ image left. at_room s rs l (λ l. IsLeftBy size l image) left)
    (g.D.Disk.moments c.args.disk.now) (g.D.Disk.moments c.make_room.new.disk) (c.make_room.ensures.crash visible l has)

pub returns-in_err-make_room-clause-device : goal.returns-in_err-make_room-clause-device
returns-in_err-make_room-clause-device g c visible fault is l has may =
    let s = state_of (g.D.Disk.size c.args.disk.now) (g.D.Disk.moments c.args.disk.now) (g.D.Disk.faults c.args.disk.now) c.args.tables.now in
    let rs = c.args.records.now in
    let p = err_from_is_err_and c.from_residual.result c.from_residual.ensures.1 in
    let was = c.in_err-make_room.was in
    let failed : c.make_room.result ≡ Err (refusal.Device fault) = cc in
    at_room s rs l (IsLedgerOf (g.D.Disk.size c.make_room.new.disk) (g.D.Disk.moments c.make_room.new.disk).state) (c.make_room.ensures.device visible fault failed l has)

pub returns-clause-crash : goal.returns-clause-crash
returns-clause-crash g c visible l has may =
    let s = state_of (g.D.Disk.size c.args.disk.now) (g.D.Disk.moments c.args.disk.now) (g.D.Disk.faults c.args.disk.now) c.args.tables.now in
    let rs = c.args.records.now in
    let size = g.D.Disk.size c.args.disk.now in
    let m0 = g.D.Disk.moments c.args.disk.now in
    let m1 = g.D.Disk.moments c.make_room.new.disk in
    let m2 = g.D.Disk.moments c.commit_in_room.new.disk in
    let same : (record { number = c.make_room.new.tables.journal.number; records = rs }) ≡ next_commit s rs = ap (λ (n : ℕ). let t : Committed = record { number = n; records = rs } in t) c.make_room.ensures.number in
    let run1 = weaker g.D.Disk.keeps (IsLeftByAny size (room_stages s rs l)) (IsLeftByAny size (stages s rs l)) (λ image left. at_room s rs l (λ l. IsLeftBy size l image) left) m0 m1 (c.make_room.ensures.crash visible l has) in
    let run2 = c.commit_in_room.ensures.crash visible (with_room s rs l) (c.in_ok-make_room.ensures.ok visible l has) (may_in_room s rs l c.make_room.new.tables.journal.geometry (record { number = c.make_room.new.tables.journal.number; records = rs }) c.make_room.ensures.geometry same may) in
    let run2' = subst (λ (x : ℕ × Committed). LeavesOnly g.D.Disk.keeps (IsLeftByAny x.0 (commit_stages x.1 (with_room s rs l))) m1 m2) (λ i. (c.make_room.ensures.size i, same i)) run2 in
    joined g.D.Disk.keeps (IsLeftByAny size (stages s rs l)) m0 m1 m2 run1
    (weaker g.D.Disk.keeps (IsLeftByAny size (commit_stages (next_commit s rs) (with_room s rs l))) (IsLeftByAny size (stages s rs l)) (λ image left. at_commit s rs l (λ l. IsLeftBy size l image) left) m1 m2 run2')

pub returns-clause-ok : goal.returns-clause-ok
returns-clause-ok g c visible =
    let s = state_of (g.D.Disk.size c.args.disk.now) (g.D.Disk.moments c.args.disk.now) (g.D.Disk.faults c.args.disk.now) c.args.tables.now in
    let t = state_of (g.D.Disk.size c.commit_in_room.new.disk) (g.D.Disk.moments c.commit_in_room.new.disk) (g.D.Disk.faults c.commit_in_room.new.disk) c.commit_in_room.new.tables in
    let rs = c.args.records.now in
    let same : (record { number = c.make_room.new.tables.journal.number; records = rs }) ≡ next_commit s rs = ap (λ (n : ℕ). let t : Committed = record { number = n; records = rs } in t) c.make_room.ensures.number in
    on_ok_weaker c.commit_in_room.result
    (λ goes l has may. subst (λ (u : Committed). HasLedger t (committed_one u (with_room s rs l))) same
    (goes (with_room s rs l) (c.in_ok-make_room.ensures.ok visible l has) (may_in_room s rs l c.make_room.new.tables.journal.geometry (record { number = c.make_room.new.tables.journal.number; records = rs }) c.make_room.ensures.geometry same may)))
    (c.commit_in_room.ensures.ok visible)

pub returns-clause-device : goal.returns-clause-device
returns-clause-device g c visible fault is l has may =
    let s = state_of (g.D.Disk.size c.args.disk.now) (g.D.Disk.moments c.args.disk.now) (g.D.Disk.faults c.args.disk.now) c.args.tables.now in
    let t = state_of (g.D.Disk.size c.commit_in_room.new.disk) (g.D.Disk.moments c.commit_in_room.new.disk) (g.D.Disk.faults c.commit_in_room.new.disk) c.commit_in_room.new.tables in
    let rs = c.args.records.now in
    let same : (record { number = c.make_room.new.tables.journal.number; records = rs }) ≡ next_commit s rs = ap (λ (n : ℕ). let t : Committed = record { number = n; records = rs } in t) c.make_room.ensures.number in
    at_commit s rs l (IsLedgerOf t.sectors t.moments.state)
    (subst (λ (u : Committed). HasAny t (commit_stages u (with_room s rs l))) same
    (c.commit_in_room.ensures.device visible fault is (with_room s rs l) (c.in_ok-make_room.ensures.ok visible l has) (may_in_room s rs l c.make_room.new.tables.journal.geometry (record { number = c.make_room.new.tables.journal.number; records = rs }) c.make_room.ensures.geometry same may)))

pub returns-clause-memory : goal.returns-clause-memory
returns-clause-memory g c visible w is l has =
    let s = state_of (g.D.Disk.size c.args.disk.now) (g.D.Disk.moments c.args.disk.now) (g.D.Disk.faults c.args.disk.now) c.args.tables.now in
    let t = state_of (g.D.Disk.size c.commit_in_room.new.disk) (g.D.Disk.moments c.commit_in_room.new.disk) (g.D.Disk.faults c.commit_in_room.new.disk) c.commit_in_room.new.tables in
    let rs = c.args.records.now in
    by_room s rs l (HasLedger t) (c.commit_in_room.ensures.memory visible w is (with_room s rs l) (c.in_ok-make_room.ensures.ok visible l has))

-- ---- its numbers

pub returns-then-tables-clause-raised : goal.returns-then-tables-clause-raised
returns-then-tables-clause-raised g c = raises_none 1 1 (state_of (g.D.Disk.size c.args.disk.now) (g.D.Disk.moments c.args.disk.now) (g.D.Disk.faults c.args.disk.now) c.args.tables.now) (state_of (g.D.Disk.size c.args.disk.now) (g.D.Disk.moments c.args.disk.now) (g.D.Disk.faults c.args.disk.now) c.args.tables.now) refl refl

pub returns-in_err-make_room-clause-raised : goal.returns-in_err-make_room-clause-raised
returns-in_err-make_room-clause-raised g c = raises_more 1 0 1 1 (state_of (g.D.Disk.size c.args.disk.now) (g.D.Disk.moments c.args.disk.now) (g.D.Disk.faults c.args.disk.now) c.args.tables.now) (state_of (g.D.Disk.size c.make_room.new.disk) (g.D.Disk.moments c.make_room.new.disk) (g.D.Disk.faults c.make_room.new.disk) c.make_room.new.tables) (omega arith) (omega arith) c.make_room.ensures.raised

pub returns-clause-raised : goal.returns-clause-raised
returns-clause-raised g c = raises_then 1 0 0 1 (state_of (g.D.Disk.size c.args.disk.now) (g.D.Disk.moments c.args.disk.now) (g.D.Disk.faults c.args.disk.now) c.args.tables.now) (state_of (g.D.Disk.size c.make_room.new.disk) (g.D.Disk.moments c.make_room.new.disk) (g.D.Disk.faults c.make_room.new.disk) c.make_room.new.tables) (state_of (g.D.Disk.size c.commit_in_room.new.disk) (g.D.Disk.moments c.commit_in_room.new.disk) (g.D.Disk.faults c.commit_in_room.new.disk) c.commit_in_room.new.tables) c.make_room.ensures.raised c.commit_in_room.ensures.raised
