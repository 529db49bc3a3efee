use Rattle.std.proofs.Common.{◌≡◌, ◌+◌, ◌≤◌, ℕ, List, [], ◌∷◌, false, sym, subst, arith}
use Rattle.std.specs.Prelude.{if◌then◌else◌}
use Rattle.std.proofs.lemmas.Bool.Decides.{nat_tests}
use Rattle.std.proofs.lemmas.Result.{on_ok_weaker}
use Rattle.ufs_disk.specs.Moments.{LeavesOnly}
use Rattle.ufs_layout.specs.declared.records.LogRecord.{LogRecord}
use Rattle.ufs_layout.specs.Filled.{sector_count_of}
use Rattle.ufs_store.specs.Ledgers.{HasAny, HasLedger, IsLeftByAny, beginning_next, checkpointed}
use Rattle.ufs_store.specs.State.{StoreState, has_room}
use Rattle.ufs_store.specs.Tables.{state_of}
use Rattle.ufs_store.proofs.commits.make_room.Goals as goal

-- Room lacks.
lacks : (s : StoreState) (records : List LogRecord) (room count : ℕ) → room + s.journal.used ≡ s.journal.geometry.journal → count ≡ sector_count_of records → room ≤ count → has_room s records ≡ false
lacks s records room count whole counted over = let past : s.journal.geometry.journal ≤ s.journal.used + sector_count_of records = omega (arith, whole, counted, over) in grind (arith, nat_tests, past)

pub returns-clause-crash : goal.returns-clause-crash
returns-clause-crash g c visible l has =
    let s = state_of (g.D.Disk.size c.args.disk.now) (g.D.Disk.moments c.args.disk.now) (g.D.Disk.faults c.args.disk.now) c.args.tables.now in
    let full = lacks s c.args.records.now c.room.result c.sectors_needed.result c.room.ensures c.sectors_needed.ensures c.if-sectors_needed-room.false in
    subst (λ b. LeavesOnly g.D.Disk.keeps (IsLeftByAny (g.D.Disk.size c.args.disk.now) (if b then l ∷ [] else l ∷ beginning_next s l ∷ [])) (g.D.Disk.moments c.args.disk.now) (g.D.Disk.moments c.begin_next.new.disk))
    (sym full) (c.begin_next.ensures.crash visible l has)

pub returns-clause-ok : goal.returns-clause-ok
returns-clause-ok g c visible =
    let s = state_of (g.D.Disk.size c.args.disk.now) (g.D.Disk.moments c.args.disk.now) (g.D.Disk.faults c.args.disk.now) c.args.tables.now in
    let t = state_of (g.D.Disk.size c.begin_next.new.disk) (g.D.Disk.moments c.begin_next.new.disk) (g.D.Disk.faults c.begin_next.new.disk) c.begin_next.new.tables in
    let full = lacks s c.args.records.now c.room.result c.sectors_needed.result c.room.ensures c.sectors_needed.ensures c.if-sectors_needed-room.false in
    on_ok_weaker c.begin_next.result (λ goes l has. subst (λ b. HasLedger t (if b then l else checkpointed s l)) (sym full) (goes l has)) (c.begin_next.ensures.ok visible)

pub returns-clause-device : goal.returns-clause-device
returns-clause-device g c visible fault is l has =
    let s = state_of (g.D.Disk.size c.args.disk.now) (g.D.Disk.moments c.args.disk.now) (g.D.Disk.faults c.args.disk.now) c.args.tables.now in
    let t = state_of (g.D.Disk.size c.begin_next.new.disk) (g.D.Disk.moments c.begin_next.new.disk) (g.D.Disk.faults c.begin_next.new.disk) c.begin_next.new.tables in
    let full = lacks s c.args.records.now c.room.result c.sectors_needed.result c.room.ensures c.sectors_needed.ensures c.if-sectors_needed-room.false in
    subst (λ b. HasAny t (if b then l ∷ [] else l ∷ beginning_next s l ∷ [])) (sym full) (c.begin_next.ensures.device visible fault is l has)
