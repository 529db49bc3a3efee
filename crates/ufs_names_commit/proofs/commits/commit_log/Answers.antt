use Rattle.std.proofs.Common.{◌≡◌, ◌≢◌, ◌∙◌, ℕ, true, false, inl, inr, List, [], ap, eqb-true, length, refl, sym, subst}
use Rattle.std.specs.Prelude.{◌==◌, Err, IfErr, IsSome, IsTrue, OnErr, Some}
use Rattle.std.proofs.lemmas.List.{nil_from_length}
use Rattle.std.proofs.lemmas.Result.{err_from_is_err_and}
use Rattle.ufs_layout.specs.declared.records.LogRecord.{LogRecord}
use Rattle.ufs_model.specs.PosixTree.{PosixTree}
use Rattle.ufs_model.specs.declared.data.Entry.{Entry}
use Rattle.ufs_name_tree.specs.NameTable.{IsNameTable}
use Rattle.ufs_store.specs.Refusals.{fault_in, is_no_space, is_own}
use Rattle.ufs_store.specs.State.{StoreState, geometry_of_store}
use Rattle.ufs_store.proofs.Raised.{raises_none, raises_then}
use Rattle.ufs_store.proofs.Stamping.{stages_more}
use Rattle.ufs_promise_laws.specs.Known.{IsDiskKept, IsKeptGoing, Known, nothing_known}
use Rattle.ufs_promise_laws.specs.OnDisk.{IsExplainedImage}
use Rattle.ufs_promise_laws.specs.Parts.{Parts}
use Rattle.ufs_promise_laws.proofs.Known.{nothing_going}
use Rattle.ufs_promise_laws.proofs.Stamping.{allowed_on, is_going}
use Rattle.ufs_promise_laws.proofs.Stretches.{explained_joined}
use Rattle.ufs_names_commit.specs.Laws.{IsBeside}
use Rattle.ufs_names_commit.proofs.Stops.{commit_err, from_err, own_alone, stop_is}
use Rattle.ufs_base.specs.declared.lack.Lack.TheVariants.{AtEnd}
use Rattle.ufs_layout.specs.declared.geometry.Geometry.{Geometry}
use Rattle.ufs_store.specs.declared.fault.StoreFault.TheVariants as refusal
use Rattle.ufs_names_commit.specs.Fits.{IsLackOfCommit, fit}
use Rattle.ufs_names_commit.proofs.Lacking.{fault_is, lack_is, lacks_commit, unfit_clash}
use Rattle.ufs_names_commit.proofs.commits.commit_log.Goals as goal

pub returns-then-is_empty-clause-ok : goal.returns-then-is_empty-clause-ok
returns-then-is_empty-clause-ok g c visible start history p known same noted table go =
    let is = c.as_slice.ensures ∙ c.records.ensures.records in
    let none : c.args.log.now ≡ [] = nil_from_length c.args.log.now (eqb-true (length c.args.log.now) 0 (ap (λ (xs : List LogRecord). length xs == 0) (sym is) ∙ sym c.is_empty.ensures ∙ c.if-is_empty.true)) in
    c.names_law.ensures.nothing (g.D.Door.store c.args.door.now) start history p known (sym c.geometry-geometry.ensures.is) (noted ∙ ap Some none) table go

pub returns-clause-ok : goal.returns-clause-ok
returns-clause-ok g c visible start history p known same noted table go =
    let mid = g.D.Door.store c.make_ready.new.door in
    let new = g.D.Door.store c.commit_names.new.self in
    let old_form = ap geometry_of_store c.make_ready.ensures.rest ∙ sym c.geometry-geometry.ensures.is in
    let beside : IsBeside c.geometry-geometry.result mid new = record { old_form = old_form; new_form = c.commit_names.ensures.geometry ∙ old_form; unassigned = c.commit_names.ensures.blocks } in
    let is = c.as_slice.ensures ∙ c.records.ensures.records in
    let some : c.args.log.now ≢ [] = λ e.
    let on : (length c.args.log.now == 0) ≡ true = ap (λ (xs : List LogRecord). length xs == 0) e in
    let off : (length c.args.log.now == 0) ≡ false = ap (λ (xs : List LogRecord). length xs == 0) (sym is) ∙ sym c.is_empty.ensures ∙ c.if-is_empty.false in
    let clash = sym on ∙ off in cc in
    c.names_law.ensures.commit mid new start history p known c.args.log.now beside noted table (c.in_ok-commit_names.ensures.ok visible some) (c.in_ok-make_ready.ensures.ok visible start history p known same go)

pub make_ready-requires-clause-stamped : goal.make_ready-requires-clause-stamped
make_ready-requires-clause-stamped g c stamps =
    let told = c.requires.stamped stamps in
    (told.0, told.1, told.4)

pub commit_names-requires-clause-stamped : goal.commit_names-requires-clause-stamped
commit_names-requires-clause-stamped g c stamps going some =
    let old = g.D.Door.store c.args.door.now in
    let mid = g.D.Door.store c.make_ready.new.door in
    let told = c.requires.stamped stamps in
    let p = told.0 in
    let e = told.4 in
    let go = is_going old e.start e.history p c.requires.going e.on_disk in
    stages_more (IsExplainedImage mid.sectors e.start e.history) g.D.Door.allows mid c.args.log.now
    (c.names_law.ensures.may_leave mid e.start e.history p nothing_known c.args.log.now (ap geometry_of_store c.make_ready.ensures.rest ∙ sym c.geometry-geometry.ensures.is) told.2 told.3
    (c.in_ok-make_ready.ensures.ok (g.met.D.Door.sees stamps) e.start e.history p nothing_known told.1 (nothing_going old e.start e.history p go)))
    (allowed_on g.D.Door.allows e.start e.history old.sectors mid.sectors (ap (λ (s : StoreState). s.sectors) c.make_ready.ensures.rest) e.allowed)

pub returns-in_err-commit_names-clause-err : goal.returns-in_err-commit_names-clause-err
returns-in_err-commit_names-clause-err g c visible =
    let old = g.D.Door.store c.args.door.now in
    let mid = g.D.Door.store c.make_ready.new.door in
    let new = g.D.Door.store c.commit_names.new.self in
    let old_form = ap geometry_of_store c.make_ready.ensures.rest ∙ sym c.geometry-geometry.ensures.is in
    let beside : IsBeside c.geometry-geometry.result mid new = record { old_form = old_form; new_form = c.commit_names.ensures.geometry ∙ old_form; unassigned = c.commit_names.ensures.blocks } in
    let going = ap (λ (s : StoreState). s.stop) c.in_ok-make_ready.ensures.passed ∙ c.requires.going in
    let stays : (start : PosixTree) (history : List Entry) (p : Parts) (known : Known) → p.fresh ≡ c.args.fresh.now → p.names.tree.noted ≡ Some c.args.log.now → IsNameTable p.names.tree → IsKeptGoing old start history p known → IsDiskKept new start history p known =
    λ start history p known same noted table go.
    let ready = c.in_ok-make_ready.ensures.ok visible start history p known same go in
    from_err c.commit_names.result _ c.in_err-commit_names.was (commit_err c.commit_names.result c.commit_names.ensures.refused
    (λ fault e. let clash = sym going ∙ (c.commit_names.ensures.stopped fault).0 e in cc)
    (λ fault e. inr (c.names_law.ensures.stop mid new start history p known c.args.log.now beside noted table
    (subst IsSome (sym (stop_is mid.stop new.stop _ going c.commit_names.ensures.stop ∙ ap fault_in e)) refl) (c.commit_names.ensures.device visible fault e) ready))
    (λ w e. inl (c.names_law.ensures.memory mid new start history p known beside (c.commit_names.ensures.memory visible w e) ready))) in
    let p = err_from_is_err_and c.from_residual-in_err-commit_names.result c.from_residual-in_err-commit_names.ensures.1 in
    subst (λ r. OnErr r ((start : PosixTree) (history : List Entry) (p : Parts) (known : Known) → p.fresh ≡ c.args.fresh.now → p.names.tree.noted ≡ Some c.args.log.now → IsNameTable p.names.tree → IsKeptGoing old start history p known → IsDiskKept new start history p known)) (sym p.1) stays

pub returns-in_err-commit_names-clause-refused : goal.returns-in_err-commit_names-clause-refused
returns-in_err-commit_names-clause-refused g c =
    let p = err_from_is_err_and c.from_residual-in_err-commit_names.result c.from_residual-in_err-commit_names.ensures.1 in
    let was = c.in_err-commit_names.was in
    let failed : c.commit_names.result ≡ Err p.0 = cc in
    let going = ap (λ (s : StoreState). s.stop) c.in_ok-make_ready.ensures.passed ∙ c.requires.going in
    subst (λ r. IfErr r (λ fault. IsTrue (is_own fault))) (sym p.1)
    (own_alone p.0 (subst (λ r. IfErr r (λ fault. is_no_space fault ≡ false)) failed c.commit_names.ensures.refused)
    (λ fault e. let clash = sym going ∙ (c.commit_names.ensures.stopped fault).0 (failed ∙ ap Err e) in cc))

pub returns-then-is_empty-clause-moments : goal.returns-then-is_empty-clause-moments
returns-then-is_empty-clause-moments g c visible start history p known same noted table go =
    c.always_law.ensures.rest g.D.Door.keeps (g.D.Door.store c.args.door.now) start history p (sym c.geometry-geometry.ensures.is) (inl go.going)

pub returns-clause-moments : goal.returns-clause-moments
returns-clause-moments g c visible start history p known same noted table go =
    let old = g.D.Door.store c.args.door.now in
    let mid = g.D.Door.store c.make_ready.new.door in
    let new = g.D.Door.store c.commit_names.new.self in
    let form = ap geometry_of_store c.make_ready.ensures.rest ∙ sym c.geometry-geometry.ensures.is in
    let is = c.as_slice.ensures ∙ c.records.ensures.records in
    let some : c.args.log.now ≢ [] = λ e.
    let on : (length c.args.log.now == 0) ≡ true = ap (λ (xs : List LogRecord). length xs == 0) e in
    let off : (length c.args.log.now == 0) ≡ false = ap (λ (xs : List LogRecord). length xs == 0) (sym is) ∙ sym c.is_empty.ensures ∙ c.if-is_empty.false in
    let clash = sym on ∙ off in cc in
    explained_joined g.D.Door.keeps start history old.sectors old.moments mid new.moments (ap (λ (s : StoreState). s.sectors) c.make_ready.ensures.rest)
    (c.make_ready.ensures.moments visible start history p known same go)
    (c.names_law.ensures.moments g.D.Door.keeps mid new.moments start history p known c.args.log.now form noted table (c.commit_names.ensures.crash visible some) (c.in_ok-make_ready.ensures.ok visible start history p known same go))

pub returns-in_err-commit_names-clause-moments : goal.returns-in_err-commit_names-clause-moments
returns-in_err-commit_names-clause-moments g c visible start history p known same noted table go =
    let old = g.D.Door.store c.args.door.now in
    let mid = g.D.Door.store c.make_ready.new.door in
    let new = g.D.Door.store c.commit_names.new.self in
    let form = ap geometry_of_store c.make_ready.ensures.rest ∙ sym c.geometry-geometry.ensures.is in
    let is = c.as_slice.ensures ∙ c.records.ensures.records in
    let some : c.args.log.now ≢ [] = λ e.
    let on : (length c.args.log.now == 0) ≡ true = ap (λ (xs : List LogRecord). length xs == 0) e in
    let off : (length c.args.log.now == 0) ≡ false = ap (λ (xs : List LogRecord). length xs == 0) (sym is) ∙ sym c.is_empty.ensures ∙ c.if-is_empty.false in
    let clash = sym on ∙ off in cc in
    explained_joined g.D.Door.keeps start history old.sectors old.moments mid new.moments (ap (λ (s : StoreState). s.sectors) c.make_ready.ensures.rest)
    (c.make_ready.ensures.moments visible start history p known same go)
    (c.names_law.ensures.moments g.D.Door.keeps mid new.moments start history p known c.args.log.now form noted table (c.commit_names.ensures.crash visible some) (c.in_ok-make_ready.ensures.ok visible start history p known same go))

pub returns-then-not-fits-clause-moments : goal.returns-then-not-fits-clause-moments
returns-then-not-fits-clause-moments g c visible start history p known same noted table go =
    c.always_law.ensures.rest g.D.Door.keeps (g.D.Door.store c.args.door.now) start history p (sym c.geometry-geometry.ensures.is) (inl go.going)

pub returns-in_err-make_ready-clause-moments : goal.returns-in_err-make_ready-clause-moments
returns-in_err-make_ready-clause-moments g c visible start history p known same noted table go = c.make_ready.ensures.moments visible start history p known same go

-- ---- its numbers

pub returns-in_err-make_ready-clause-raised : goal.returns-in_err-make_ready-clause-raised
returns-in_err-make_ready-clause-raised g c = raises_none 1 1 (g.D.Door.store c.args.door.now) (g.D.Door.store c.make_ready.new.door) (ap (λ (s : StoreState). s.superblock) c.make_ready.ensures.rest) (ap (λ (s : StoreState). s.journal) c.make_ready.ensures.rest)

pub returns-in_err-commit_names-clause-raised : goal.returns-in_err-commit_names-clause-raised
returns-in_err-commit_names-clause-raised g c = raises_then 0 0 1 1 (g.D.Door.store c.args.door.now) (g.D.Door.store c.make_ready.new.door) (g.D.Door.store c.commit_names.new.self) (raises_none 0 0 (g.D.Door.store c.args.door.now) (g.D.Door.store c.make_ready.new.door) (ap (λ (s : StoreState). s.superblock) c.make_ready.ensures.rest) (ap (λ (s : StoreState). s.journal) c.make_ready.ensures.rest)) c.commit_names.ensures.raised

pub returns-clause-raised : goal.returns-clause-raised
returns-clause-raised g c = raises_then 0 0 1 1 (g.D.Door.store c.args.door.now) (g.D.Door.store c.make_ready.new.door) (g.D.Door.store c.commit_names.new.self) (raises_none 0 0 (g.D.Door.store c.args.door.now) (g.D.Door.store c.make_ready.new.door) (ap (λ (s : StoreState). s.superblock) c.make_ready.ensures.rest) (ap (λ (s : StoreState). s.journal) c.make_ready.ensures.rest)) c.commit_names.ensures.raised

-- ---- for want of what

pub returns-clause-unfit : goal.returns-clause-unfit
returns-clause-unfit g c some off = absurd (unfit_clash (geometry_of_store (g.D.Door.store c.args.door.now)) c.geometry-geometry.result c.args.log.now c.fits.result c.geometry-geometry.ensures.is c.fits.ensures c.if-not-fits.false off)

pub returns-in_err-commit_names-clause-unfit : goal.returns-in_err-commit_names-clause-unfit
returns-in_err-commit_names-clause-unfit g c some off = absurd (unfit_clash (geometry_of_store (g.D.Door.store c.args.door.now)) c.geometry-geometry.result c.args.log.now c.fits.result c.geometry-geometry.ensures.is c.fits.ensures c.if-not-fits.false off)

pub returns-in_err-make_ready-clause-unfit : goal.returns-in_err-make_ready-clause-unfit
returns-in_err-make_ready-clause-unfit g c some off = absurd (unfit_clash (geometry_of_store (g.D.Door.store c.args.door.now)) c.geometry-geometry.result c.args.log.now c.fits.result c.geometry-geometry.ensures.is c.fits.ensures c.if-not-fits.false off)

pub returns-then-is_empty-clause-unfit : goal.returns-then-is_empty-clause-unfit
returns-then-is_empty-clause-unfit g c some off =
    let is = c.as_slice.ensures ∙ c.records.ensures.records in
    absurd (some (nil_from_length c.args.log.now (eqb-true (length c.args.log.now) 0 (ap (λ (xs : List LogRecord). length xs == 0) (sym is) ∙ sym c.is_empty.ensures ∙ c.if-is_empty.true))))

pub returns-then-not-fits-clause-lack : goal.returns-then-not-fits-clause-lack
returns-then-not-fits-clause-lack g c w is =
    let off = ap (λ (form : Geometry). fit form c.args.log.now) (sym c.geometry-geometry.ensures.is) ∙ sym c.fits.ensures ∙ c.if-not-fits.true in
    subst (IsLackOfCommit (g.D.Door.store c.args.door.now) c.args.log.now) (lack_is _ AtEnd w is) (inr off)

pub returns-in_err-make_ready-clause-lack : goal.returns-in_err-make_ready-clause-lack
returns-in_err-make_ready-clause-lack g c w is =
    let p = err_from_is_err_and c.from_residual.result c.from_residual.ensures.1 in
    let was = c.in_err-make_ready.was in
    let failed : c.make_ready.result ≡ Err p.0 = cc in
    let device = subst (λ r. IfErr r (λ fault. (number : ℕ) × (fault ≡ refusal.Device number))) failed c.make_ready.ensures.refused in
    (let clash = sym device.1 ∙ fault_is _ p.0 (refusal.Lack w) (sym p.1 ∙ is) in absurd cc)

pub returns-in_err-commit_names-clause-lack : goal.returns-in_err-commit_names-clause-lack
returns-in_err-commit_names-clause-lack g c w is =
    let p = err_from_is_err_and c.from_residual-in_err-commit_names.result c.from_residual-in_err-commit_names.ensures.1 in
    let was = c.in_err-commit_names.was in
    let failed : c.commit_names.result ≡ Err p.0 = cc in
    let passed = c.in_ok-make_ready.ensures.passed in
    lacks_commit (g.D.Door.store c.args.door.now) (g.D.Door.store c.make_ready.new.door) c.args.log.now w (ap (λ (s : StoreState). s.journal.number) passed) (ap (λ (s : StoreState). s.superblock.epoch) passed)
    (c.commit_names.ensures.lack w (failed ∙ ap Err (fault_is _ p.0 (refusal.Lack w) (sym p.1 ∙ is))))
