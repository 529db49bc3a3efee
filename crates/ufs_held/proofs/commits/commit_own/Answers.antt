use Rattle.std.proofs.Common.{◌≡◌, ◌≤◌, ◌++◌, ℕ, Err, Ok, Result, Option, Some, None, ap, sym, subst, ◌∙◌}
use Rattle.std.proofs.lemmas.List.{append-nil}
use Rattle.ufs_file_commits.specs.State.{state_of}
use Rattle.ufs_joint.specs.Cells.{FileCell, View}
use Rattle.ufs_store.specs.Refusals.{fault_in, fault_of}
use Rattle.ufs_store.specs.declared.fault.StoreFault.{StoreFault}
use Rattle.ufs_store.specs.declared.fault.StoreFault.TheVariants as refusal
use Rattle.ufs_turns.specs.Lent.{Runs, StopsByFault, TellsStop}
use Rattle.ufs_turns.specs.Told.{fault_told, told_list}
use Rattle.ufs_held.specs.Held.{first_cell}
use Rattle.ufs_held.proofs.After.{failed_first, first_held, held_failed, held_synced, kept_value, lends}
use Rattle.ufs_held.proofs.Stopping.{failed_where, passed_where}
use Rattle.ufs_held.proofs.commits.commit_own.Goals as goal

-- ---- a stop that is told

abbrev fault_of_unit : StoreFault → Result (Unit {0}) StoreFault → StoreFault
fault_of_unit f (Ok n) = f
fault_of_unit f (Err e) = e

abbrev fault_or : StoreFault → Result ℕ StoreFault → StoreFault
fault_or f (Ok n) = f
fault_or f (Err e) = e

stop_when_ok : (o : Option View) (r : Result ℕ StoreFault) (n : ℕ) → r ≡ Ok n → TellsStop o r → TellsStop {A = Unit {0}} o (Ok tt)
stop_when_ok None r n is tells = tt
stop_when_ok (Some v) r n is tells = λ fault stopped. absurd (let clash : Ok n ≡ Err (refusal.Stopped fault) = sym is ∙ tells fault stopped in cc)

stop_when_err : (o : Option View) (r : Result ℕ StoreFault) (f : StoreFault) → r ≡ Err f → TellsStop o r → TellsStop {A = Unit {0}} o (Err f)
stop_when_err None r f is tells = tt
stop_when_err (Some v) r f is tells = λ fault stopped. ap (λ (q : Result ℕ StoreFault). Err (fault_or f q)) (sym is ∙ tells fault stopped)

pub sync_file-requires : goal.sync_file-requires
sync_file-requires g c =
    let held = c.requires.held in
    let x = state_of c.args.file.now c.args.commits.now in
    let own = c.args.right.now in
    record { lent = (x.file.file, held.cell, lends g.N.Naming.start.is_visible own own x x held, held.value, ap (λ (q : FileCell). q.born) (sym (first_held x own held)) ∙ c.requires.born) }

-- ---- where it passes

pub returns-in-Ok-clause-held : goal.returns-in-Ok-clause-held
returns-in-Ok-clause-held g c =
    let held = c.requires.held in
    let x = state_of c.args.file.now c.args.commits.now in
    let y = state_of c.sync_file.new.file c.sync_file.new.commits in
    let own = c.args.right.now in
    let synced = c.sync_file.new.hand in
    let visible = g.N.Naming.start.is_visible in
    let done = c.in-Ok.ensures.ok x.file.file held.cell (lends visible own synced x y held) in
    held_synced visible own synced x y held c.sync_file.ensures.beside c.sync_file.ensures.away done

pub returns-in-Ok-clause-known : goal.returns-in-Ok-clause-known
returns-in-Ok-clause-known g c = λ seen.
    let held = c.requires.held in
    let x = state_of c.args.file.now c.args.commits.now in
    let y = state_of c.sync_file.new.file c.sync_file.new.commits in
    let own = c.args.right.now in
    let synced = c.sync_file.new.hand in
    let visible = g.N.Naming.start.is_visible in
    let done = c.in-Ok.ensures.ok x.file.file held.cell (lends visible own synced x y held) in
    let then = held_synced visible own synced x y held c.sync_file.ensures.beside c.sync_file.ensures.away done in
    subst (λ (q : FileCell). q.changed ≤ q.known) (sym (first_held y synced then)) (done.all seen)

pub returns-in-Ok-clause-cell : goal.returns-in-Ok-clause-cell
returns-in-Ok-clause-cell g c =
    let held = c.requires.held in
    let x = state_of c.args.file.now c.args.commits.now in
    let y = state_of c.sync_file.new.file c.sync_file.new.commits in
    let own = c.args.right.now in
    let synced = c.sync_file.new.hand in
    let visible = g.N.Naming.start.is_visible in
    let done = c.in-Ok.ensures.ok x.file.file held.cell (lends visible own synced x y held) in
    let then = held_synced visible own synced x y held c.sync_file.ensures.beside c.sync_file.ensures.away done in
    let first : first_cell y synced.files ≡ record held.cell { value = y; known = done.known } = first_held y synced then in
    first ∙ (λ i. record ((sym (first_held x own held)) i) { value = y; known = (sym (ap (λ (q : FileCell). q.known) first)) i })

pub returns-in-Ok-clause-faults : goal.returns-in-Ok-clause-faults
returns-in-Ok-clause-faults g c = c.sync_file.ensures.faults ∙ (λ i. told_list (fault_told (fault_in (c.in-Ok.is i))) ++ c.requires.calm i)

pub returns-in-Ok-clause-halts : goal.returns-in-Ok-clause-halts
returns-in-Ok-clause-halts g c = subst (λ (r : Result ℕ StoreFault). StopsByFault (g.T.Turns.tells c.args.door.now) (g.T.Turns.tells c.sync_file.new.self) (fault_in r)) c.in-Ok.is c.sync_file.ensures.halts

pub returns-in-Ok-clause-ran : goal.returns-in-Ok-clause-ran
returns-in-Ok-clause-ran g c = subst (λ (r : Result ℕ StoreFault). Runs (g.T.Turns.tells c.args.door.now) (g.T.Turns.tells c.sync_file.new.self) (fault_in r) 1 1) c.in-Ok.is c.sync_file.ensures.ran

pub returns-in-Ok-clause-halted : goal.returns-in-Ok-clause-halted
returns-in-Ok-clause-halted g c = stop_when_ok (g.T.Turns.tells c.args.door.now) c.sync_file.result _ c.in-Ok.is c.sync_file.ensures.halted

-- ---- where it fails

pub returns-in-Err-clause-held : goal.returns-in-Err-clause-held
returns-in-Err-clause-held g c =
    let held = c.requires.held in
    let x = state_of c.args.file.now c.args.commits.now in
    let y = state_of c.sync_file.new.file c.sync_file.new.commits in
    let own = c.args.right.now in
    let synced = c.sync_file.new.hand in
    let visible = g.N.Naming.start.is_visible in
    let still = c.in-Err.ensures.err x.file.file held.cell (lends visible own synced x y held) held.value in
    held_failed visible own synced x y held c.sync_file.ensures.beside c.sync_file.ensures.away still c.in-Err.ensures.kept

pub returns-in-Err-clause-kept : goal.returns-in-Err-clause-kept
returns-in-Err-clause-kept g c =
    let held = c.requires.held in
    let x = state_of c.args.file.now c.args.commits.now in
    let y = state_of c.sync_file.new.file c.sync_file.new.commits in
    let own = c.args.right.now in
    let synced = c.sync_file.new.hand in
    let visible = g.N.Naming.start.is_visible in
    failed_first visible own synced x y held c.sync_file.ensures.beside c.sync_file.ensures.away (c.in-Err.ensures.err x.file.file held.cell (lends visible own synced x y held) held.value)

pub returns-in-Err-clause-cell : goal.returns-in-Err-clause-cell
returns-in-Err-clause-cell g c =
    let held = c.requires.held in
    let x = state_of c.args.file.now c.args.commits.now in
    let y = state_of c.sync_file.new.file c.sync_file.new.commits in
    let own = c.args.right.now in
    let synced = c.sync_file.new.hand in
    let visible = g.N.Naming.start.is_visible in
    let first : first_cell y synced.files ≡ first_cell x own.files =
    failed_first visible own synced x y held c.sync_file.ensures.beside c.sync_file.ensures.away (c.in-Err.ensures.err x.file.file held.cell (lends visible own synced x y held) held.value) in
    first ∙ (λ i. record (first_cell x own.files) { value = (sym (kept_value x own held) ∙ sym c.in-Err.ensures.kept) i; known = (sym (ap (λ (q : FileCell). q.known) first)) i })

pub returns-in-Err-clause-faults : goal.returns-in-Err-clause-faults
returns-in-Err-clause-faults g c = c.sync_file.ensures.faults ∙ (λ i. told_list (fault_told (fault_in (c.in-Err.is i))) ++ c.requires.calm i) ∙ append-nil (told_list (fault_told (fault_of c.in-Err.fault)))

pub returns-in-Err-clause-stop : goal.returns-in-Err-clause-stop
returns-in-Err-clause-stop g c fault is = c.sync_file.ensures.stop fault (c.in-Err.is ∙ ap (λ (r : Result (Unit {0}) StoreFault). Err (fault_of_unit c.in-Err.fault r)) is)

pub returns-in-Err-clause-stops : goal.returns-in-Err-clause-stops
returns-in-Err-clause-stops g c fault told = c.sync_file.ensures.stops fault (ap (λ (r : Result ℕ StoreFault). fault_told (fault_in r)) c.in-Err.is ∙ told)

pub returns-in-Err-clause-halts : goal.returns-in-Err-clause-halts
returns-in-Err-clause-halts g c = subst (λ (r : Result ℕ StoreFault). StopsByFault (g.T.Turns.tells c.args.door.now) (g.T.Turns.tells c.sync_file.new.self) (fault_in r)) c.in-Err.is c.sync_file.ensures.halts

pub returns-in-Err-clause-ran : goal.returns-in-Err-clause-ran
returns-in-Err-clause-ran g c = subst (λ (r : Result ℕ StoreFault). Runs (g.T.Turns.tells c.args.door.now) (g.T.Turns.tells c.sync_file.new.self) (fault_in r) 1 1) c.in-Err.is c.sync_file.ensures.ran

pub returns-in-Err-clause-halted : goal.returns-in-Err-clause-halted
returns-in-Err-clause-halted g c = stop_when_err (g.T.Turns.tells c.args.door.now) c.sync_file.result c.in-Err.fault c.in-Err.is c.sync_file.ensures.halted

pub returns-in-Ok-clause-stopped : goal.returns-in-Ok-clause-stopped
returns-in-Ok-clause-stopped g c = passed_where (Unit {0}) (g.T.Turns.tells c.sync_file.new.self) tt

pub returns-in-Err-clause-stopped : goal.returns-in-Err-clause-stopped
returns-in-Err-clause-stopped g c = failed_where ℕ (Unit {0}) (g.T.Turns.tells c.sync_file.new.self) c.sync_file.result c.in-Err.fault c.in-Err.is c.sync_file.ensures.stopped
