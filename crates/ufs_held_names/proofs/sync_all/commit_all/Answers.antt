use Rattle.std.proofs.Common.{◌≡◌, ◌≤◌, ◌+◌, ◌++◌, ℕ, List, Result, ap, refl, sym, subst, ◌∙◌, arith, length}
use Rattle.std.specs.Prelude.{OnOk, Ok, Err}
use Rattle.std.proofs.lemmas.Result.{on_err_weaker, on_ok_weaker}
use Rattle.ufs_joint.specs.Cells.{NamesCell}
use Rattle.ufs_joint.specs.NamesTurns.{live_files}
use Rattle.ufs_store.specs.Refusals.{fault_in, fault_of}
use Rattle.ufs_store.specs.declared.fault.StoreFault.{StoreFault}
use Rattle.ufs_turns.specs.Lent.{Runs, StopsByFault, TellsStop, TellsWhere}
use Rattle.ufs_turns.specs.Told.{fault_told, told_list}
use Rattle.ufs_turns.proofs.Runs.{runs_more, runs_twice}
use Rattle.ufs_held.proofs.Stopping.{passed_so, stops_twice}
use Rattle.ufs_noted.specs.Noted.{Noted}
use Rattle.ufs_held_names.specs.HeldNames.{AreCommitted, first_names}
use Rattle.ufs_held_names.specs.SyncAll.{AtFile, AtNames, freed_by}
use Rattle.ufs_held_names.proofs.After.{kept_noted}
use Rattle.ufs_held_names.proofs.Tried.{told_twice}
use Rattle.ufs_held_names.proofs.Births.{births_same}
use Rattle.ufs_held_names.proofs.sync_all.commit_all.Goals as goal

in_any_case : {A : Type 0} (r : Result (Unit {0}) StoreFault) → A → OnOk r A
in_any_case (Ok x) a = a
in_any_case (Err e) a = tt

-- ---- where the names' commit passes

pub commit_files-requires-clause-all : goal.commit_files-requires-clause-all
commit_files-requires-clause-all g c =
    let done = c.in-Ok.ensures.ok in
    let y = c.commit_lent.new.noted in
    let v = c.commit_lent.new.right in
    ap (λ (q : NamesCell). q.named) done.is ∙ sym (ap live_files (ap (λ (q : Noted). q.names) (kept_noted y v c.commit_lent.ensures.held) ∙ ap (λ (q : NamesCell). q.value) done.is))

pub returns-in-Ok-clause-bare : goal.returns-in-Ok-clause-bare
returns-in-Ok-clause-bare g c =
    let b = c.commit_lent.ensures.bare in
    let s = c.commit_files.ensures.cells in
    record { files = s.files ∙ b.files; names = s.names ∙ b.names; away = s.store ∙ b.away }

pub returns-in-Ok-clause-beside : goal.returns-in-Ok-clause-beside
returns-in-Ok-clause-beside g c =
    let b = c.commit_lent.ensures.beside in
    let s = c.commit_files.ensures.cells in
    record { clients = s.clients ∙ b.clients; asked = s.asked ∙ b.asked; pools = s.pools ∙ b.pools; seen = (let p = b.seen in let q = s.seen in omega (arith, p, q)) }

pub returns-in-Ok-clause-names : goal.returns-in-Ok-clause-names
returns-in-Ok-clause-names g c =
    in_any_case c.commit_files.result (subst (AreCommitted g.N.Naming.start.is_visible (first_names c.args.noted.now c.args.right.now.names)) (sym c.commit_files.ensures.same) c.in-Ok.ensures.ok)

pub returns-in-Ok-clause-freed : goal.returns-in-Ok-clause-freed
returns-in-Ok-clause-freed g c =
    let m = c.commit_lent.ensures in
    let olds = c.args.files.now in
    on_ok_weaker c.commit_files.result
    (told_twice (g.T.Turns.tells c.args.door.now) (g.T.Turns.tells c.commit_lent.new.door) (g.T.Turns.tells c.commit_files.new.door) (λ had has. has ≡ freed_by (length olds) olds had) m.telling m.free) c.commit_files.ensures.freed

pub returns-in-Ok-clause-short : goal.returns-in-Ok-clause-short
returns-in-Ok-clause-short g c =
    let m = c.commit_lent.ensures in
    let olds = c.args.files.now in
    let done = subst (AreCommitted g.N.Naming.start.is_visible (first_names c.args.noted.now c.args.right.now.names)) (sym c.commit_files.ensures.same) c.in-Ok.ensures.ok in
    on_err_weaker c.commit_files.result
    (λ s. AtFile done s.0 s.1 s.2 (told_twice (g.T.Turns.tells c.args.door.now) (g.T.Turns.tells c.commit_lent.new.door) (g.T.Turns.tells c.commit_files.new.door) (λ had has. has ≡ freed_by s.0 olds had) m.telling m.free s.3))
    c.commit_files.ensures.short

pub returns-in-Ok-clause-faults : goal.returns-in-Ok-clause-faults
returns-in-Ok-clause-faults g c =
    c.commit_files.ensures.faults
    ∙ ap (λ (fs : List ℕ). told_list (fault_told (fault_in c.commit_files.result)) ++ fs)
    (c.commit_lent.ensures.faults ∙ ap (λ (r : Result (Unit {0}) StoreFault). told_list (fault_told (fault_in r)) ++ c.args.guest.now.faults) c.in-Ok.is)

pub returns-in-Ok-clause-telling : goal.returns-in-Ok-clause-telling
returns-in-Ok-clause-telling g c = c.commit_files.ensures.telling ∙ c.commit_lent.ensures.telling

pub returns-in-Ok-clause-halts : goal.returns-in-Ok-clause-halts
returns-in-Ok-clause-halts g c =
    let m = c.commit_lent.ensures in
    let tells = g.T.Turns.tells c.args.door.now in
    let mid = g.T.Turns.tells c.commit_lent.new.door in
    let told = g.T.Turns.tells c.commit_files.new.door in
    stops_twice tells mid told (fault_in c.commit_files.result) m.telling (subst (λ (q : Result (Unit {0}) StoreFault). StopsByFault tells mid (fault_in q)) c.in-Ok.is m.halts) c.commit_files.ensures.halts

pub returns-in-Ok-clause-ran : goal.returns-in-Ok-clause-ran
returns-in-Ok-clause-ran g c =
    let m = c.commit_lent.ensures in
    let n = length c.args.files.now in
    let tells = g.T.Turns.tells c.args.door.now in
    let mid = g.T.Turns.tells c.commit_lent.new.door in
    let told = g.T.Turns.tells c.commit_files.new.door in
    runs_twice tells mid told (fault_in c.commit_files.result) 1 1 n n m.telling (subst (λ (q : Result (Unit {0}) StoreFault). Runs tells mid (fault_in q) 1 1) c.in-Ok.is m.ran) c.commit_files.ensures.ran

pub returns-in-Ok-clause-halted : goal.returns-in-Ok-clause-halted
returns-in-Ok-clause-halted g c = passed_so (Unit {0}) (Unit {0}) (g.T.Turns.tells c.args.door.now) c.commit_lent.result tt c.commit_files.result c.in-Ok.is c.commit_lent.ensures.halted

-- ---- where it fails

pub returns-in-Err-clause-short : goal.returns-in-Err-clause-short
returns-in-Err-clause-short g c = AtNames c.in-Err.ensures.err refl c.commit_lent.ensures.free

pub returns-in-Err-clause-faults : goal.returns-in-Err-clause-faults
returns-in-Err-clause-faults g c = c.commit_lent.ensures.faults ∙ ap (λ (r : Result (Unit {0}) StoreFault). told_list (fault_told (fault_in r)) ++ c.args.guest.now.faults) c.in-Err.is

pub returns-in-Err-clause-stop : goal.returns-in-Err-clause-stop
returns-in-Err-clause-stop g c fault is = c.commit_lent.ensures.stop fault (c.in-Err.is ∙ is)

pub returns-in-Err-clause-stops : goal.returns-in-Err-clause-stops
returns-in-Err-clause-stops g c fault told = c.commit_lent.ensures.stops fault (ap (λ (r : Result (Unit {0}) StoreFault). fault_told (fault_in r)) c.in-Err.is ∙ told)

pub returns-in-Err-clause-halts : goal.returns-in-Err-clause-halts
returns-in-Err-clause-halts g c = subst (λ (q : Result (Unit {0}) StoreFault). StopsByFault (g.T.Turns.tells c.args.door.now) (g.T.Turns.tells c.commit_lent.new.door) (fault_in q)) c.in-Err.is c.commit_lent.ensures.halts

pub returns-in-Err-clause-ran : goal.returns-in-Err-clause-ran
returns-in-Err-clause-ran g c =
    let n = length c.args.files.now in
    let tells = g.T.Turns.tells c.args.door.now in
    let told = g.T.Turns.tells c.commit_lent.new.door in
    let less : 1 ≤ 1 + n = omega arith in
    runs_more tells told (fault_of c.in-Err.fault) 1 1 (1 + n) (1 + n) less less (subst (λ (q : Result (Unit {0}) StoreFault). Runs tells told (fault_in q) 1 1) c.in-Err.is c.commit_lent.ensures.ran)

pub returns-in-Err-clause-halted : goal.returns-in-Err-clause-halted
returns-in-Err-clause-halted g c = subst (λ (q : Result (Unit {0}) StoreFault). TellsStop (g.T.Turns.tells c.args.door.now) q) c.in-Err.is c.commit_lent.ensures.halted

pub returns-in-Ok-clause-births : goal.returns-in-Ok-clause-births
returns-in-Ok-clause-births g c =
    let y = c.commit_lent.new.noted in
    births_same (first_names y c.commit_lent.new.right.names) (first_names y c.commit_files.new.right.names) c.commit_lent.new.reached c.commit_files.ensures.same c.commit_lent.ensures.births

pub returns-in-Err-clause-stopped : goal.returns-in-Err-clause-stopped
returns-in-Err-clause-stopped g c = subst (λ (q : Result (Unit {0}) StoreFault). TellsWhere (g.T.Turns.tells c.commit_lent.new.door) q) c.in-Err.is c.commit_lent.ensures.stopped
