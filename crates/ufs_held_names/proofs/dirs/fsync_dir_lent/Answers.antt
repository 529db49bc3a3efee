use Rattle.std.proofs.Common.{◌≡◌, ◌≤◌, ◌++◌, ℕ, List, Some, true, false, Err, Result, ap, refl, sym, subst, ◌∙◌, arith}
use Rattle.ufs_joint.specs.Cells.{NamesCell}
use Rattle.ufs_model.specs.History.{is_excused}
use Rattle.ufs_model.specs.declared.data.Excuse.{Excuse}
use Rattle.ufs_model.specs.declared.data.Excuse.TheVariants as excuse
use Rattle.ufs_model.specs.declared.data.Reply.{Reply}
use Rattle.ufs_model.specs.declared.data.Reply.TheVariants as reply
use Rattle.ufs_store.specs.Refusals.{fault_in, fault_of}
use Rattle.ufs_store.specs.declared.fault.StoreFault.{StoreFault}
use Rattle.ufs_turns.specs.Lent.{Runs, StopsByFault}
use Rattle.ufs_turns.specs.Told.{fault_told, told_list}
use Rattle.ufs_held.specs.Asking.{IsSyncReply}
use Rattle.ufs_held.proofs.Excusing.{not_done, not_excused, one_excuse, told_alone}
use Rattle.ufs_held.proofs.Stopping.{done_stops, failed_halted, failed_stops, passed_going}
use Rattle.ufs_held_names.specs.Dirs.{IsDone, IsRefused}
use Rattle.ufs_held_names.specs.HeldNames.{AreCommitted, first_names}
use Rattle.ufs_held_names.proofs.Tried.{came_still}
use Rattle.ufs_held_names.proofs.Births.{births_same}
use Rattle.ufs_held_names.proofs.dirs.fsync_dir_lent.Goals as goal

pub commit_lent-requires-clause-bare : goal.commit_lent-requires-clause-bare
commit_lent-requires-clause-bare g c = (let came = c.requires.guest.3 in record { files = came.files; names = came.names; away = came.store })

-- ---- where it passes

pub answer-requires-clause-guest : goal.answer-requires-clause-guest
answer-requires-clause-guest g c =
    let f = c.requires.guest in
    (f.0, f.1, f.2, came_still c.args.ask.client f.0 f.1 f.2 c.args.guest c.commit_lent.new.guest c.commit_lent.ensures.beside c.commit_lent.ensures.bare f.3, f.4)

pub answer-requires-clause-may : goal.answer-requires-clause-may
answer-requires-clause-may g c =
    let done = c.in-Ok.ensures.ok in
    let now = first_names c.commit_lent.new.noted c.commit_lent.new.right.names in
    IsDone refl (λ visible. subst (λ (m : ℕ). m ≤ now.known) (sym (ap (λ (q : NamesCell). q.changed) done.is)) (done.all visible))

pub returns-in-Ok-clause-synced : goal.returns-in-Ok-clause-synced
returns-in-Ok-clause-synced g c =
    let a = c.answer.ensures.answered in
    let m = c.commit_lent.ensures in
    let r = c.answer.result.entry.reply in
    let tells = g.T.Turns.tells c.args.door.now in
    let told = g.T.Turns.tells c.commit_lent.new.door in
    record {
      entry = a.entry;
      replied = subst IsSyncReply (sym a.replied) tt;
      guest = λ part n pool came. a.guest part n pool (came_still c.args.ask.client part n pool c.args.guest c.commit_lent.new.guest m.beside m.bare came);
      names = λ is. subst (AreCommitted g.N.Naming.start.is_visible (first_names c.args.noted.now c.args.right.now.names)) (sym c.answer.ensures.same) c.in-Ok.ensures.ok;
      kept = λ is. absurd (not_excused r a.replied is);
      faults = a.done refl ∙ m.faults ∙ ap (λ (q : Result (Unit {0}) StoreFault). told_list (fault_told (fault_in q)) ++ c.args.guest.faults) c.in-Ok.is;
      stop = λ fault is. absurd (not_done r (excuse.Stopped fault) is a.replied);
      free = m.free;
      telling = m.telling;
      halts = done_stops tells told 1 1 r a.replied (subst (λ (q : Result (Unit {0}) StoreFault). StopsByFault tells told (fault_in q)) c.in-Ok.is m.halts) (subst (λ (q : Result (Unit {0}) StoreFault). Runs tells told (fault_in q) 1 1) c.in-Ok.is m.ran);
      halted = passed_going (Unit {0}) tells c.commit_lent.result tt r c.in-Ok.is m.halted a.replied;
      later = let p = m.beside.seen in let q = a.later in omega (arith, p, q);
      seen = a.seen;
    }

-- ---- where it fails

pub answer-requires-in-Err-clause-guest : goal.answer-requires-in-Err-clause-guest
answer-requires-in-Err-clause-guest g c =
    let f = c.requires.guest in
    (f.0, f.1, f.2, came_still c.args.ask.client f.0 f.1 f.2 c.args.guest c.commit_lent.new.guest c.commit_lent.ensures.beside c.commit_lent.ensures.bare f.3, f.4)

pub answer-requires-in-Err-clause-may : goal.answer-requires-in-Err-clause-may
answer-requires-in-Err-clause-may g c =
    let m = c.commit_lent.ensures in
    let e = c.excuse_of-cause.ensures in
    IsRefused c.excuse_of-cause.result refl e.kind c.args.guest.faults
    (m.faults ∙ ap (λ (q : Result (Unit {0}) StoreFault). told_list (fault_told (fault_in q)) ++ c.args.guest.faults) c.in-Err.is ∙ ap (λ (fs : List ℕ). fs ++ c.args.guest.faults) e.used)
    (λ fault is. m.stop fault (c.in-Err.is ∙ ap Err (e.stopped fault is)))
    (λ fault is. m.stops fault (ap (λ (q : Result (Unit {0}) StoreFault). fault_told (fault_in q)) c.in-Err.is ∙ told_alone (fault_told (fault_of c.in-Err.fault)) c.excuse_of-cause.result fault e.used is))

pub returns-in-Err-clause-synced : goal.returns-in-Err-clause-synced
returns-in-Err-clause-synced g c =
    let a = c.answer-in-Err.ensures.answered in
    let m = c.commit_lent.ensures in
    let e = c.excuse_of-cause.ensures in
    let cause = c.excuse_of-cause.result in
    let r = c.answer-in-Err.result.entry.reply in
    let tells = g.T.Turns.tells c.args.door.now in
    let told = g.T.Turns.tells c.commit_lent.new.door in
    record {
      entry = a.entry;
      replied = subst IsSyncReply (sym a.replied) e.kind;
      guest = λ part n pool came. a.guest part n pool (came_still c.args.ask.client part n pool c.args.guest c.commit_lent.new.guest m.beside m.bare came);
      names = λ is. absurd (not_done r cause a.replied is);
      kept = λ is. c.answer-in-Err.ensures.same ∙ c.in-Err.ensures.err;
      faults = a.used cause c.args.guest.faults refl
          (m.faults ∙ ap (λ (q : Result (Unit {0}) StoreFault). told_list (fault_told (fault_in q)) ++ c.args.guest.faults) c.in-Err.is ∙ ap (λ (fs : List ℕ). fs ++ c.args.guest.faults) e.used);
      stop = λ fault is. a.stop fault (m.stop fault (c.in-Err.is ∙ ap Err (e.stopped fault (one_excuse r cause (excuse.Stopped fault) a.replied is))));
      free = m.free;
      telling = m.telling;
      halts = failed_stops tells told 1 1 r cause (fault_of c.in-Err.fault) a.replied e.used (subst (λ (q : Result (Unit {0}) StoreFault). StopsByFault tells told (fault_in q)) c.in-Err.is m.halts) (subst (λ (q : Result (Unit {0}) StoreFault). Runs tells told (fault_in q) 1 1) c.in-Err.is m.ran);
      halted = failed_halted (Unit {0}) tells told c.commit_lent.result c.in-Err.fault cause r c.in-Err.is m.halted m.stopped m.telling m.halts e.halted e.stopped a.replied;
      later = let p = m.beside.seen in let q = a.later in omega (arith, p, q);
      seen = a.seen;
    }

pub returns-in-Ok-clause-births : goal.returns-in-Ok-clause-births
returns-in-Ok-clause-births g c =
    let y = c.commit_lent.new.noted in
    births_same (first_names y c.commit_lent.new.right.names) (first_names y c.answer.new.right.names) c.commit_lent.new.reached c.answer.ensures.same c.commit_lent.ensures.births

pub returns-in-Err-clause-births : goal.returns-in-Err-clause-births
returns-in-Err-clause-births g c =
    let y = c.commit_lent.new.noted in
    births_same (first_names y c.commit_lent.new.right.names) (first_names y c.answer-in-Err.new.right.names) c.commit_lent.new.reached c.answer-in-Err.ensures.same c.commit_lent.ensures.births
