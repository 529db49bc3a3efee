use Rattle.std.proofs.Common.{◌≡◌, ◌≤◌, ◌+◌, ◌++◌, ℕ, List, true, false, Err, Result, ap, refl, sym, subst, ◌∙◌, arith, length}
use Rattle.ufs_joint.specs.Cells.{FileCell, NamesCell}
use Rattle.ufs_model.specs.History.{is_excused}
use Rattle.ufs_model.specs.declared.data.Excuse.{Excuse}
use Rattle.ufs_model.specs.declared.data.Excuse.TheVariants as excuse
use Rattle.ufs_model.specs.declared.data.Reply.{Reply}
use Rattle.ufs_model.specs.declared.data.Reply.TheVariants as reply
use Rattle.ufs_store.specs.Refusals.{fault_in, fault_of}
use Rattle.ufs_store.specs.declared.fault.StoreFault.{StoreFault}
use Rattle.ufs_turns.specs.Lent.{Runs, StopsByFault}
use Rattle.ufs_turns.specs.Told.{fault_told, told_list}
use Rattle.ufs_held.specs.Asking.{IsSyncReply}
use Rattle.ufs_held.proofs.Excusing.{not_done, not_excused, one_excuse, told_alone}
use Rattle.ufs_held.proofs.Stopping.{done_stops, failed_halted, failed_stops, passed_going}
use Rattle.ufs_noted.specs.Noted.{Noted}
use Rattle.ufs_held_names.specs.HeldNames.{AreCommitted, first_names}
use Rattle.ufs_held_names.specs.SyncAll.{AllDone, AllRefused, AreAllLive, AreSynced, StopsShort}
use Rattle.ufs_held_names.proofs.After.{kept_noted}
use Rattle.ufs_held_names.proofs.SyncedAll.{all_known, same_counts, short_counts, short_live, synced_live}
use Rattle.ufs_held_names.proofs.Tried.{came_still}
use Rattle.ufs_held_names.proofs.Births.{births_same}
use Rattle.ufs_held_names.proofs.sync_all.sync_lent.Goals as goal

pub commit_all-requires-clause-bare : goal.commit_all-requires-clause-bare
commit_all-requires-clause-bare g c = (let came = c.requires.guest.3 in record { files = came.files; names = came.names; away = came.store })

-- ---- where all passes

pub answer_all-requires-clause-guest : goal.answer_all-requires-clause-guest
answer_all-requires-clause-guest g c =
    let f = c.requires.guest in
    let olds = c.args.files.now in
    let nows = c.commit_all.new.files in
    let none = same_counts g.N.Naming.start.is_visible olds nows (length olds) c.in-Ok.ensures.files f.1 ∙ f.5 in
    (f.0, f.1, f.2, came_still c.args.ask.client f.0 f.1 f.2 c.args.guest c.commit_all.new.guest c.commit_all.ensures.beside c.commit_all.ensures.bare f.3, f.4, none)

pub answer_all-requires-clause-all : goal.answer_all-requires-clause-all
answer_all-requires-clause-all g c =
    let x = c.args.noted.now in
    let y = c.commit_all.new.noted in
    let own = c.args.right.now in
    let v = c.commit_all.new.right in
    let olds = c.args.files.now in
    let nows = c.commit_all.new.files in
    subst (λ (q : Noted). AreAllLive q.names nows) (sym (kept_noted y v c.commit_all.ensures.held))
    (synced_live g.N.Naming.start.is_visible (first_names x own.names) (first_names y v.names) olds nows (length olds) c.in-Ok.ensures.names c.in-Ok.ensures.files (subst (λ (q : Noted). AreAllLive q.names olds) (kept_noted x own c.requires.held) c.requires.all))

pub answer_all-requires-clause-may : goal.answer_all-requires-clause-may
answer_all-requires-clause-may g c =
    let done = c.in-Ok.ensures.names in
    let now = first_names c.commit_all.new.noted c.commit_all.new.right.names in
    let olds = c.args.files.now in
    AllDone refl (λ visible. subst (λ (m : ℕ). m ≤ now.known) (sym (ap (λ (q : NamesCell). q.changed) done.is)) (done.all visible))
    (λ d has visible. all_known g.N.Naming.start.is_visible olds c.commit_all.new.files (length olds) (omega arith) c.in-Ok.ensures.files d has visible)

pub returns-in-Ok-clause-synced : goal.returns-in-Ok-clause-synced
returns-in-Ok-clause-synced g c =
    let a = c.answer_all.ensures.answered in
    let m = c.commit_all.ensures in
    let r = c.answer_all.result.entry.reply in
    let visible = g.N.Naming.start.is_visible in
    let tells = g.T.Turns.tells c.args.door.now in
    let told = g.T.Turns.tells c.commit_all.new.door in
    record {
      entry = a.entry;
      replied = subst IsSyncReply (sym a.replied) tt;
      guest = λ part n pool came. a.guest part n pool (came_still c.args.ask.client part n pool c.args.guest c.commit_all.new.guest m.beside m.bare came);
      names = λ is. subst (AreCommitted visible (first_names c.args.noted.now c.args.right.now.names)) (sym c.answer_all.ensures.same) c.in-Ok.ensures.names;
      files = λ is. subst (λ (cs : List FileCell). AreSynced visible c.args.files.now cs (length c.args.files.now)) (sym c.answer_all.ensures.files) c.in-Ok.ensures.files;
      freed = λ is. c.in-Ok.ensures.freed;
      short = λ is. absurd (not_excused r a.replied is);
      faults = a.done refl ∙ m.faults ∙ ap (λ (q : Result (Unit {0}) StoreFault). told_list (fault_told (fault_in q)) ++ c.args.guest.faults) c.in-Ok.is;
      stop = λ fault is. absurd (not_done r (excuse.Stopped fault) is a.replied);
      telling = m.telling;
      halts = done_stops tells told (1 + length c.args.files.now) (1 + length c.args.files.now) r a.replied (subst (λ (q : Result (Unit {0}) StoreFault). StopsByFault tells told (fault_in q)) c.in-Ok.is m.halts) (subst (λ (q : Result (Unit {0}) StoreFault). Runs tells told (fault_in q) (1 + length c.args.files.now) (1 + length c.args.files.now)) c.in-Ok.is m.ran);
      halted = passed_going (Unit {0}) tells c.commit_all.result tt r c.in-Ok.is m.halted a.replied;
      later = let p = m.beside.seen in let q = a.later in omega (arith, p, q);
      seen = a.seen;
    }

-- ---- where one fails

pub answer_all-requires-in-Err-clause-guest : goal.answer_all-requires-in-Err-clause-guest
answer_all-requires-in-Err-clause-guest g c =
    let f = c.requires.guest in
    let x = c.args.noted.now in
    let y = c.commit_all.new.noted in
    let none = short_counts g.N.Naming.start.is_visible (first_names x c.args.right.now.names) (first_names y c.commit_all.new.right.names) c.args.files.now c.commit_all.new.files (g.T.Turns.tells c.args.door.now) (g.T.Turns.tells c.commit_all.new.door) c.in-Err.ensures.short f.1 ∙ f.5 in
    (f.0, f.1, f.2, came_still c.args.ask.client f.0 f.1 f.2 c.args.guest c.commit_all.new.guest c.commit_all.ensures.beside c.commit_all.ensures.bare f.3, f.4, none)

pub answer_all-requires-in-Err-clause-all : goal.answer_all-requires-in-Err-clause-all
answer_all-requires-in-Err-clause-all g c =
    let x = c.args.noted.now in
    let y = c.commit_all.new.noted in
    let own = c.args.right.now in
    let v = c.commit_all.new.right in
    let olds = c.args.files.now in
    let nows = c.commit_all.new.files in
    subst (λ (q : Noted). AreAllLive q.names nows) (sym (kept_noted y v c.commit_all.ensures.held))
    (short_live g.N.Naming.start.is_visible (first_names x own.names) (first_names y v.names) olds nows (g.T.Turns.tells c.args.door.now) (g.T.Turns.tells c.commit_all.new.door) c.in-Err.ensures.short (subst (λ (q : Noted). AreAllLive q.names olds) (kept_noted x own c.requires.held) c.requires.all))

pub answer_all-requires-in-Err-clause-may : goal.answer_all-requires-in-Err-clause-may
answer_all-requires-in-Err-clause-may g c =
    let m = c.commit_all.ensures in
    let e = c.excuse_of-cause.ensures in
    AllRefused c.excuse_of-cause.result refl e.kind c.args.guest.faults
    (m.faults ∙ ap (λ (q : Result (Unit {0}) StoreFault). told_list (fault_told (fault_in q)) ++ c.args.guest.faults) c.in-Err.is ∙ ap (λ (fs : List ℕ). fs ++ c.args.guest.faults) e.used)
    (λ fault is. m.stop fault (c.in-Err.is ∙ ap Err (e.stopped fault is)))
    (λ fault is. m.stops fault (ap (λ (q : Result (Unit {0}) StoreFault). fault_told (fault_in q)) c.in-Err.is ∙ told_alone (fault_told (fault_of c.in-Err.fault)) c.excuse_of-cause.result fault e.used is))

pub returns-in-Err-clause-synced : goal.returns-in-Err-clause-synced
returns-in-Err-clause-synced g c =
    let a = c.answer_all-in-Err.ensures.answered in
    let m = c.commit_all.ensures in
    let e = c.excuse_of-cause.ensures in
    let cause = c.excuse_of-cause.result in
    let r = c.answer_all-in-Err.result.entry.reply in
    let visible = g.N.Naming.start.is_visible in
    let tells = g.T.Turns.tells c.args.door.now in
    let told = g.T.Turns.tells c.commit_all.new.door in
    record {
      entry = a.entry;
      replied = subst IsSyncReply (sym a.replied) e.kind;
      guest = λ part n pool came. a.guest part n pool (came_still c.args.ask.client part n pool c.args.guest c.commit_all.new.guest m.beside m.bare came);
      names = λ is. absurd (not_done r cause a.replied is);
      files = λ is. absurd (not_done r cause a.replied is);
      freed = λ is. absurd (not_done r cause a.replied is);
      short = λ is. subst (λ (q : NamesCell × List FileCell). StopsShort visible (first_names c.args.noted.now c.args.right.now.names) q.0 c.args.files.now q.1 (g.T.Turns.tells c.args.door.now) (g.T.Turns.tells c.commit_all.new.door))
          (λ i. (sym c.answer_all-in-Err.ensures.same i, sym c.answer_all-in-Err.ensures.files i)) c.in-Err.ensures.short;
      faults = a.used cause c.args.guest.faults refl
          (m.faults ∙ ap (λ (q : Result (Unit {0}) StoreFault). told_list (fault_told (fault_in q)) ++ c.args.guest.faults) c.in-Err.is ∙ ap (λ (fs : List ℕ). fs ++ c.args.guest.faults) e.used);
      stop = λ fault is. a.stop fault (m.stop fault (c.in-Err.is ∙ ap Err (e.stopped fault (one_excuse r cause (excuse.Stopped fault) a.replied is))));
      telling = m.telling;
      halts = failed_stops tells told (1 + length c.args.files.now) (1 + length c.args.files.now) r cause (fault_of c.in-Err.fault) a.replied e.used (subst (λ (q : Result (Unit {0}) StoreFault). StopsByFault tells told (fault_in q)) c.in-Err.is m.halts) (subst (λ (q : Result (Unit {0}) StoreFault). Runs tells told (fault_in q) (1 + length c.args.files.now) (1 + length c.args.files.now)) c.in-Err.is m.ran);
      halted = failed_halted (Unit {0}) tells told c.commit_all.result c.in-Err.fault cause r c.in-Err.is m.halted m.stopped m.telling m.halts e.halted e.stopped a.replied;
      later = let p = m.beside.seen in let q = a.later in omega (arith, p, q);
      seen = a.seen;
    }

pub returns-in-Ok-clause-births : goal.returns-in-Ok-clause-births
returns-in-Ok-clause-births g c =
    let y = c.commit_all.new.noted in
    births_same (first_names y c.commit_all.new.right.names) (first_names y c.answer_all.new.right.names) c.commit_all.new.reached c.answer_all.ensures.same c.commit_all.ensures.births

pub returns-in-Err-clause-births : goal.returns-in-Err-clause-births
returns-in-Err-clause-births g c =
    let y = c.commit_all.new.noted in
    births_same (first_names y c.commit_all.new.right.names) (first_names y c.answer_all-in-Err.new.right.names) c.commit_all.new.reached c.answer_all-in-Err.ensures.same c.commit_all.ensures.births
