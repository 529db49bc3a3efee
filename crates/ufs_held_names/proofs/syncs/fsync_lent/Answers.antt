use Rattle.std.proofs.Common.{◌≡◌, ◌++◌, ◌⊎◌, inl, inr, ℕ, Bool, List, Some, true, false, Err, Result, Option, ap, sym, subst, ◌∙◌, arith}
use Rattle.std.specs.FinSet as set
use Rattle.ufs_bitmap.specs.Blocks.{BlockSet}
use Rattle.ufs_bitmap.specs.Taking.{set_of}
use Rattle.ufs_joint.specs.Cells.{NamesCell, View}
use Rattle.ufs_joint.specs.NamesTurns.{live_files}
use Rattle.ufs_model.specs.History.{is_excused}
use Rattle.ufs_model.specs.declared.data.Excuse.{Excuse}
use Rattle.ufs_model.specs.declared.data.Excuse.TheVariants as excuse
use Rattle.ufs_model.specs.declared.data.Reply.{Reply}
use Rattle.ufs_model.specs.declared.data.Reply.TheVariants as reply
use Rattle.ufs_store.specs.Refusals.{fault_in, fault_of}
use Rattle.ufs_store.specs.declared.fault.StoreFault.{StoreFault}
use Rattle.ufs_turns.specs.Lent.{Runs, StopsByFault}
use Rattle.ufs_turns.proofs.Runs.{runs_more}
use Rattle.ufs_turns.specs.Told.{fault_told, told_list}
use Rattle.ufs_held.specs.Asking.{IsGuest, IsSyncReply}
use Rattle.ufs_held.proofs.Excusing.{not_done, one_excuse, told_alone}
use Rattle.ufs_held.proofs.Stopping.{failed_halted, failed_stops, passed_then, reply_twice}
use Rattle.ufs_noted.specs.Noted.{Noted}
use Rattle.ufs_held_names.specs.HeldNames.{AreCommitted, first_names}
use Rattle.ufs_held_names.proofs.After.{kept_noted}
use Rattle.ufs_held_names.proofs.Tried.{came_still, told_twice}
use Rattle.ufs_held_names.proofs.Births.{births_same}
use Rattle.ufs_held_names.proofs.syncs.fsync_lent.Goals as goal

-- ---- the commit of the names

pub commit_lent-requires-clause-bare : goal.commit_lent-requires-clause-bare
commit_lent-requires-clause-bare g c = (let came = c.requires.guest.3 in record { files = came.files; names = came.names; away = came.store })

-- ---- where it passes

pub sync_born-requires-clause-all : goal.sync_born-requires-clause-all
sync_born-requires-clause-all g c =
    let done = c.in-Ok.ensures.ok in
    let y = c.commit_lent.new.noted in
    let v = c.commit_lent.new.right in
    ap (λ (q : NamesCell). q.named) done.is ∙ sym (ap live_files (ap (λ (q : Noted). q.names) (kept_noted y v c.commit_lent.ensures.held) ∙ ap (λ (q : NamesCell). q.value) done.is))

pub sync_born-requires-clause-guest : goal.sync_born-requires-clause-guest
sync_born-requires-clause-guest g c =
    let f = c.requires.guest in
    (f.0, f.1, f.2, came_still c.args.ask.client f.0 f.1 f.2 c.args.guest c.commit_lent.new.guest c.commit_lent.ensures.beside c.commit_lent.ensures.bare f.3, f.4, f.5)

pub returns-in-Ok-clause-synced : goal.returns-in-Ok-clause-synced
returns-in-Ok-clause-synced g c =
    let t = c.sync_born.ensures.tried in
    let m = c.commit_lent.ensures in
    let done = subst (AreCommitted g.N.Naming.start.is_visible (first_names c.args.noted.now c.args.right.now.names)) (sym c.sync_born.ensures.same) c.in-Ok.ensures.ok in
    let tells = g.T.Turns.tells c.args.door.now in
    let mid = g.T.Turns.tells c.commit_lent.new.door in
    let told = g.T.Turns.tells c.sync_born.new.door in
    record {
      entry = t.entry;
      replied = t.replied;
      desc = t.desc;
      guest = λ part n pool came off. t.guest part n pool (came_still c.args.ask.client part n pool c.args.guest c.commit_lent.new.guest m.beside m.bare came) off;
      names = λ is. done;
      committed = t.committed;
      known = t.known;
      born = λ is. t.born;
      rest = t.rest;
      short = λ is. inr (done, t.kept is ∙ ap (λ (b : Bool). record c.args.file { born = b }) t.born);
      faults = t.faults ∙ m.faults ∙ ap (λ (r : Result (Unit {0}) StoreFault). told_list (fault_told (fault_in r)) ++ c.args.guest.faults) c.in-Ok.is;
      stop = t.stop;
      freed = λ is. told_twice (g.T.Turns.tells c.args.door.now) (g.T.Turns.tells c.commit_lent.new.door) (g.T.Turns.tells c.sync_born.new.door) (λ had has. has ≡ set.union had (set_of c.args.file.value.dropped)) m.telling m.free (t.freed is);
      unfreed = λ is. told_twice (g.T.Turns.tells c.args.door.now) (g.T.Turns.tells c.commit_lent.new.door) (g.T.Turns.tells c.sync_born.new.door) (λ had has. has ≡ had) m.telling m.free (t.unfreed is);
      telling = t.telling ∙ m.telling;
      halts = reply_twice tells mid told 1 1 1 1 c.sync_born.result.entry.reply m.telling (subst (λ (q : Result (Unit {0}) StoreFault). StopsByFault tells mid (fault_in q)) c.in-Ok.is m.halts) (subst (λ (q : Result (Unit {0}) StoreFault). Runs tells mid (fault_in q) 1 1) c.in-Ok.is m.ran) t.halts;
      halted = passed_then (Unit {0}) tells mid c.commit_lent.result tt c.sync_born.result.entry.reply c.in-Ok.is m.halted m.telling (subst (λ (q : Result (Unit {0}) StoreFault). StopsByFault tells mid (fault_in q)) c.in-Ok.is m.halts) t.halted;
      later = let a = m.beside.seen in let b = t.later in omega (arith, a, b);
      seen = t.seen;
    }

-- ---- where it fails

pub excuse_file-requires-clause-guest : goal.excuse_file-requires-clause-guest
excuse_file-requires-clause-guest g c =
    let f = c.requires.guest in
    (f.0, f.1, f.2, came_still c.args.ask.client f.0 f.1 f.2 c.args.guest c.commit_lent.new.guest c.commit_lent.ensures.beside c.commit_lent.ensures.bare f.3, f.4, f.5)

pub excuse_file-requires-clause-told : goal.excuse_file-requires-clause-told
excuse_file-requires-clause-told g c = (
  c.args.guest.faults,
  c.commit_lent.ensures.faults ∙ ap (λ (r : Result (Unit {0}) StoreFault). told_list (fault_told (fault_in r)) ++ c.args.guest.faults) c.in-Err.is ∙ ap (λ (fs : List ℕ). fs ++ c.args.guest.faults) c.excuse_of-cause.ensures.used,
)

pub excuse_file-requires-clause-stopped : goal.excuse_file-requires-clause-stopped
excuse_file-requires-clause-stopped g c fault is = c.commit_lent.ensures.stop fault (c.in-Err.is ∙ ap Err (c.excuse_of-cause.ensures.stopped fault is))

pub excuse_file-requires-clause-committed : goal.excuse_file-requires-clause-committed
excuse_file-requires-clause-committed g c fault is =
    c.commit_lent.ensures.stops fault (ap (λ (r : Result (Unit {0}) StoreFault). fault_told (fault_in r)) c.in-Err.is ∙ told_alone (fault_told (fault_of c.in-Err.fault)) c.excuse_of-cause.result fault c.excuse_of-cause.ensures.used is)

pub returns-in-Err-clause-synced : goal.returns-in-Err-clause-synced
returns-in-Err-clause-synced g c =
    let e = c.excuse_file.ensures.excused in
    let m = c.commit_lent.ensures in
    let was = c.args.file in
    let r = c.excuse_file.result.entry.reply in
    let cause = c.excuse_of-cause.result in
    let x = c.excuse_of-cause.ensures in
    let tells = g.T.Turns.tells c.args.door.now in
    let told = g.T.Turns.tells c.commit_lent.new.door in
    record {
      entry = e.entry;
      replied = subst IsSyncReply (sym e.replied) c.excuse_of-cause.ensures.kind;
      desc = e.desc;
      guest = λ part n pool came off. e.guest part n pool (came_still c.args.ask.client part n pool c.args.guest c.commit_lent.new.guest m.beside m.bare came) off;
      names = λ is. absurd (not_done r cause e.replied is);
      committed = λ is. absurd (not_done r cause e.replied is);
      known = λ is. absurd (not_done r cause e.replied is);
      born = λ is. absurd (not_done r cause e.replied is);
      rest = e.same ∙ (λ i. record was { value = (sym e.same i).value; known = (sym e.same i).known; born = (sym e.same i).born });
      short = λ is. inl (c.in-Err.ensures.err, e.same);
      faults = e.faults c.args.guest.faults (m.faults ∙ ap (λ (q : Result (Unit {0}) StoreFault). told_list (fault_told (fault_in q)) ++ c.args.guest.faults) c.in-Err.is ∙ ap (λ (fs : List ℕ). fs ++ c.args.guest.faults) c.excuse_of-cause.ensures.used);
      stop = λ fault is. e.stop fault (m.stop fault (c.in-Err.is ∙ ap Err (c.excuse_of-cause.ensures.stopped fault (one_excuse r cause (excuse.Stopped fault) e.replied is))));
      freed = λ is. absurd (not_done r cause e.replied is);
      unfreed = λ is. m.free;
      telling = m.telling;
      halts = failed_stops tells told 2 2 r cause (fault_of c.in-Err.fault) e.replied x.used (subst (λ (q : Result (Unit {0}) StoreFault). StopsByFault tells told (fault_in q)) c.in-Err.is m.halts)
          (runs_more tells told (fault_of c.in-Err.fault) 1 1 2 2 (omega arith) (omega arith) (subst (λ (q : Result (Unit {0}) StoreFault). Runs tells told (fault_in q) 1 1) c.in-Err.is m.ran));
      halted = failed_halted (Unit {0}) tells told c.commit_lent.result c.in-Err.fault cause r c.in-Err.is m.halted m.stopped m.telling m.halts x.halted x.stopped e.replied;
      later = let a = m.beside.seen in let b = e.later in omega (arith, a, b);
      seen = e.seen;
    }

pub returns-in-Ok-clause-births : goal.returns-in-Ok-clause-births
returns-in-Ok-clause-births g c =
    let y = c.commit_lent.new.noted in
    births_same (first_names y c.commit_lent.new.right.names) (first_names y c.sync_born.new.right.names) c.commit_lent.new.reached c.sync_born.ensures.same c.commit_lent.ensures.births
