use Rattle.std.proofs.Common.{◌≡◌, ◌≤◌, ◌++◌, ℕ, List, Err, Result, true, false, ap, sym, subst, ◌∙◌}
use Rattle.std.proofs.lemmas.List.{append-nil}
use Rattle.ufs_file_commits.specs.State.{DurableState, state_of}
use Rattle.ufs_file.specs.Hand.{IsOf}
use Rattle.ufs_joint.specs.Cells.{FileCell, View, given_of, kept_of}
use Rattle.ufs_joint.specs.Draws.{drawn}
use Rattle.ufs_joint.specs.FileHands.{IsFileHand}
use Rattle.ufs_model.specs.FileCalls.{file_refusal}
use Rattle.ufs_model.specs.History.{is_excused}
use Rattle.ufs_model.specs.declared.data.Excuse.{Excuse}
use Rattle.ufs_model.specs.declared.data.Excuse.TheVariants as excuse
use Rattle.ufs_model.specs.declared.data.PartName.TheVariants.{File}
use Rattle.ufs_model.specs.declared.data.Reply.{Reply}
use Rattle.ufs_model.specs.declared.data.Reply.TheVariants as reply
use Rattle.ufs_crash_laws.specs.Changes.{asks_commit}
use Rattle.ufs_hand_laws.specs.Draws.{left_faults}
use Rattle.ufs_hand_laws.specs.Parts.{ClientPart}
use Rattle.ufs_store.specs.declared.fault.StoreFault.{StoreFault}
use Rattle.ufs_store.specs.Refusals.{fault_in, fault_of}
use Rattle.ufs_turns.specs.Lent.{Runs, StopsByFault}
use Rattle.ufs_turns.specs.Told.{fault_told, told_list}
use Rattle.ufs_held.specs.Asking.{Asks, IsGuest, IsSyncReply}
use Rattle.ufs_held.specs.Drawn.{fresh_of}
use Rattle.ufs_held.specs.Held.{IsHeld, first_cell}
use Rattle.ufs_held.specs.Together.{still_of}
use Rattle.ufs_held.proofs.After.{acknowledged, answered_still, came_below, failed_first, first_held, guest_still, held_failed, held_still, held_synced, joined_hand, kept_value, lends, same_part, still_first}
use Rattle.ufs_held.proofs.Excusing.{not_done, one_excuse, told_alone}
use Rattle.ufs_held.proofs.Replying.{may_acknowledge}
use Rattle.ufs_held.proofs.Stopping.{done_stops, failed_halted, failed_stops, passed_going}
use Rattle.ufs_held.proofs.syncs.sync_lent.Goals as goal

pub draw_reply-entry-requires : goal.draw_reply-entry-requires
draw_reply-entry-requires g c =
    let f = c.requires.guest in
    let held = c.requires.held in
    let x = state_of c.args.file.now c.args.commits.now in
    let y = state_of c.sync_file.new.file c.sync_file.new.commits in
    let own = c.args.right.now in
    let synced = c.sync_file.new.hand in
    let visible = g.N.Naming.start.is_visible in
    let done = c.in-Ok.ensures.ok x.file.file held.cell (lends visible own synced x y held) in
    let then = held_synced visible own synced x y held c.sync_file.ensures.beside c.sync_file.ensures.away done in
    let hand = subst (λ (v : View). IsFileHand v c.args.ask.client f.0 y.file.file then.cell f.1 f.2) (sym c.join.ensures) (joined_hand synced c.args.guest y c.args.ask.client f.0 f.1 f.2 then f.3) in
    record {
      may = λ ticket. may_acknowledge g.N.Naming.start c.join.new.self f.0 y.file.file then.cell f.1 f.2 c.args.ask c.args.by ticket hand f.4 c.requires.server c.an_acknowledgement_is_drawn.ensures c.requires.fsync.0 c.requires.fsync.1
          (subst (IsOf c.args.ask.desc) (sym done.file.number) c.requires.named) (ap (λ (q : FileCell). q.born) (sym (first_held x own held)) ∙ c.requires.born) done.all;
    }

pub returns-in-Ok-clause-held : goal.returns-in-Ok-clause-held
returns-in-Ok-clause-held g c =
    let f = c.requires.guest in
    let held = c.requires.held in
    let x = state_of c.args.file.now c.args.commits.now in
    let y = state_of c.sync_file.new.file c.sync_file.new.commits in
    let own = c.args.right.now in
    let synced = c.sync_file.new.hand in
    let visible = g.N.Naming.start.is_visible in
    let done = c.in-Ok.ensures.ok x.file.file held.cell (lends visible own synced x y held) in
    let then = held_synced visible own synced x y held c.sync_file.ensures.beside c.sync_file.ensures.away done in
    let entry = c.draw_reply-entry.result in
    let z = c.draw_reply-entry.new.hand in
    let is = c.draw_reply-entry.ensures.cells ∙ ap (λ (v : View). drawn entry.ticket (fresh_of entry) (still_of v) v) c.join.ensures in
    subst (IsHeld y) (sym (c.replace-guest.ensures.after ∙ c.split-own.ensures.given ∙ ap (λ (m : ℕ). given_of (File m) z) c.file.ensures))
    (held_still synced c.args.guest y c.args.ask.client f.0 f.1 f.2 then f.3 entry c.draw_reply-entry.ensures.entry.client z is (λ e. f.5 (e ∙ done.file.number)))

pub returns-in-Ok-clause-guest : goal.returns-in-Ok-clause-guest
returns-in-Ok-clause-guest g c = λ part n pool came off.
    let f = c.requires.guest in
    let held = c.requires.held in
    let x = state_of c.args.file.now c.args.commits.now in
    let y = state_of c.sync_file.new.file c.sync_file.new.commits in
    let own = c.args.right.now in
    let synced = c.sync_file.new.hand in
    let visible = g.N.Naming.start.is_visible in
    let done = c.in-Ok.ensures.ok x.file.file held.cell (lends visible own synced x y held) in
    let then = held_synced visible own synced x y held c.sync_file.ensures.beside c.sync_file.ensures.away done in
    let entry = c.draw_reply-entry.result in
    let z = c.draw_reply-entry.new.hand in
    let is = c.draw_reply-entry.ensures.cells ∙ ap (λ (v : View). drawn entry.ticket (fresh_of entry) (still_of v) v) c.join.ensures in
    let off_it = λ (e : n ≡ y.file.file). off (e ∙ done.file.number) in
    let asks = subst (λ (p : ClientPart). Asks p c.args.ask) (same_part c.args.ask.client f.0 part f.1 n f.2 pool c.args.guest f.3 came) f.4 in (
      acknowledged synced c.args.guest y c.args.ask.client part n pool then came entry c.draw_reply-entry.ensures.entry.client z is off_it,
      answered_still synced c.args.guest y c.args.ask.client part n pool then came entry c.draw_reply-entry.ensures.entry.client z is off_it c.args.ask asks c.draw_reply-entry.ensures.entry.asked,
      subst (IsGuest c.args.ask.client (acknowledged synced c.args.guest y c.args.ask.client part n pool then came entry c.draw_reply-entry.ensures.entry.client z is off_it) n pool)
          (sym (c.replace-guest.ensures.value ∙ c.split-own.ensures.kept ∙ ap (λ (m : ℕ). kept_of (File m) z) c.file.ensures))
          (guest_still synced c.args.guest y c.args.ask.client part n pool then came entry c.draw_reply-entry.ensures.entry.client z is off_it),
    )

pub returns-in-Ok-clause-known : goal.returns-in-Ok-clause-known
returns-in-Ok-clause-known g c = λ replied seen.
    let f = c.requires.guest in
    let held = c.requires.held in
    let x = state_of c.args.file.now c.args.commits.now in
    let y = state_of c.sync_file.new.file c.sync_file.new.commits in
    let own = c.args.right.now in
    let synced = c.sync_file.new.hand in
    let visible = g.N.Naming.start.is_visible in
    let done = c.in-Ok.ensures.ok x.file.file held.cell (lends visible own synced x y held) in
    let then = held_synced visible own synced x y held c.sync_file.ensures.beside c.sync_file.ensures.away done in
    let entry = c.draw_reply-entry.result in
    let z = c.draw_reply-entry.new.hand in
    let is = c.draw_reply-entry.ensures.cells ∙ ap (λ (v : View). drawn entry.ticket (fresh_of entry) (still_of v) v) c.join.ensures in
    subst (λ (q : FileCell). q.changed ≤ q.known)
    (sym (ap (λ (v : View). first_cell y v.files) (c.replace-guest.ensures.after ∙ c.split-own.ensures.given ∙ ap (λ (m : ℕ). given_of (File m) z) c.file.ensures)
    ∙ still_first synced c.args.guest y c.args.ask.client f.0 f.1 f.2 then f.3 entry c.draw_reply-entry.ensures.entry.client z is (λ e. f.5 (e ∙ done.file.number)))) (done.all seen)

pub returns-in-Ok-clause-cell : goal.returns-in-Ok-clause-cell
returns-in-Ok-clause-cell g c =
    let f = c.requires.guest in
    let held = c.requires.held in
    let x = state_of c.args.file.now c.args.commits.now in
    let y = state_of c.sync_file.new.file c.sync_file.new.commits in
    let own = c.args.right.now in
    let synced = c.sync_file.new.hand in
    let visible = g.N.Naming.start.is_visible in
    let done = c.in-Ok.ensures.ok x.file.file held.cell (lends visible own synced x y held) in
    let then = held_synced visible own synced x y held c.sync_file.ensures.beside c.sync_file.ensures.away done in
    let entry = c.draw_reply-entry.result in
    let z = c.draw_reply-entry.new.hand in
    let is = c.draw_reply-entry.ensures.cells ∙ ap (λ (v : View). drawn entry.ticket (fresh_of entry) (still_of v) v) c.join.ensures in
    let first : first_cell y c.replace-guest.new.dest.files ≡ record held.cell { value = y; known = done.known } =
    ap (λ (v : View). first_cell y v.files) (c.replace-guest.ensures.after ∙ c.split-own.ensures.given ∙ ap (λ (m : ℕ). given_of (File m) z) c.file.ensures)
    ∙ still_first synced c.args.guest y c.args.ask.client f.0 f.1 f.2 then f.3 entry c.draw_reply-entry.ensures.entry.client z is (λ e. f.5 (e ∙ done.file.number)) in
    first ∙ (λ i. record ((sym (first_held x own held)) i) { value = y; known = (sym (ap (λ (q : FileCell). q.known) first)) i })

pub returns-in-Ok-clause-calm : goal.returns-in-Ok-clause-calm
returns-in-Ok-clause-calm g c = ap (λ (v : View). v.faults) (c.replace-guest.ensures.after ∙ c.split-own.ensures.given)

pub returns-in-Ok-clause-faults : goal.returns-in-Ok-clause-faults
returns-in-Ok-clause-faults g c =
    ap (λ (v : View). v.faults) (c.replace-guest.ensures.value ∙ c.split-own.ensures.kept)
    ∙ ap (λ (v : View). v.faults) c.draw_reply-entry.ensures.cells
    ∙ ap (λ (r : Reply). left_faults r c.join.new.self.faults) c.draw_reply-entry.ensures.replied
    ∙ ap (λ (v : View). v.faults) c.join.ensures
    ∙ ap (λ (faults : List ℕ). faults ++ c.args.guest.faults)
    (c.sync_file.ensures.faults ∙ ap (λ (r : Result ℕ StoreFault). told_list (fault_told (fault_in r)) ++ c.args.right.now.faults) c.in-Ok.is ∙ c.requires.calm)

pub returns-in-Ok-clause-stop : goal.returns-in-Ok-clause-stop
returns-in-Ok-clause-stop g c fault is = absurd (not_done c.draw_reply-entry.result.reply (excuse.Stopped fault) is c.draw_reply-entry.ensures.replied)

pub returns-in-Ok-clause-freed : goal.returns-in-Ok-clause-freed
returns-in-Ok-clause-freed g c done = c.in-Ok.ensures.freed

pub returns-in-Ok-clause-unfreed : goal.returns-in-Ok-clause-unfreed
returns-in-Ok-clause-unfreed g c excused = absurd (let clash : false ≡ true = sym (ap is_excused c.draw_reply-entry.ensures.replied) ∙ excused in cc)

pub returns-in-Ok-clause-later : goal.returns-in-Ok-clause-later
returns-in-Ok-clause-later g c = came_below c.sync_file.new.hand c.args.guest c.join.new.self c.draw_reply-entry.result.ticket c.join.ensures c.draw_reply-entry.ensures.later

pub returns-in-Ok-clause-seen : goal.returns-in-Ok-clause-seen
returns-in-Ok-clause-seen g c = ap (λ (v : View). v.seen) (c.replace-guest.ensures.value ∙ c.split-own.ensures.kept) ∙ ap (λ (v : View). v.seen) c.draw_reply-entry.ensures.cells

pub returns-in-Ok-clause-replied : goal.returns-in-Ok-clause-replied
returns-in-Ok-clause-replied g c = subst IsSyncReply (sym c.draw_reply-entry.ensures.replied) tt

pub returns-in-Ok-clause-kept : goal.returns-in-Ok-clause-kept
returns-in-Ok-clause-kept g c excused = (let clash : false ≡ true = sym (ap is_excused c.draw_reply-entry.ensures.replied) ∙ excused in absurd cc)

pub returns-in-Ok-clause-halts : goal.returns-in-Ok-clause-halts
returns-in-Ok-clause-halts g c =
    let tells = g.T.Turns.tells c.args.door.now in
    let told = g.T.Turns.tells c.sync_file.new.self in
    done_stops tells told 1 1 c.draw_reply-entry.result.reply c.draw_reply-entry.ensures.replied (subst (λ (q : Result ℕ StoreFault). StopsByFault tells told (fault_in q)) c.in-Ok.is c.sync_file.ensures.halts)
    (subst (λ (q : Result ℕ StoreFault). Runs tells told (fault_in q) 1 1) c.in-Ok.is c.sync_file.ensures.ran)

pub returns-in-Ok-clause-halted : goal.returns-in-Ok-clause-halted
returns-in-Ok-clause-halted g c =
    let tells = g.T.Turns.tells c.args.door.now in
    passed_going ℕ tells c.sync_file.result _ c.draw_reply-entry.result.reply c.in-Ok.is c.sync_file.ensures.halted c.draw_reply-entry.ensures.replied

-- ---- where it fails

pub serve_excused-requires-clause-held : goal.serve_excused-requires-clause-held
serve_excused-requires-clause-held g c =
    let held = c.requires.held in
    let x = state_of c.args.file.now c.args.commits.now in
    let y = state_of c.sync_file.new.file c.sync_file.new.commits in
    let own = c.args.right.now in
    let synced = c.sync_file.new.hand in
    let visible = g.N.Naming.start.is_visible in
    let still = c.in-Err.ensures.err x.file.file held.cell (lends visible own synced x y held) held.value in
    let kept = c.in-Err.ensures.kept in
    held_failed visible own synced x y held c.sync_file.ensures.beside c.sync_file.ensures.away still kept

pub serve_excused-requires-clause-guest : goal.serve_excused-requires-clause-guest
serve_excused-requires-clause-guest g c =
    let f = c.requires.guest in
    let number = ap (λ (q : DurableState). q.file.file) c.in-Err.ensures.kept in (f.0, f.1, f.2, f.3, f.4, λ e. f.5 (e ∙ number))

pub serve_excused-requires-clause-named : goal.serve_excused-requires-clause-named
serve_excused-requires-clause-named g c = subst (IsOf c.args.ask.desc) (sym (ap (λ (q : DurableState). q.file.file) c.in-Err.ensures.kept)) c.requires.named

pub serve_excused-requires-clause-allowed : goal.serve_excused-requires-clause-allowed
serve_excused-requires-clause-allowed g c d is = ap (file_refusal c.sync_file.new.file.content.bytes d) c.requires.fsync.1

pub serve_excused-requires-clause-told : goal.serve_excused-requires-clause-told
serve_excused-requires-clause-told g c =
    c.sync_file.ensures.faults
    ∙ (λ i. told_list (fault_told (fault_in (c.in-Err.is i))) ++ c.requires.calm i)
    ∙ append-nil (told_list (fault_told (fault_of c.in-Err.fault)))
    ∙ c.excuse_of-cause.ensures.used

pub serve_excused-requires-clause-stopped : goal.serve_excused-requires-clause-stopped
serve_excused-requires-clause-stopped g c fault is = c.sync_file.ensures.stop fault (c.in-Err.is ∙ ap Err (c.excuse_of-cause.ensures.stopped fault is))

pub serve_excused-requires-clause-committed : goal.serve_excused-requires-clause-committed
serve_excused-requires-clause-committed g c fault by is =
    c.sync_file.ensures.stops fault (ap (λ (r : Result ℕ StoreFault). fault_told (fault_in r)) c.in-Err.is ∙ told_alone (fault_told (fault_of c.in-Err.fault)) c.excuse_of-cause.result fault c.excuse_of-cause.ensures.used is)

pub serve_excused-requires-clause-asks : goal.serve_excused-requires-clause-asks
serve_excused-requires-clause-asks g c fault is = ap asks_commit c.requires.fsync.1

pub returns-in-Err-clause-replied : goal.returns-in-Err-clause-replied
returns-in-Err-clause-replied g c = subst IsSyncReply (sym c.serve_excused.ensures.replied) c.excuse_of-cause.ensures.kind

pub returns-in-Err-clause-guest : goal.returns-in-Err-clause-guest
returns-in-Err-clause-guest g c = λ part n pool came off.
    c.serve_excused.ensures.guest part n pool came (λ e. off (e ∙ ap (λ (q : DurableState). q.file.file) c.in-Err.ensures.kept))

pub returns-in-Err-clause-committed : goal.returns-in-Err-clause-committed
returns-in-Err-clause-committed g c done = absurd (not_done c.serve_excused.result.entry.reply c.excuse_of-cause.result c.serve_excused.ensures.replied done)

pub returns-in-Err-clause-known : goal.returns-in-Err-clause-known
returns-in-Err-clause-known g c done = absurd (not_done c.serve_excused.result.entry.reply c.excuse_of-cause.result c.serve_excused.ensures.replied done)

pub returns-in-Err-clause-kept : goal.returns-in-Err-clause-kept
returns-in-Err-clause-kept g c excused =
    let held = c.requires.held in
    let x = state_of c.args.file.now c.args.commits.now in
    let y = state_of c.sync_file.new.file c.sync_file.new.commits in
    let own = c.args.right.now in
    let synced = c.sync_file.new.hand in
    let visible = g.N.Naming.start.is_visible in
    let still = c.in-Err.ensures.err x.file.file held.cell (lends visible own synced x y held) held.value in
    let kept = c.in-Err.ensures.kept in
    c.serve_excused.ensures.cell ∙ failed_first visible own synced x y held c.sync_file.ensures.beside c.sync_file.ensures.away still

pub returns-in-Err-clause-cell : goal.returns-in-Err-clause-cell
returns-in-Err-clause-cell g c =
    let held = c.requires.held in
    let x = state_of c.args.file.now c.args.commits.now in
    let y = state_of c.sync_file.new.file c.sync_file.new.commits in
    let own = c.args.right.now in
    let synced = c.sync_file.new.hand in
    let visible = g.N.Naming.start.is_visible in
    let still = c.in-Err.ensures.err x.file.file held.cell (lends visible own synced x y held) held.value in
    let kept = c.in-Err.ensures.kept in
    let first : first_cell y c.serve_excused.new.right.files ≡ first_cell x own.files = c.serve_excused.ensures.cell ∙ failed_first visible own synced x y held c.sync_file.ensures.beside c.sync_file.ensures.away still in
    first ∙ (λ i. record (first_cell x own.files) { value = (sym (kept_value x own held) ∙ sym kept) i; known = (sym (ap (λ (q : FileCell). q.known) first)) i })

pub returns-in-Err-clause-stop : goal.returns-in-Err-clause-stop
returns-in-Err-clause-stop g c fault is = c.serve_excused.ensures.stop fault (one_excuse c.serve_excused.result.entry.reply c.excuse_of-cause.result (excuse.Stopped fault) c.serve_excused.ensures.replied is)

pub returns-in-Err-clause-freed : goal.returns-in-Err-clause-freed
returns-in-Err-clause-freed g c done = absurd (not_done c.serve_excused.result.entry.reply c.excuse_of-cause.result c.serve_excused.ensures.replied done)

pub returns-in-Err-clause-unfreed : goal.returns-in-Err-clause-unfreed
returns-in-Err-clause-unfreed g c excused = c.in-Err.ensures.unfreed

pub returns-in-Err-clause-halts : goal.returns-in-Err-clause-halts
returns-in-Err-clause-halts g c =
    let tells = g.T.Turns.tells c.args.door.now in
    let told = g.T.Turns.tells c.sync_file.new.self in
    failed_stops tells told 1 1 c.serve_excused.result.entry.reply c.excuse_of-cause.result (fault_of c.in-Err.fault) c.serve_excused.ensures.replied c.excuse_of-cause.ensures.used
    (subst (λ (q : Result ℕ StoreFault). StopsByFault tells told (fault_in q)) c.in-Err.is c.sync_file.ensures.halts)
    (subst (λ (q : Result ℕ StoreFault). Runs tells told (fault_in q) 1 1) c.in-Err.is c.sync_file.ensures.ran)

pub returns-in-Err-clause-halted : goal.returns-in-Err-clause-halted
returns-in-Err-clause-halted g c =
    let tells = g.T.Turns.tells c.args.door.now in
    let told = g.T.Turns.tells c.sync_file.new.self in
    let t = c.sync_file.ensures in
    let x = c.excuse_of-cause.ensures in
    failed_halted ℕ tells told c.sync_file.result c.in-Err.fault c.excuse_of-cause.result c.serve_excused.result.entry.reply c.in-Err.is t.halted t.stopped t.telling t.halts x.halted x.stopped c.serve_excused.ensures.replied
