use Rattle.std.proofs.Common.{◌≡◌, ◌∙◌, ◌<◌, ℕ, List, [], length, Result, refl, sym, subst}
use Rattle.std.specs.Prelude.{true}
use Rattle.ufs_brink.specs.declared.closing.CloseFault.{CloseFault}
use Rattle.ufs_client.specs.Played.{IsMerged}
use Rattle.ufs_disk.specs.Disk.{Leaves}
use Rattle.ufs_disk.specs.Moments.{Moments}
use Rattle.ufs_rounds.specs.OfGathered.{AnswerAll}
use Rattle.ufs_joint.specs.Cells.{Start}
use Rattle.ufs_joint.specs.FirstHand.{Beginning, start_first}
use Rattle.ufs_joint.specs.Ready.{IsReady}
use Rattle.ufs_model.specs.declared.data.Entry.{Entry}
use Rattle.ufs_model.specs.declared.data.Op.{Op}
use Rattle.ufs_msg.specs.There.{worker_count}
use Rattle.ufs_promise_laws.specs.OnDisk.{IsExplainedImage}
use Rattle.ufs_rounds.specs.Played.{TellsToEnd}
use Rattle.ufs_store.specs.State.{StoreState}
use Rattle.ufs_store.specs.Tables.{state_of}
use Rattle.ufs_engine.specs.Asked.{IsAskedOf, given, lists_in}
use Rattle.ufs_engine.specs.Played.{IsPlayedOn}
use Rattle.ufs_engine.proofs.Clients.{for_scripts}
use Rattle.ufs_engine.proofs.Ending.{HasRun, IsWholeEnd, no_worker, played_on}
use Rattle.ufs_engine.proofs.Leaving.{begins_so, left_on, ready_there}
use Rattle.ufs_engine.proofs.Rooms.{given_fit, has_room}
use Rattle.ufs_engine.proofs.Running.{counts_first, formed_so, has_run, some_given}
use Rattle.ufs_engine.proofs.session.play_named.Given.{Over}
use Rattle.ufs_engine.proofs.session.play_named.Goals.{After-whole_end}
use Rattle.ufs_engine.proofs.session.play_named.Goals as goal

-- ---- it begins

pub begin-requires-clause-some : goal.begin-requires-clause-some
begin-requires-clause-some g c = subst (λ (l : List (List Op)). 0 < length l) (sym c.requires.asked.1.clients_are) (some_given c.requires.asked.0)

-- ---- it was played

pub play-requires-clause-start : goal.play-requires-clause-start
play-requires-clause-start g c = (c.requires.mounted.0, _, c.requires.mounted.1.start)

pub tell-requires-clause-none : goal.tell-requires-clause-none
tell-requires-clause-none g c = c.requires.asked.1.none

pub tell-requires-clause-room : goal.tell-requires-clause-room
tell-requires-clause-room g c = let a = c.requires.asked in has_room a.0 c.args.asked.rooms.items _ a.1.rooms_are a.1.room

pub tell-requires-clause-fit : goal.tell-requires-clause-fit
tell-requires-clause-fit g c =
    let a = c.requires.asked in
    given_fit a.0 c.in-Ok-play.played.told.items c.args.asked.rooms.items a.1.rooms_are
    (subst (λ (l : List (List Op)). AnswerAll l (lists_in c.in-Ok-play.played.told.items)) (c.in-Ok.ensures.scripts ∙ a.1.clients_are) c.in-Ok-play.ensures.played.all)

module _ (g : Over) (c : After-whole_end g) where
  -- the store as the session begins
  abbrev opened : StoreState
  opened = let at = c.args.ready.store in state_of (g.D.Disk.size at.disk) (g.D.Disk.moments at.disk) (g.D.Disk.faults at.disk) at.tables

  abbrev k : Start
  k = g.N.Naming.start

  abbrev b : Beginning
  b = c.requires.mounted.0

  from : k ≡ start_first b opened
  from = c.requires.mounted.1.start

  is_ready : IsReady b opened
  is_ready = c.requires.mounted.1.ready

  alone : worker_count k ≡ 0
  alone = no_worker k b opened from c.requires.mounted.1.workers_are

  begins : k.is_visible ≡ true → Leaves (IsExplainedImage opened.sectors k.tree []) opened.moments.state
  begins = begins_so k b opened from is_ready c.geometry-geometry.result c.geometry-geometry.ensures.is c.on_disk_law.ensures.explained c.on_disk_law.ensures.proper

  abbrev lists : List (List Entry)
  lists = lists_in c.in-Ok-play.played.told.items

  abbrev closed : Result (Unit {0}) CloseFault
  closed = c.in-Ok-play.played.ended

  abbrev sectors : ℕ
  sectors = g.D.Disk.size c.in-Ok-play.played.disk

  abbrev faults : ℕ
  faults = g.D.Disk.faults c.in-Ok-play.played.disk

  abbrev now : Moments
  now = g.D.Disk.moments c.in-Ok-play.played.disk

  -- What the turns of the session tell of its store.
  tells : (history : List Entry) → IsMerged lists history → TellsToEnd k opened c.in-Ok.session.store history faults now closed
  tells = c.in-Ok-play.ensures.told (c.in-Ok.ensures.alone refl) c.in-Ok.ensures.nothing opened (formed_so k b opened from is_ready)

  whole : IsWholeEnd closed c.in-Ok-play.played.bytes c.whole_end.result c.bytes_of.result
  whole = record {
    closed_well = c.whole_end.ensures.closed;
    device = c.whole_end.ensures.device;
    stopped = c.whole_end.ensures.stopped;
    measured = c.whole_end.ensures.measured;
    counts = c.bytes_of.ensures;
  }

  module _ (scripts : List (List Op)) (asked : IsAskedOf scripts c.args.asked.clients c.args.asked.lists c.args.asked.rooms.items) where
    run : HasRun k g.D.Disk.keeps (given scripts) opened c.in-Ok-play.played.tickets lists c.in-Ok-play.played.bytes sectors faults now closed
    run = has_run k g.N.Naming.origin g.D.Disk.keeps _ (given scripts) opened c.in-Ok.session.store c.in-Ok-play.played.tickets lists c.in-Ok-play.played.bytes sectors faults now closed
        (formed_so k b opened from is_ready) (counts_first opened c.in-Ok.session.store c.in-Ok.ensures.store.store) c.requires.origin (c.in-Ok.ensures.scripts ∙ asked.clients_are) c.in-Ok-play.ensures.played alone (c.in-Ok-play.ensures.in_turn (c.in-Ok.ensures.alone refl) c.in-Ok.ensures.nothing refl) tells

    on : IsPlayedOn k g.D.Disk.keeps (given scripts) opened lists c.bytes_of.result c.whole_end.result sectors faults now
    on = played_on k g.D.Disk.keeps (given scripts) opened c.in-Ok-play.played.tickets lists c.in-Ok-play.played.bytes sectors faults now closed run b from is_ready begins c.whole_end.result c.bytes_of.result whole

pub returns-in-Ok-play-clause-played : goal.returns-in-Ok-play-clause-played
returns-in-Ok-play-clause-played g c scripts asked =
    subst (λ (told : List (List Entry)). IsPlayedOn (k g c) g.D.Disk.keeps scripts (opened g c) told c.bytes_of.result c.whole_end.result (sectors g c) (faults g c) (now g c)) (sym c.tell.ensures)
    (for_scripts (k g c) g.D.Disk.keeps (opened g c) c.bytes_of.result c.whole_end.result (sectors g c) (faults g c) (now g c) scripts c.args.asked.rooms.items (lists g c) asked.rooms_are (run g c scripts asked).each (run g c scripts asked).answered (on g c scripts asked))

pub returns-in-Ok-play-clause-begun : goal.returns-in-Ok-play-clause-begun
returns-in-Ok-play-clause-begun g c fault is = c.whole_end.ensures.begun fault is

-- ---- there was no memory for it

pub leave-requires-clause-name : goal.leave-requires-clause-name
leave-requires-clause-name g c = ((λ i. (c.in-Err.ensures.back i).opened.table) ∙ c.requires.name.0, (λ i. (c.in-Err.ensures.back i).opened.start) ∙ c.requires.name.1)

pub leave-requires-clause-ready : goal.leave-requires-clause-ready
leave-requires-clause-ready g c =
    let m = c.requires.mounted in
    ready_there g.N.Naming.start m.0 _ m.1.start m.1.ready _ (λ i. let at = (sym c.in-Err.ensures.back i).store in state_of (g.D.Disk.size at.disk) (g.D.Disk.moments at.disk) (g.D.Disk.faults at.disk) at.tables)

pub returns-in-Err-clause-played : goal.returns-in-Err-clause-played
returns-in-Err-clause-played g c scripts asked =
    let k = g.N.Naming.start in
    let m = c.requires.mounted in
    let at = c.args.ready.store in
    let opened = state_of (g.D.Disk.size at.disk) (g.D.Disk.moments at.disk) (g.D.Disk.faults at.disk) at.tables in
    let l = c.leave.ensures in
    let left = c.leave.result in
    left_on k m.0 opened m.1.start m.1.ready g.D.Disk.keeps scripts _ left.told left.bytes left.ended (g.D.Disk.size left.disk) (g.D.Disk.faults left.disk) (g.D.Disk.moments left.disk) l.told l.bytes l.ended
    (l.left.sectors ∙ (λ i. g.D.Disk.size (c.in-Err.ensures.back i).store.disk)) (l.left.seen ∙ (λ i. g.D.Disk.moments (c.in-Err.ensures.back i).store.disk))
    (begins_so k m.0 opened m.1.start m.1.ready c.geometry-geometry.result c.geometry-geometry.ensures.is c.on_disk_law.ensures.explained c.on_disk_law.ensures.proper)
