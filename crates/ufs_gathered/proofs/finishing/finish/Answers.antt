use Rattle.std.proofs.Common.{◌≡◌, ◌+◌, ℕ, eqb, List, Option, true, false, length, ◌∙◌, ap, refl, sym, subst}
use Rattle.std.specs.List.{sum_by}
use Rattle.std.proofs.lemmas.List.{with_items_is}
use Rattle.std.specs.Prelude.{IfErr, OnOk, is_ok}
use Rattle.std.proofs.lemmas.Result.{on_ok_weaker}
use Rattle.ufs_disk.specs.Disk.{Leaves}
use Rattle.ufs_disk.specs.Moments.{LeavesOnly, Moments, reads}
use Rattle.ufs_brink.specs.Closes.{OpensAsLeft, tells_unsound}
use Rattle.ufs_held.specs.Together.{under_numbers}
use Rattle.ufs_image.specs.Proper.{IsProperImage}
use Rattle.ufs_image.specs.Volume.{superblock_of}
use Rattle.ufs_recovery.specs.Recovered.{IsCleanDisk, IsRecovered}
use Rattle.ufs_joint.specs.Cells.{FileCell, StoreCell}
use Rattle.ufs_hand_laws.specs.Owned.{count}
use Rattle.ufs_store.specs.Refusals.{IsTold, fault_in, stop_after}
use Rattle.ufs_store.specs.State.{StoreState}
use Rattle.ufs_store.specs.Tables.{state_of}
use Rattle.ufs_turns.specs.Lent.{HasGoneBy, Tally, stop_in, tally_in}
use Rattle.ufs_gathered.specs.Ended.{HasEnded, size_of_cell}
use Rattle.ufs_gathered.specs.Finished.{EndsBehind, EndsBy}
use Rattle.ufs_gathered.specs.Gathered.{AreAllBack}
use Rattle.ufs_gathered.proofs.Cleaned.{back_then, ends_by, explained_on, going_on, of_commits, of_done, proper, stands_last, stop_is, tells_stop, told_by}
use Rattle.ufs_gathered.proofs.Raised.{raised_by, tally_of}
use Rattle.ufs_gathered.proofs.finishing.finish.Goals as goal

pub end-tickets-requires-clause-back : goal.end-tickets-requires-clause-back
end-tickets-requires-clause-back g c =
    let a = c.args.actors in
    let d = c.commit_straight-done in
    let whole = with_items_is a.files d.new.files (d.auto.files ∙ c.as_mut_slice.ensures.len) in
    subst (λ (files : List FileCell). AreAllBack g.N.Naming.start d.new.names files d.new.pools a.clients.items) (sym whole)
    (back_then g.N.Naming.start a.names d.new.names a.files.items d.new.files a.pools d.new.pools a.clients.items c.requires.back d.ensures.there
    (λ file. d.ensures.numbers file ∙ ap (λ (files : List FileCell). count eqb file (under_numbers files)) c.as_mut_slice.ensures.value) d.ensures.pools)

pub returns-clause-finished : goal.returns-clause-finished
returns-clause-finished g c lists at_home =
    let k = g.N.Naming.start in
    let keeps = g.D.Disk.keeps in
    let d = c.commit_straight-done in
    let was = stop_in c.args.actors.store.store in
    let tickets = c.end-tickets.result.tickets in
    let last = c.end-tickets.result.store in
    let s : StoreState = state_of (g.D.Disk.size last.disk) (g.D.Disk.moments last.disk) (g.D.Disk.faults last.disk) last.tables in
    let whole = with_items_is c.args.actors.files d.new.files (d.auto.files ∙ c.as_mut_slice.ensures.len) in
    let session : HasEnded k g.N.Naming.origin keeps tickets lists d.new.names d.new.files s = subst (λ (files : List FileCell). HasEnded k g.N.Naming.origin keeps tickets lists d.new.names files s) whole (c.end-tickets.ensures.ended lists at_home) in
    let into = c.into_disk-disk.ensures in
    let closed = c.clean_if-ended in
    let now = g.D.Disk.moments closed.new.disk in
    let count = g.D.Disk.faults closed.new.disk in
    let halts : s.stop ≡ stop_after was (fault_in d.result.0) = sym (stop_is k g.N.Naming.origin g.D.Disk.visible keeps d.result.1 s c.end-tickets.ensures.store) ∙ d.ensures.halts in
    let ends : EndsBehind d.result.0 s.faults count closed.result = subst (λ (before : ℕ). EndsBehind d.result.0 before count closed.result) into.faults closed.ensures.ends in
    let ends_so : EndsBy (is_ok d.result.0) s.stop s.faults count closed.result =
    subst (λ (stop : Option ℕ). EndsBy (is_ok d.result.0) stop s.faults count closed.result) (sym halts) (ends_by s.faults count was d.result.0 closed.result (of_commits was d.result.0 (stop_in d.result.1.store) d.ensures.halts d.ensures.halted d.ensures.stopped d.ensures.refused) ends) in
    let sight = λ (seen : k.is_visible ≡ true). c.end-tickets.ensures.store.store.sees seen in
    let same : ◌≡◌ {A = ℕ × Moments} (g.D.Disk.size c.into_disk-disk.result, g.D.Disk.moments c.into_disk-disk.result) (s.sectors, s.moments) = λ i. (into.size i, into.moments i) in
    let cleans : (seen : k.is_visible ≡ true) → Leaves (IsProperImage s.sectors) s.moments.state → LeavesOnly keeps (OpensAsLeft s.sectors s.moments.state) s.moments now =
    λ seen. subst (λ (x : ℕ × Moments). Leaves (IsProperImage x.0) x.1.state → LeavesOnly keeps (OpensAsLeft x.0 x.1.state) x.1 now) same (closed.ensures.tree (sight seen)) in
    let is_proper = λ (seen : k.is_visible ≡ true). proper k g.N.Naming.origin keeps tickets lists d.new.names d.new.files s session seen now (cleans seen) in
    record {
      names = d.new.names;
      files = d.new.files;
      store = s;
      session = session;
      measured =
          c.length_of-bytes.ensures
          ∙ ap (λ (files : List FileCell). sum_by size_of_cell files) (c.as_slice.ensures.value ∙ whole)
          ∙ session.bytes;
      all = is_ok d.result.0;
      ends = ends_so;
      size = closed.ensures.size ∙ into.size;
      moments = λ seen. explained_on k g.N.Naming.origin keeps tickets lists d.new.names d.new.files s session seen now (cleans seen);
      last = λ seen all.
          stands_last k g.N.Naming.origin keeps tickets lists d.new.names d.new.files s session seen now (cleans seen)
          (halts ∙ going_on was d.result.0 d.ensures.halted all) (of_done d.result.0 all d.ensures.known seen);
      sound = λ seen all.
          of_done d.result.0 all
          (subst (λ (x : ℕ × Moments). OnOk d.result.0 (Leaves (IsProperImage x.0) x.1.state → IfErr closed.result (λ fault. tells_unsound fault ≡ false))) same (closed.ensures.sound (sight seen)))
          (is_proper seen);
      clean = λ seen.
          on_ok_weaker closed.result (λ leads. leads (is_proper seen))
          (subst (λ (x : ℕ × Moments). OnOk closed.result (Leaves (IsProperImage x.0) x.1.state → IsCleanDisk x.0 now.state)) same (closed.ensures.clean (sight seen)));
      recovered = λ seen.
          on_ok_weaker closed.result (λ leads. leads (is_proper seen))
          (subst (λ (x : ℕ × Moments). OnOk closed.result (Leaves (IsProperImage x.0) x.1.state → (superblock_of (reads x.1)).clean ≡ false → IsRecovered (reads x.1) (reads now))) same (closed.ensures.recovered (sight seen)));
    }

pub returns-clause-counted : goal.returns-clause-counted
returns-clause-counted g c =
    let d = c.commit_straight-done in
    let from = (tally_in c.args.actors.store.store).faults in
    let last = c.end-tickets.result.store in
    let s : StoreState = state_of (g.D.Disk.size last.disk) (g.D.Disk.moments last.disk) (g.D.Disk.faults last.disk) last.tables in
    let closed = c.clean_if-ended in
    let now = g.D.Disk.faults closed.new.disk in
    let behind : (tally_in d.result.1.store).faults ≡ s.faults = ap (λ (cs : List (Unit {0} × StoreCell)). (tally_in cs).faults) c.end-tickets.ensures.store.store.has in
    let first : IsTold from s.faults (fault_in d.result.0) = subst (λ (n : ℕ). IsTold from n (fault_in d.result.0)) behind d.ensures.ran.count in
    let ends : EndsBehind d.result.0 s.faults now closed.result = subst (λ (before : ℕ). EndsBehind d.result.0 before now closed.result) c.into_disk-disk.ensures.faults closed.ensures.ends in
    told_by s.faults now from d.result.0 closed.result first d.ensures.refused ends

pub returns-clause-stopped : goal.returns-clause-stopped
returns-clause-stopped g c fault =
    let d = c.commit_straight-done in
    let was = stop_in c.args.actors.store.store in
    let closed = c.clean_if-ended in
    let before = g.D.Disk.faults c.into_disk-disk.result in
    let count = g.D.Disk.faults closed.new.disk in
    tells_stop before count was d.result.0 closed.result (of_commits was d.result.0 (stop_in d.result.1.store) d.ensures.halts d.ensures.halted d.ensures.stopped d.ensures.refused) closed.ensures.ends fault

pub returns-clause-measured : goal.returns-clause-measured
returns-clause-measured g c = refl

pub returns-clause-raised : goal.returns-clause-raised
unfolding returns-clause-finished
returns-clause-raised g c seen =
    let d = c.commit_straight-done in
    let home = c.requires.home in
    let fin = returns-clause-finished g c home.0 home.1 in
    let last = c.end-tickets.result.store in
    let s : StoreState = state_of (g.D.Disk.size last.disk) (g.D.Disk.moments last.disk) (g.D.Disk.faults last.disk) last.tables in
    let n = length c.args.actors.files.items in
    let behind : tally_in d.result.1.store ≡ tally_of s = ap tally_in c.end-tickets.ensures.store.store.has in
    let ran : HasGoneBy (fault_in d.result.0) (1 + n) (1 + n) (tally_in c.args.actors.store.store) (tally_of s) =
    subst (λ (t : Tally). HasGoneBy (fault_in d.result.0) (1 + n) (1 + n) (tally_in c.args.actors.store.store) t) behind
    (subst (λ (m : ℕ). HasGoneBy (fault_in d.result.0) (1 + m) (1 + m) (tally_in c.args.actors.store.store) (tally_in d.result.1.store)) (ap (λ (files : List FileCell). length files) c.as_mut_slice.ensures.value) d.ensures.ran) in
    raised_by g.N.Naming.start g.N.Naming.origin g.D.Disk.keeps _ home.0 _ _ _ _ _ fin (tally_in c.args.actors.store.store) (fault_in d.result.0) n ran (d.auto.files ∙ ap (λ (files : List FileCell). length files) c.as_mut_slice.ensures.value) seen
