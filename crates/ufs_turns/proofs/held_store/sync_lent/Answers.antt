use Rattle.std.proofs.Common.{◌≡◌, ◌++◌, ℕ, Option, None, [], ◌∷◌, true, false, sym, subst, ap, inl, refl, ◌∙◌}
use Rattle.std.specs.Prelude.{All}
use Rattle.ufs_bitmap.specs.Space.{Space}
use Rattle.ufs_extent.specs.Runs.{IsRun}
use Rattle.ufs_file_commits.specs.State.{DurableState, IsNoted, state_of}
use Rattle.ufs_joint.specs.Cells.{FileCell, View}
use Rattle.ufs_joint.specs.Disks.{cell_of}
use Rattle.ufs_joint.specs.FileHands.{FileCommitsGoOn, FileCommitsMayEnd, FileFailuresGoOn, FileFailuresMayEnd}
use Rattle.ufs_layout.specs.Areas.{first_of_data, is_inode_number}
use Rattle.ufs_layout.specs.declared.geometry.Geometry.{Geometry}
use Rattle.ufs_promise_laws.specs.Syncs.{IsSpaceOf, MaySync}
use Rattle.ufs_hand_laws.specs.Owned.{Has}
use Rattle.ufs_joint.specs.Turns.{MayEndTurn}
use Rattle.ufs_store.specs.Refusals.{fault_in, fault_of, stop_after}
use Rattle.ufs_store.specs.State.{geometry_of_store}
use Rattle.ufs_turns.specs.HeldStore.{sync_turn}
use Rattle.ufs_turns.specs.Told.{fault_told, told_list}
use Rattle.ufs_turns.specs.Syncs.{HasNotPassed, HasPassed}
use Rattle.ufs_turns.specs.Lent.{HasRun, IsFileIn}
use Rattle.ufs_turns.proofs.Syncing.{faults_then, told_is_same, stop_then, commit_went, failure_went, commit_ends, committed_then, failure_ends, file_sound, may_sync, store_then}
use Rattle.ufs_turns.proofs.Turning.{stop_told}
use Rattle.ufs_turns.proofs.held_store.sync_lent.Goals as goal

here : (name : ℕ) (cell : FileCell) (v : View) → IsFileIn name cell v → Has (name, cell) v.files
here name cell v file = subst (Has (name, cell)) (sym file.files) (inl refl)

pub sync_store-requires-clause-noted : goal.sync_store-requires-clause-noted
sync_store-requires-clause-noted g c =
    let f = c.requires.file in
    subst IsNoted f.3 (file_sound g.N.Naming.start c.begin_turn.result c.args.hand.now c.begin_turn.ensures.knows f.0 f.1 (here f.0 f.1 c.args.hand.now f.2) f.2.number).noted

pub sync_store-requires-clause-inode : goal.sync_store-requires-clause-inode
sync_store-requires-clause-inode g c =
    let f = c.requires.file in
    subst (λ (q : Geometry × DurableState). is_inode_number q.0 q.1.file.inode ≡ true) (λ i. (sym c.requires.store.formed i, f.3 i))
    (file_sound g.N.Naming.start c.begin_turn.result c.args.hand.now c.begin_turn.ensures.knows f.0 f.1 (here f.0 f.1 c.args.hand.now f.2) f.2.number).inode

pub sync_store-requires-clause-blocks : goal.sync_store-requires-clause-blocks
sync_store-requires-clause-blocks g c =
    let f = c.requires.file in
    let s = g.D.Door.store c.args.store.now in
    let home = c.requires.store in
    let is = c.geometry-geometry.ensures in
    let space : IsSpaceOf (geometry_of_store s) s.unassigned = record { first = is.first ∙ ap first_of_data is.is; blocks = is.blocks ∙ ap (λ (g : Geometry). g.blocks) is.is } in
    let runs : All IsRun f.1.value.dropped = subst (All IsRun) (c.as_slice-runs.ensures.items ∙ c.dropped.ensures ∙ ap (λ (q : DurableState). q.dropped) (sym f.3)) c.as_slice-runs.ensures.runs in
    (subst (MaySync s) f.3
    (may_sync g.N.Naming.start c.begin_turn.result c.args.hand.now c.begin_turn.ensures.knows f.0 f.1 (here f.0 f.1 c.args.hand.now f.2) f.2.number c.file_sync_law.ensures.may s (cell_of home.stamp home.past s) home.has refl home.formed space runs)).blocks

pub sync_store-requires-clause-dropped : goal.sync_store-requires-clause-dropped
sync_store-requires-clause-dropped g c =
    let f = c.requires.file in
    let s = g.D.Door.store c.args.store.now in
    let home = c.requires.store in
    let is = c.geometry-geometry.ensures in
    let space : IsSpaceOf (geometry_of_store s) s.unassigned = record { first = is.first ∙ ap first_of_data is.is; blocks = is.blocks ∙ ap (λ (g : Geometry). g.blocks) is.is } in
    let runs : All IsRun f.1.value.dropped = subst (All IsRun) (c.as_slice-runs.ensures.items ∙ c.dropped.ensures ∙ ap (λ (q : DurableState). q.dropped) (sym f.3)) c.as_slice-runs.ensures.runs in
    (subst (MaySync s) f.3
    (may_sync g.N.Naming.start c.begin_turn.result c.args.hand.now c.begin_turn.ensures.knows f.0 f.1 (here f.0 f.1 c.args.hand.now f.2) f.2.number c.file_sync_law.ensures.may s (cell_of home.stamp home.past s) home.has refl home.formed space runs)).dropped

pub end_turn-requires-clause-may : goal.end_turn-requires-clause-may
end_turn-requires-clause-may g c =
    let f = c.requires.file in
    let s = g.D.Door.store c.args.store.now in
    let t = g.D.Door.store c.sync_store.new.store in
    let y = state_of c.sync_store.new.file c.sync_store.new.commits in
    let has = subst (λ (x : DurableState). HasPassed g.D.Door.visible g.D.Door.keeps s t x y) (sym f.3) c.in-Ok.ensures.ok in
    commit_ends g.N.Naming.start g.N.Naming.origin g.D.Door.visible g.D.Door.keeps c.begin_turn.result c.args.hand.now c.begin_turn.new.hand s t c.begin_turn.ensures.knows f.0 f.1 f.2 c.requires.store c.begin_turn.ensures.begun (λ visible. g.met.D.Door.whole visible c.args.store.now) (λ visible. g.met.D.Door.whole visible c.sync_store.new.store) has.geometry has.sectors y has
    (subst FileCommitsMayEnd (c.geometry-geometry.ensures.is ∙ c.requires.store.formed) c.a_file_is_committed.ensures.may) f.4

pub end_turn-requires-in-Err-clause-may : goal.end_turn-requires-in-Err-clause-may
end_turn-requires-in-Err-clause-may g c =
    let f = c.requires.file in
    let s = g.D.Door.store c.args.store.now in
    let t = g.D.Door.store c.sync_store.new.store in
    let y = state_of c.sync_store.new.file c.sync_store.new.commits in
    let has = subst (λ (x : DurableState). HasNotPassed g.D.Door.visible g.D.Door.keeps s t x y (fault_of c.in-Err.fault)) (sym f.3) (c.sync_store.ensures.err c.in-Err.fault c.in-Err.is) in
    subst (λ (q : Option ℕ). MayEndTurn g.N.Naming.start.geometry g.N.Naming.start.is_visible c.begin_turn.new.hand (sync_turn g.D.Door.keeps false q y t c.begin_turn.new.hand)) (sym (told_is_same c.told_of-told.result (fault_of c.in-Err.fault) c.told_of-told.ensures.some c.told_of-told.ensures.none))
    (failure_ends g.N.Naming.start g.N.Naming.origin g.D.Door.visible g.D.Door.keeps c.begin_turn.result c.args.hand.now c.begin_turn.new.hand s t c.begin_turn.ensures.knows f.0 f.1 f.2 c.requires.store c.begin_turn.ensures.begun (λ visible. g.met.D.Door.whole visible c.args.store.now) (λ visible. g.met.D.Door.whole visible c.sync_store.new.store) has.geometry has.sectors y (fault_of c.in-Err.fault) has
    (subst FileFailuresMayEnd (c.geometry-geometry.ensures.is ∙ c.requires.store.formed) c.a_failed_commit_ends.ensures.may) f.4)

pub returns-in-Ok-clause-store : goal.returns-in-Ok-clause-store
returns-in-Ok-clause-store g c =
    let f = c.requires.file in
    let s = g.D.Door.store c.args.store.now in
    let t = g.D.Door.store c.sync_store.new.store in
    let y = state_of c.sync_store.new.file c.sync_store.new.commits in
    let has = subst (λ (x : DurableState). HasPassed g.D.Door.visible g.D.Door.keeps s t x y) (sym f.3) c.in-Ok.ensures.ok in
    let law = subst FileCommitsGoOn (c.geometry-geometry.ensures.is ∙ c.requires.store.formed) c.a_file_is_committed.ensures.on in
    store_then g.N.Naming.start g.N.Naming.origin g.D.Door.visible g.D.Door.keeps c.begin_turn.result c.args.hand.now c.begin_turn.new.hand s t c.begin_turn.ensures.knows f.0 f.1 f.2 c.requires.store c.begin_turn.ensures.begun true None y c.end_turn.result c.end_turn.new.hand c.end_turn.ensures.ended has.geometry has.sectors
    (commit_went g.N.Naming.start g.N.Naming.origin g.D.Door.visible g.D.Door.keeps c.begin_turn.result c.args.hand.now c.begin_turn.new.hand s t c.begin_turn.ensures.knows f.0 f.1 f.2 c.requires.store c.begin_turn.ensures.begun (λ visible. g.met.D.Door.whole visible c.args.store.now) (λ visible. g.met.D.Door.whole visible c.sync_store.new.store) has.geometry has.sectors y has law f.4)

pub returns-in-Err-clause-store : goal.returns-in-Err-clause-store
returns-in-Err-clause-store g c =
    let f = c.requires.file in
    let s = g.D.Door.store c.args.store.now in
    let t = g.D.Door.store c.sync_store.new.store in
    let y = state_of c.sync_store.new.file c.sync_store.new.commits in
    let has = subst (λ (x : DurableState). HasNotPassed g.D.Door.visible g.D.Door.keeps s t x y (fault_of c.in-Err.fault)) (sym f.3) (c.sync_store.ensures.err c.in-Err.fault c.in-Err.is) in
    let law = subst FileFailuresGoOn (c.geometry-geometry.ensures.is ∙ c.requires.store.formed) c.a_failed_commit_ends.ensures.on in
    store_then g.N.Naming.start g.N.Naming.origin g.D.Door.visible g.D.Door.keeps c.begin_turn.result c.args.hand.now c.begin_turn.new.hand s t c.begin_turn.ensures.knows f.0 f.1 f.2 c.requires.store c.begin_turn.ensures.begun false c.told_of-told.result y c.end_turn-in-Err.result c.end_turn-in-Err.new.hand c.end_turn-in-Err.ensures.ended has.geometry has.sectors
    (failure_went g.N.Naming.start g.N.Naming.origin g.D.Door.visible g.D.Door.keeps c.begin_turn.result c.args.hand.now c.begin_turn.new.hand s t c.begin_turn.ensures.knows f.0 f.1 f.2 c.requires.store c.begin_turn.ensures.begun (λ visible. g.met.D.Door.whole visible c.args.store.now) (λ visible. g.met.D.Door.whole visible c.sync_store.new.store) has.geometry has.sectors y (fault_of c.in-Err.fault) has law f.4)

pub returns-in-Ok-clause-ok : goal.returns-in-Ok-clause-ok
returns-in-Ok-clause-ok g c name cell file =
    let f = c.requires.file in
    let y = state_of c.sync_store.new.file c.sync_store.new.commits in
    committed_then g.N.Naming.start g.N.Naming.origin g.D.Door.visible g.D.Door.keeps c.begin_turn.result c.args.hand.now c.begin_turn.new.hand (g.D.Door.store c.args.store.now) (g.D.Door.store c.sync_store.new.store) c.begin_turn.ensures.knows name cell file c.requires.store c.begin_turn.ensures.begun y c.end_turn.new.hand c.end_turn.result c.end_turn.ensures.ended
    (ap (λ (q : DurableState). q.file.file) c.in-Ok.ensures.ok.committed ∙ ap (λ (q : DurableState). q.file.file) (sym f.3) ∙ f.2.number ∙ same f.0 f.1 name cell c.args.hand.now f.2 file)
  where
    key_of : ℕ → Rattle.std.specs.Prelude.List (ℕ × FileCell) → ℕ
    key_of d [] = d
    key_of d (x ∷ xs) = x.0

    same : (one : ℕ) (a : FileCell) (other : ℕ) (b : FileCell) (v : View) → IsFileIn one a v → IsFileIn other b v → one ≡ other
    same one a other b v x y = ap (key_of 0) (sym x.files ∙ y.files)

pub returns-in-Ok-clause-faults : goal.returns-in-Ok-clause-faults
returns-in-Ok-clause-faults g c =
    let f = c.requires.file in
    faults_then g.N.Naming.start g.N.Naming.origin g.D.Door.visible g.D.Door.keeps c.begin_turn.result c.args.hand.now c.begin_turn.new.hand (g.D.Door.store c.args.store.now) (g.D.Door.store c.sync_store.new.store) c.begin_turn.ensures.knows f.0 f.1 f.2 c.requires.store c.begin_turn.ensures.begun true None (state_of c.sync_store.new.file c.sync_store.new.commits) c.end_turn.result c.end_turn.new.hand c.end_turn.ensures.ended

pub returns-in-Err-clause-faults : goal.returns-in-Err-clause-faults
returns-in-Err-clause-faults g c =
    let f = c.requires.file in
    faults_then g.N.Naming.start g.N.Naming.origin g.D.Door.visible g.D.Door.keeps c.begin_turn.result c.args.hand.now c.begin_turn.new.hand (g.D.Door.store c.args.store.now) (g.D.Door.store c.sync_store.new.store) c.begin_turn.ensures.knows f.0 f.1 f.2 c.requires.store c.begin_turn.ensures.begun false c.told_of-told.result (state_of c.sync_store.new.file c.sync_store.new.commits) c.end_turn-in-Err.result c.end_turn-in-Err.new.hand c.end_turn-in-Err.ensures.ended
    ∙ ap (λ (q : Option ℕ). told_list q ++ c.args.hand.now.faults) (told_is_same c.told_of-told.result (fault_of c.in-Err.fault) c.told_of-told.ensures.some c.told_of-told.ensures.none)

pub returns-in-Err-clause-stop : goal.returns-in-Err-clause-stop
returns-in-Err-clause-stop g c fault is =
    let f = c.requires.file in
    stop_then g.N.Naming.start g.N.Naming.origin g.D.Door.visible g.D.Door.keeps c.begin_turn.result c.args.hand.now c.begin_turn.new.hand (g.D.Door.store c.args.store.now) (g.D.Door.store c.sync_store.new.store) c.begin_turn.ensures.knows f.0 f.1 f.2 c.requires.store c.begin_turn.ensures.begun false c.told_of-told.result (state_of c.sync_store.new.file c.sync_store.new.commits) c.end_turn-in-Err.result c.end_turn-in-Err.new.hand c.end_turn-in-Err.ensures.ended
    ∙ c.sync_store.ensures.stopped fault (c.in-Err.is ∙ is)

pub returns-in-Err-clause-stops : goal.returns-in-Err-clause-stops
returns-in-Err-clause-stops g c fault is =
    let f = c.requires.file in
    stop_then g.N.Naming.start g.N.Naming.origin g.D.Door.visible g.D.Door.keeps c.begin_turn.result c.args.hand.now c.begin_turn.new.hand (g.D.Door.store c.args.store.now) (g.D.Door.store c.sync_store.new.store) c.begin_turn.ensures.knows f.0 f.1 f.2 c.requires.store c.begin_turn.ensures.begun false c.told_of-told.result (state_of c.sync_store.new.file c.sync_store.new.commits) c.end_turn-in-Err.result c.end_turn-in-Err.new.hand c.end_turn-in-Err.ensures.ended
    ∙ stop_told (g.D.Door.store c.args.store.now).stop (g.D.Door.store c.sync_store.new.store).stop c.sync_store.result fault c.sync_store.ensures.halts c.sync_store.ensures.halted (ap (λ (r : _). fault_told (fault_in r)) c.in-Err.is ∙ is)

pub returns-in-Ok-clause-freed : goal.returns-in-Ok-clause-freed
returns-in-Ok-clause-freed g c = c.in-Ok.ensures.ok.freed

pub returns-in-Err-clause-unfreed : goal.returns-in-Err-clause-unfreed
returns-in-Err-clause-unfreed g c = ap (λ (q : Space). q.free) (c.sync_store.ensures.err c.in-Err.fault c.in-Err.is).unfreed

pub returns-in-Ok-clause-halts : goal.returns-in-Ok-clause-halts
returns-in-Ok-clause-halts g c = c.sync_store.ensures.halts ∙ ap (λ (r : _). stop_after (g.D.Door.store c.args.store.now).stop (fault_in r)) c.in-Ok.is

pub returns-in-Err-clause-halts : goal.returns-in-Err-clause-halts
returns-in-Err-clause-halts g c = c.sync_store.ensures.halts ∙ ap (λ (r : _). stop_after (g.D.Door.store c.args.store.now).stop (fault_in r)) c.in-Err.is

pub returns-in-Ok-clause-halted : goal.returns-in-Ok-clause-halted
returns-in-Ok-clause-halted g c fault is = sym c.in-Ok.is ∙ c.sync_store.ensures.halted fault is

pub returns-in-Err-clause-halted : goal.returns-in-Err-clause-halted
returns-in-Err-clause-halted g c fault is = sym c.in-Err.is ∙ c.sync_store.ensures.halted fault is

pub returns-in-Err-clause-stopped : goal.returns-in-Err-clause-stopped
returns-in-Err-clause-stopped g c fault is = c.sync_store.ensures.stopped fault (c.in-Err.is ∙ is)

pub returns-in-Ok-clause-ran : goal.returns-in-Ok-clause-ran
returns-in-Ok-clause-ran g c = subst (λ (o : Option ℕ). HasRun o 1 1 (g.D.Door.store c.args.store.now) (g.D.Door.store c.sync_store.new.store)) (ap (λ (r : _). fault_in r) c.in-Ok.is) c.sync_store.ensures.ran

pub returns-in-Err-clause-ran : goal.returns-in-Err-clause-ran
returns-in-Err-clause-ran g c = subst (λ (o : Option ℕ). HasRun o 1 1 (g.D.Door.store c.args.store.now) (g.D.Door.store c.sync_store.new.store)) (ap (λ (r : _). fault_in r) c.in-Err.is) c.sync_store.ensures.ran
