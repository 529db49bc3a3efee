use Rattle.std.proofs.Common.{◌≡◌, ◌++◌, ℕ, List, Option, Some, true, false, length, sym, subst, ap, refl, ◌∙◌}
use Rattle.std.specs.List.{slice_get}
use Rattle.ufs_file.specs.Content.{IsContentOf}
use Rattle.std.specs.Prelude.{All}
use Rattle.ufs_extent.specs.Runs.{IsRun}
use Rattle.ufs_file_commits.specs.State.{DurableState, state_of}
use Rattle.ufs_joint.specs.Disks.{cell_of}
use Rattle.ufs_joint.specs.FileHands.{FileFetchesGoOn, FileFetchesMayEnd, IsFurther}
use Rattle.ufs_layout.specs.Areas.{first_of_data}
use Rattle.ufs_layout.specs.declared.geometry.Geometry.{Geometry}
use Rattle.ufs_promise_laws.specs.Fetches.{IsFetched}
use Rattle.ufs_promise_laws.specs.Syncs.{IsSpaceOf, MaySync}
use Rattle.ufs_joint.specs.Turns.{MayEndTurn}
use Rattle.ufs_store.specs.Refusals.{fault_in}
use Rattle.ufs_store.specs.State.{StoreState, geometry_of_store}
use Rattle.ufs_turns.specs.HeldStore.{sync_turn}
use Rattle.ufs_turns.specs.Told.{told_list}
use Rattle.ufs_turns.proofs.FreeBlocks.{none_raised}
use Rattle.ufs_turns.proofs.Syncing.{faults_then, told_is_same, fetch_ends, fetch_went, file_here, further, may_sync, store_then}
use Rattle.ufs_turns.proofs.held_store.fetch_lent.Goals as goal

pub fetch-read-requires : goal.fetch-read-requires
fetch-read-requires g c =
    let f = c.requires.file in
    let s = g.D.Door.store c.args.store.now in
    let home = c.requires.store in
    let is = c.geometry-geometry.ensures in
    let space : IsSpaceOf (geometry_of_store s) s.unassigned = record { first = is.first ∙ ap first_of_data is.is; blocks = is.blocks ∙ ap (λ (g : Geometry). g.blocks) is.is } in
    let runs : All IsRun f.1.value.dropped = subst (All IsRun) (c.as_slice-runs.ensures.items ∙ c.dropped.ensures ∙ ap (λ (q : DurableState). q.dropped) (sym f.3)) c.as_slice-runs.ensures.runs in
    record {
      blocks = (subst (MaySync s) f.3
          (may_sync g.N.Naming.start c.begin_turn.result c.args.hand.now c.begin_turn.ensures.knows f.0 f.1 (file_here f.0 f.1 c.args.hand.now f.2) f.2.number c.file_sync_law.ensures.may s (cell_of home.stamp home.past s) home.has refl home.formed space runs)).blocks;
    }

pub end_turn-requires-clause-may : goal.end_turn-requires-clause-may
end_turn-requires-clause-may g c =
    let f = c.requires.file in
    let s = g.D.Door.store c.args.store.now in
    let t = g.D.Door.store c.fetch-read.new.door in
    let y = state_of c.fetch-read.new.hand c.args.commits.now in
    let e = c.fetch-read.ensures in
    let x = state_of c.args.file.now c.args.commits.now in
    let told : IsFetched g.D.Door.visible g.D.Door.keeps s t x.file y.file = record { rest = e.rest; noted = e.noted; read = e.read; crash = e.crash; on_disk = e.on_disk; ledger = e.ledger; store = e.store } in
    let has = subst (λ (q : DurableState). IsFetched g.D.Door.visible g.D.Door.keeps s t q.file y.file) (sym f.3) told in
    let noted = has.noted in
    let more : IsFurther f.1.value.file y.file =
    further g.N.Naming.start c.begin_turn.result c.args.hand.now c.begin_turn.ensures.knows f.0 f.1 (file_here f.0 f.1 c.args.hand.now f.2) f.2.number y.file has.rest noted (e.still ∙ ap (λ (q : DurableState). length q.file.content.bytes) (sym f.3))
    (subst (λ (q : DurableState). (place : ℕ) → slice_get q.file.content.there place ≡ Some true → slice_get y.file.content.there place ≡ Some true) (sym f.3) e.kept)
    (subst (λ (q : DurableState). (bytes : List ℕ) → IsContentOf y.file.content bytes → IsContentOf q.file.content bytes) (sym f.3) e.fewer) in
    let same : y ≡ record (f.1.value) { file = y.file } = ap (λ (q : DurableState). record q { file = y.file }) (sym f.3) in
    subst (λ (q : Option ℕ). MayEndTurn g.N.Naming.start.geometry g.N.Naming.start.is_visible c.begin_turn.new.hand (sync_turn g.D.Door.keeps false q y t c.begin_turn.new.hand)) (sym (told_is_same c.told_by-told.result (fault_in c.fetch-read.result) c.told_by-told.ensures.some c.told_by-told.ensures.none))
    (fetch_ends g.N.Naming.start g.N.Naming.origin g.D.Door.visible g.D.Door.keeps c.begin_turn.result c.args.hand.now c.begin_turn.new.hand s t c.begin_turn.ensures.knows f.0 f.1 f.2 c.requires.store c.begin_turn.ensures.begun (λ visible. g.met.D.Door.whole visible c.args.store.now) (λ visible. g.met.D.Door.whole visible c.fetch-read.new.door)
    (ap geometry_of_store e.store) (ap (λ (q : StoreState). q.sectors) e.store) y (fault_in c.fetch-read.result) e.cause has more same (subst FileFetchesMayEnd (c.geometry-geometry.ensures.is ∙ c.requires.store.formed) c.a_file_is_fetched.ensures.may))

pub returns-clause-store : goal.returns-clause-store
returns-clause-store g c =
    let f = c.requires.file in
    let s = g.D.Door.store c.args.store.now in
    let t = g.D.Door.store c.fetch-read.new.door in
    let y = state_of c.fetch-read.new.hand c.args.commits.now in
    let e = c.fetch-read.ensures in
    let x = state_of c.args.file.now c.args.commits.now in
    let told : IsFetched g.D.Door.visible g.D.Door.keeps s t x.file y.file = record { rest = e.rest; noted = e.noted; read = e.read; crash = e.crash; on_disk = e.on_disk; ledger = e.ledger; store = e.store } in
    let has = subst (λ (q : DurableState). IsFetched g.D.Door.visible g.D.Door.keeps s t q.file y.file) (sym f.3) told in
    let noted = has.noted in
    let more : IsFurther f.1.value.file y.file =
    further g.N.Naming.start c.begin_turn.result c.args.hand.now c.begin_turn.ensures.knows f.0 f.1 (file_here f.0 f.1 c.args.hand.now f.2) f.2.number y.file has.rest noted (e.still ∙ ap (λ (q : DurableState). length q.file.content.bytes) (sym f.3))
    (subst (λ (q : DurableState). (place : ℕ) → slice_get q.file.content.there place ≡ Some true → slice_get y.file.content.there place ≡ Some true) (sym f.3) e.kept)
    (subst (λ (q : DurableState). (bytes : List ℕ) → IsContentOf y.file.content bytes → IsContentOf q.file.content bytes) (sym f.3) e.fewer) in
    let same : y ≡ record (f.1.value) { file = y.file } = ap (λ (q : DurableState). record q { file = y.file }) (sym f.3) in
    let law = subst FileFetchesGoOn (c.geometry-geometry.ensures.is ∙ c.requires.store.formed) c.a_file_is_fetched.ensures.on in
    store_then g.N.Naming.start g.N.Naming.origin g.D.Door.visible g.D.Door.keeps c.begin_turn.result c.args.hand.now c.begin_turn.new.hand s t c.begin_turn.ensures.knows f.0 f.1 f.2 c.requires.store c.begin_turn.ensures.begun false c.told_by-told.result y c.end_turn.result c.end_turn.new.hand c.end_turn.ensures.ended
    (ap geometry_of_store e.store) (ap (λ (q : StoreState). q.sectors) e.store)
    (λ seen. fetch_went g.N.Naming.start g.N.Naming.origin g.D.Door.visible g.D.Door.keeps c.begin_turn.result c.args.hand.now c.begin_turn.new.hand s t c.begin_turn.ensures.knows f.0 f.1 f.2 c.requires.store c.begin_turn.ensures.begun (λ visible. g.met.D.Door.whole visible c.args.store.now) (λ visible. g.met.D.Door.whole visible c.fetch-read.new.door)
    (ap geometry_of_store e.store) (ap (λ (q : StoreState). q.sectors) e.store) y (fault_in c.fetch-read.result) e.cause has more same law seen)

pub returns-clause-faults : goal.returns-clause-faults
returns-clause-faults g c =
    let f = c.requires.file in
    faults_then g.N.Naming.start g.N.Naming.origin g.D.Door.visible g.D.Door.keeps c.begin_turn.result c.args.hand.now c.begin_turn.new.hand (g.D.Door.store c.args.store.now) (g.D.Door.store c.fetch-read.new.door) c.begin_turn.ensures.knows f.0 f.1 f.2 c.requires.store c.begin_turn.ensures.begun false c.told_by-told.result (state_of c.fetch-read.new.hand c.args.commits.now) c.end_turn.result c.end_turn.new.hand c.end_turn.ensures.ended
    ∙ ap (λ (q : Option ℕ). told_list q ++ c.args.hand.now.faults) (told_is_same c.told_by-told.result (fault_in c.fetch-read.result) c.told_by-told.ensures.some c.told_by-told.ensures.none)

pub returns-clause-nothing : goal.returns-clause-nothing
returns-clause-nothing g c there = (let e = c.fetch-read.ensures.nothing there in (e.0, e.2))

pub returns-clause-free : goal.returns-clause-free
returns-clause-free g c = ap (λ (q : StoreState). q.unassigned.free) c.fetch-read.ensures.store

pub returns-clause-ran : goal.returns-clause-ran
returns-clause-ran g c =
    let s = g.D.Door.store c.args.store.now in
    let t = g.D.Door.store c.fetch-read.new.door in
    let is = c.fetch-read.ensures.store in
    record { count = c.fetch-read.ensures.cause; raised = none_raised s t (ap (λ (q : StoreState). q.superblock) is) (ap (λ (q : StoreState). q.journal) is) }

pub returns-clause-rests : goal.returns-clause-rests
returns-clause-rests g c = ap (λ (q : StoreState). q.stop) c.fetch-read.ensures.store
