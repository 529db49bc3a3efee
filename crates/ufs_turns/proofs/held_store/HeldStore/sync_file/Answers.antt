use Rattle.ufs_bitmap.specs.Taking.{set_of}
use Rattle.ufs_bitmap.specs.Blocks.{BlockSet}
use Rattle.std.specs.FinSet as set
use Rattle.std.specs.Prelude.{OnErr, OnOk, Result, Ok, Err}
use Rattle.std.proofs.Common.{◌≡◌, ℕ, ◌∙◌, ◌++◌, List, ap, sym}
use Rattle.ufs_joint.specs.Disks.{cell_of}
use Rattle.ufs_store.specs.declared.fault.StoreFault.{StoreFault}
use Rattle.ufs_store.specs.Refusals.{fault_in}
use Rattle.ufs_turns.specs.Lent.{stop_in}
use Rattle.ufs_turns.specs.Told.{fault_told, told_list}
use Rattle.ufs_turns.proofs.FreeBlocks.{in_cells, run_behind, stop_before, stop_behind}
use Rattle.ufs_turns.proofs.held_store.HeldStore.sync_file.Goals as goal

pub invariant_of-self : goal.invariant_of-self
invariant_of-self g c =
    let t = g.D.Door.store c.sync_lent-synced.new.store in
    let st = c.sync_lent-synced.ensures.store in
    let alone = c.give_back.ensures.home (cell_of st.stamp st.past t) st.has in
    (c.self.invariant.0, record { cell = cell_of st.stamp st.past t; alone = alone; store = record { stamp = st.stamp; past = st.past; has = alone.store; sees = st.sees; formed = st.formed; size = st.size; grown = st.grown; since = st.since; covers = st.covers; passes = st.passes } })

on_ok : {A B : Type 0} (r : Result ℕ StoreFault) → (A → B) → OnOk r A → OnOk r B
on_ok (Ok n) f a = f a
on_ok (Err e) f a = tt

pub returns-clause-ok : goal.returns-clause-ok
returns-clause-ok g c = on_ok c.sync_lent-synced.result
    (λ all name cell lends.
    let h = all name cell (record { files = c.lend.ensures.files ∙ lends.file.files; names = c.lend.ensures.names ∙ lends.file.names; number = lends.file.number }) in
    record { known = h.known; file = record { files = c.give_back.ensures.files ∙ h.file.files; names = c.give_back.ensures.names ∙ h.file.names; number = h.file.number }; all = h.all })
    c.sync_lent-synced.ensures.ok

pub returns-clause-faults : goal.returns-clause-faults
returns-clause-faults g c = c.give_back.ensures.faults ∙ c.sync_lent-synced.ensures.faults ∙ ap (λ (xs : List ℕ). told_list (fault_told (fault_in c.sync_lent-synced.result)) ++ xs) c.lend.ensures.faults

pub returns-clause-stop : goal.returns-clause-stop
returns-clause-stop g c fault is = c.give_back.ensures.stop ∙ c.sync_lent-synced.ensures.stop fault is

pub returns-clause-stops : goal.returns-clause-stops
returns-clause-stops g c fault is = c.give_back.ensures.stop ∙ c.sync_lent-synced.ensures.stops fault is

pub returns-clause-freed : goal.returns-clause-freed
returns-clause-freed g c =
    let t = g.D.Door.store c.sync_lent-synced.new.store in
    let st = c.sync_lent-synced.ensures.store in
    let alone = c.give_back.ensures.home (cell_of st.stamp st.past t) st.has in
    in_cells g.N.Naming.start g.N.Naming.origin g.D.Door.visible g.D.Door.keeps c.self.inside.hand c.give_back.new.own c.args.self.now (g.D.Door.store c.self.inside.store) c.self.invariant.1 c.self.view_is (cell_of st.stamp st.past t) alone
    (λ (had has : BlockSet). OnOk c.sync_lent-synced.result (has ≡ set.union had (set_of c.args.commits.now.dropped))) c.sync_lent-synced.ensures.freed

pub returns-clause-unfreed : goal.returns-clause-unfreed
returns-clause-unfreed g c =
    let t = g.D.Door.store c.sync_lent-synced.new.store in
    let st = c.sync_lent-synced.ensures.store in
    let alone = c.give_back.ensures.home (cell_of st.stamp st.past t) st.has in
    in_cells g.N.Naming.start g.N.Naming.origin g.D.Door.visible g.D.Door.keeps c.self.inside.hand c.give_back.new.own c.args.self.now (g.D.Door.store c.self.inside.store) c.self.invariant.1 c.self.view_is (cell_of st.stamp st.past t) alone
    (λ (had has : BlockSet). OnErr c.sync_lent-synced.result (has ≡ had)) c.sync_lent-synced.ensures.unfreed

pub returns-clause-halts : goal.returns-clause-halts
returns-clause-halts g c =
    let t = g.D.Door.store c.sync_lent-synced.new.store in
    let st = c.sync_lent-synced.ensures.store in
    let alone = c.give_back.ensures.home (cell_of st.stamp st.past t) st.has in
    stop_behind g.N.Naming.start g.N.Naming.origin g.D.Door.visible g.D.Door.keeps c.self.inside.hand c.give_back.new.own c.args.self.now (g.D.Door.store c.self.inside.store) c.self.invariant.1 c.self.view_is (cell_of st.stamp st.past t) (fault_in c.sync_lent-synced.result) alone c.sync_lent-synced.ensures.halts

pub returns-clause-halted : goal.returns-clause-halted
returns-clause-halted g c fault is =
    c.sync_lent-synced.ensures.halted fault (sym (stop_before g.N.Naming.start g.N.Naming.origin g.D.Door.visible g.D.Door.keeps c.self.inside.hand c.give_back.new.own c.args.self.now (g.D.Door.store c.self.inside.store) c.self.invariant.1 c.self.view_is) ∙ is)

pub returns-clause-stopped : goal.returns-clause-stopped
returns-clause-stopped g c fault is =
    let t = g.D.Door.store c.sync_lent-synced.new.store in
    let st = c.sync_lent-synced.ensures.store in
    let alone = c.give_back.ensures.home (cell_of st.stamp st.past t) st.has in
    ap stop_in alone.store ∙ c.sync_lent-synced.ensures.stopped fault is

pub returns-clause-ran : goal.returns-clause-ran
returns-clause-ran g c =
    let t = g.D.Door.store c.sync_lent-synced.new.store in
    let st = c.sync_lent-synced.ensures.store in
    let alone = c.give_back.ensures.home (cell_of st.stamp st.past t) st.has in
    run_behind g.N.Naming.start g.N.Naming.origin g.D.Door.visible g.D.Door.keeps c.self.inside.hand c.give_back.new.own c.args.self.now (g.D.Door.store c.self.inside.store) c.self.invariant.1 c.self.view_is st.stamp st.past t alone (fault_in c.sync_lent-synced.result) 1 1 c.sync_lent-synced.ensures.ran
