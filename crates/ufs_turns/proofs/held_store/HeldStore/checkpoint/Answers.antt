use Rattle.ufs_bitmap.specs.Blocks.{BlockSet}
use Rattle.std.proofs.Common.{◌≡◌, ℕ, ◌∙◌, ◌++◌, List, ap, sym}
use Rattle.std.specs.Prelude.{OnOk, Result, Ok, Err}
use Rattle.ufs_joint.specs.Disks.{cell_of}
use Rattle.ufs_store.specs.Refusals.{fault_in}
use Rattle.ufs_store.specs.declared.fault.StoreFault.{StoreFault}
use Rattle.ufs_turns.specs.Lent.{stop_in, used_in}
use Rattle.ufs_turns.specs.Told.{fault_told, told_list}
use Rattle.ufs_turns.proofs.FreeBlocks.{in_cells, run_behind, stop_before, stop_behind}
use Rattle.ufs_turns.proofs.held_store.HeldStore.checkpoint.Goals as goal

pub invariant_of-self : goal.invariant_of-self
invariant_of-self g c =
    let t = g.D.Door.store c.checkpoint_lent-made.new.store in
    let st = c.checkpoint_lent-made.ensures.store in
    let alone = c.give_back.ensures.home (cell_of st.stamp st.past t) st.has in
    (c.self.invariant.0, record { cell = cell_of st.stamp st.past t; alone = alone; store = record { stamp = st.stamp; past = st.past; has = alone.store; sees = st.sees; formed = st.formed; size = st.size; grown = st.grown; since = st.since; covers = st.covers; passes = st.passes } })

pub returns-clause-faults : goal.returns-clause-faults
returns-clause-faults g c = c.give_back.ensures.faults ∙ c.checkpoint_lent-made.ensures.faults ∙ ap (λ (xs : List ℕ). told_list (fault_told (fault_in c.checkpoint_lent-made.result)) ++ xs) c.lend.ensures.faults

pub returns-clause-stop : goal.returns-clause-stop
returns-clause-stop g c fault is = c.give_back.ensures.stop ∙ c.checkpoint_lent-made.ensures.stop fault is

on_ok : {A B : Type 0} (r : Result (Unit {0}) StoreFault) → (A → B) → OnOk r A → OnOk r B
on_ok (Ok x) f a = f a
on_ok (Err e) f a = tt

pub returns-clause-emptied : goal.returns-clause-emptied
returns-clause-emptied g c =
    let t = g.D.Door.store c.checkpoint_lent-made.new.store in
    let st = c.checkpoint_lent-made.ensures.store in
    let alone = c.give_back.ensures.home (cell_of st.stamp st.past t) st.has in
    on_ok c.checkpoint_lent-made.result (λ used. ap used_in alone.store ∙ used) c.checkpoint_lent-made.ensures.room

pub returns-clause-free : goal.returns-clause-free
returns-clause-free g c =
    let t = g.D.Door.store c.checkpoint_lent-made.new.store in
    let st = c.checkpoint_lent-made.ensures.store in
    let alone = c.give_back.ensures.home (cell_of st.stamp st.past t) st.has in
    in_cells g.N.Naming.start g.N.Naming.origin g.D.Door.visible g.D.Door.keeps c.self.inside.hand c.give_back.new.own c.args.self.now (g.D.Door.store c.self.inside.store) c.self.invariant.1 c.self.view_is (cell_of st.stamp st.past t) alone
    (λ (had has : BlockSet). has ≡ had) c.checkpoint_lent-made.ensures.free

pub returns-clause-halts : goal.returns-clause-halts
returns-clause-halts g c =
    let t = g.D.Door.store c.checkpoint_lent-made.new.store in
    let st = c.checkpoint_lent-made.ensures.store in
    let alone = c.give_back.ensures.home (cell_of st.stamp st.past t) st.has in
    stop_behind g.N.Naming.start g.N.Naming.origin g.D.Door.visible g.D.Door.keeps c.self.inside.hand c.give_back.new.own c.args.self.now (g.D.Door.store c.self.inside.store) c.self.invariant.1 c.self.view_is (cell_of st.stamp st.past t) (fault_in c.checkpoint_lent-made.result) alone c.checkpoint_lent-made.ensures.halts

pub returns-clause-halted : goal.returns-clause-halted
returns-clause-halted g c fault is =
    c.checkpoint_lent-made.ensures.halted fault (sym (stop_before g.N.Naming.start g.N.Naming.origin g.D.Door.visible g.D.Door.keeps c.self.inside.hand c.give_back.new.own c.args.self.now (g.D.Door.store c.self.inside.store) c.self.invariant.1 c.self.view_is) ∙ is)

pub returns-clause-stopped : goal.returns-clause-stopped
returns-clause-stopped g c fault is =
    let t = g.D.Door.store c.checkpoint_lent-made.new.store in
    let st = c.checkpoint_lent-made.ensures.store in
    let alone = c.give_back.ensures.home (cell_of st.stamp st.past t) st.has in
    ap stop_in alone.store ∙ c.checkpoint_lent-made.ensures.stopped fault is

pub returns-clause-ran : goal.returns-clause-ran
returns-clause-ran g c =
    let t = g.D.Door.store c.checkpoint_lent-made.new.store in
    let st = c.checkpoint_lent-made.ensures.store in
    let alone = c.give_back.ensures.home (cell_of st.stamp st.past t) st.has in
    run_behind g.N.Naming.start g.N.Naming.origin g.D.Door.visible g.D.Door.keeps c.self.inside.hand c.give_back.new.own c.args.self.now (g.D.Door.store c.self.inside.store) c.self.invariant.1 c.self.view_is st.stamp st.past t alone (fault_in c.checkpoint_lent-made.result) 1 0 c.checkpoint_lent-made.ensures.ran
