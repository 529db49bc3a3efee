use Rattle.ufs_bitmap.specs.Blocks.{BlockSet}
use Rattle.std.proofs.Common.{◌≡◌, None, refl, sym, ◌∙◌}
use Rattle.ufs_joint.specs.Disks.{cell_of}
use Rattle.ufs_turns.proofs.FreeBlocks.{in_cells, none_raised, run_behind, stop_before, stop_rests}
use Rattle.ufs_turns.proofs.held_store.HeldStore.stopped.Goals as goal

pub invariant_of-self : goal.invariant_of-self
invariant_of-self g c =
    let t = g.D.Door.store c.self.inside.store in
    let st = c.stop_lent-stop.ensures.store in
    let alone = c.give_back.ensures.home (cell_of st.stamp st.past t) st.has in
    (c.self.invariant.0, record { cell = cell_of st.stamp st.past t; alone = alone; store = record { stamp = st.stamp; past = st.past; has = alone.store; sees = st.sees; formed = st.formed; size = st.size; grown = st.grown; since = st.since; covers = st.covers; passes = st.passes } })

pub returns-clause-told : goal.returns-clause-told
returns-clause-told g c = c.stop_lent-stop.ensures.told ∙ sym (stop_before g.N.Naming.start g.N.Naming.origin g.D.Door.visible g.D.Door.keeps c.self.inside.hand c.give_back.new.own c.args.self.now (g.D.Door.store c.self.inside.store) c.self.invariant.1 c.self.view_is)

pub returns-clause-stop : goal.returns-clause-stop
returns-clause-stop g c = c.give_back.ensures.stop ∙ c.stop_lent-stop.ensures.stop ∙ sym c.stop_lent-stop.ensures.told

pub returns-clause-faults : goal.returns-clause-faults
returns-clause-faults g c = c.give_back.ensures.faults ∙ c.stop_lent-stop.ensures.faults ∙ c.lend.ensures.faults

pub returns-clause-free : goal.returns-clause-free
returns-clause-free g c =
    let t = g.D.Door.store c.self.inside.store in
    let st = c.stop_lent-stop.ensures.store in
    let alone = c.give_back.ensures.home (cell_of st.stamp st.past t) st.has in
    in_cells g.N.Naming.start g.N.Naming.origin g.D.Door.visible g.D.Door.keeps c.self.inside.hand c.give_back.new.own c.args.self.now (g.D.Door.store c.self.inside.store) c.self.invariant.1 c.self.view_is (cell_of st.stamp st.past t) alone
    (λ (had has : BlockSet). has ≡ had) refl

pub returns-clause-ran : goal.returns-clause-ran
returns-clause-ran g c =
    let t = g.D.Door.store c.self.inside.store in
    let st = c.stop_lent-stop.ensures.store in
    let alone = c.give_back.ensures.home (cell_of st.stamp st.past t) st.has in
    run_behind g.N.Naming.start g.N.Naming.origin g.D.Door.visible g.D.Door.keeps c.self.inside.hand c.give_back.new.own c.args.self.now (g.D.Door.store c.self.inside.store) c.self.invariant.1 c.self.view_is st.stamp st.past t alone None 0 0 (record { count = refl; raised = none_raised t t refl refl })

pub returns-clause-rests : goal.returns-clause-rests
returns-clause-rests g c =
    let t = g.D.Door.store c.self.inside.store in
    let st = c.stop_lent-stop.ensures.store in
    let alone = c.give_back.ensures.home (cell_of st.stamp st.past t) st.has in
    stop_rests g.N.Naming.start g.N.Naming.origin g.D.Door.visible g.D.Door.keeps c.self.inside.hand c.give_back.new.own c.args.self.now (g.D.Door.store c.self.inside.store) c.self.invariant.1 c.self.view_is (cell_of st.stamp st.past t) alone refl
