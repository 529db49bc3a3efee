use Rattle.ufs_bitmap.specs.Blocks.{BlockSet}
use Rattle.std.proofs.Common.{◌≡◌, ℕ, ◌∙◌, ◌++◌, List, ap}
use Rattle.ufs_joint.specs.Disks.{cell_of}
use Rattle.ufs_store.specs.Refusals.{fault_in}
use Rattle.ufs_turns.specs.Told.{fault_told, told_list}
use Rattle.ufs_turns.proofs.FreeBlocks.{in_cells, run_behind, stop_rests}
use Rattle.ufs_turns.proofs.held_store.HeldStore.fetch.Goals as goal

pub invariant_of-self : goal.invariant_of-self
invariant_of-self g c =
    let t = g.D.Door.store c.fetch_lent-read.new.store in
    let st = c.fetch_lent-read.ensures.store in
    let alone = c.give_back.ensures.home (cell_of st.stamp st.past t) st.has in
    (c.self.invariant.0, record { cell = cell_of st.stamp st.past t; alone = alone; store = record { stamp = st.stamp; past = st.past; has = alone.store; sees = st.sees; formed = st.formed; size = st.size; grown = st.grown; since = st.since; covers = st.covers; passes = st.passes } })

pub returns-clause-faults : goal.returns-clause-faults
returns-clause-faults g c = c.give_back.ensures.faults ∙ c.fetch_lent-read.ensures.faults ∙ ap (λ (xs : List ℕ). told_list (fault_told (fault_in c.fetch_lent-read.result)) ++ xs) c.lend.ensures.faults

pub returns-clause-free : goal.returns-clause-free
returns-clause-free g c =
    let t = g.D.Door.store c.fetch_lent-read.new.store in
    let st = c.fetch_lent-read.ensures.store in
    let alone = c.give_back.ensures.home (cell_of st.stamp st.past t) st.has in
    in_cells g.N.Naming.start g.N.Naming.origin g.D.Door.visible g.D.Door.keeps c.self.inside.hand c.give_back.new.own c.args.self.now (g.D.Door.store c.self.inside.store) c.self.invariant.1 c.self.view_is (cell_of st.stamp st.past t) alone
    (λ (had has : BlockSet). has ≡ had) c.fetch_lent-read.ensures.free

pub returns-clause-ran : goal.returns-clause-ran
returns-clause-ran g c =
    let t = g.D.Door.store c.fetch_lent-read.new.store in
    let st = c.fetch_lent-read.ensures.store in
    let alone = c.give_back.ensures.home (cell_of st.stamp st.past t) st.has in
    run_behind g.N.Naming.start g.N.Naming.origin g.D.Door.visible g.D.Door.keeps c.self.inside.hand c.give_back.new.own c.args.self.now (g.D.Door.store c.self.inside.store) c.self.invariant.1 c.self.view_is st.stamp st.past t alone (fault_in c.fetch_lent-read.result) 0 0 c.fetch_lent-read.ensures.ran

pub returns-clause-rests : goal.returns-clause-rests
returns-clause-rests g c =
    let t = g.D.Door.store c.fetch_lent-read.new.store in
    let st = c.fetch_lent-read.ensures.store in
    let alone = c.give_back.ensures.home (cell_of st.stamp st.past t) st.has in
    stop_rests g.N.Naming.start g.N.Naming.origin g.D.Door.visible g.D.Door.keeps c.self.inside.hand c.give_back.new.own c.args.self.now (g.D.Door.store c.self.inside.store) c.self.invariant.1 c.self.view_is (cell_of st.stamp st.past t) alone c.fetch_lent-read.ensures.rests
