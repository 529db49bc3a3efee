use Rattle.ufs_turns.specs.Lent.{GainsBlocks, LacksBlocks}
use Rattle.ufs_bitmap.specs.Blocks.{BlockSet}
use Rattle.std.specs.FinSet as set
use Rattle.std.specs.Prelude.{IfErr, OnErr, OnOk}
use Rattle.std.proofs.Common.{◌≡◌, None}
use Rattle.ufs_joint.specs.Disks.{cell_of}
use Rattle.ufs_turns.proofs.FreeBlocks.{in_cells, run_behind, stop_rests}
use Rattle.ufs_turns.proofs.held_store.HeldStore.give_pool.Goals as goal

pub invariant_of-self : goal.invariant_of-self
invariant_of-self g c =
    let t = g.D.Door.store c.give_lent-given.new.store in
    let st = c.give_lent-given.ensures.store in
    let alone = c.give_back.ensures.home (cell_of st.stamp st.past t) st.has in
    (c.self.invariant.0, record { cell = cell_of st.stamp st.past t; alone = alone; store = record { stamp = st.stamp; past = st.past; has = alone.store; sees = st.sees; formed = st.formed; size = st.size; grown = st.grown; since = st.since; covers = st.covers; passes = st.passes } })

pub returns-clause-given : goal.returns-clause-given
returns-clause-given g c =
    let t = g.D.Door.store c.give_lent-given.new.store in
    let st = c.give_lent-given.ensures.store in
    let alone = c.give_back.ensures.home (cell_of st.stamp st.past t) st.has in
    in_cells g.N.Naming.start g.N.Naming.origin g.D.Door.visible g.D.Door.keeps c.self.inside.hand c.give_back.new.own c.args.self.now (g.D.Door.store c.self.inside.store) c.self.invariant.1 c.self.view_is (cell_of st.stamp st.past t) alone
    (λ (had left : BlockSet). OnOk c.give_lent-given.result (GainsBlocks c.args.missing had left c.args.pool.now c.give_lent-given.new.pool)) c.give_lent-given.ensures.given

pub returns-clause-lacks : goal.returns-clause-lacks
returns-clause-lacks g c =
    let t = g.D.Door.store c.give_lent-given.new.store in
    let st = c.give_lent-given.ensures.store in
    let alone = c.give_back.ensures.home (cell_of st.stamp st.past t) st.has in
    in_cells g.N.Naming.start g.N.Naming.origin g.D.Door.visible g.D.Door.keeps c.self.inside.hand c.give_back.new.own c.args.self.now (g.D.Door.store c.self.inside.store) c.self.invariant.1 c.self.view_is (cell_of st.stamp st.past t) alone
    (λ (had left : BlockSet). IfErr c.give_lent-given.result (LacksBlocks c.args.missing (set.len had))) c.give_lent-given.ensures.lacks

pub returns-clause-same : goal.returns-clause-same
returns-clause-same g c =
    let t = g.D.Door.store c.give_lent-given.new.store in
    let st = c.give_lent-given.ensures.store in
    let alone = c.give_back.ensures.home (cell_of st.stamp st.past t) st.has in
    in_cells g.N.Naming.start g.N.Naming.origin g.D.Door.visible g.D.Door.keeps c.self.inside.hand c.give_back.new.own c.args.self.now (g.D.Door.store c.self.inside.store) c.self.invariant.1 c.self.view_is (cell_of st.stamp st.past t) alone
    (λ (had left : BlockSet). OnErr c.give_lent-given.result (left ≡ had)) c.give_lent-given.ensures.same

pub returns-clause-ran : goal.returns-clause-ran
returns-clause-ran g c =
    let t = g.D.Door.store c.give_lent-given.new.store in
    let st = c.give_lent-given.ensures.store in
    let alone = c.give_back.ensures.home (cell_of st.stamp st.past t) st.has in
    run_behind g.N.Naming.start g.N.Naming.origin g.D.Door.visible g.D.Door.keeps c.self.inside.hand c.give_back.new.own c.args.self.now (g.D.Door.store c.self.inside.store) c.self.invariant.1 c.self.view_is st.stamp st.past t alone None 0 0 c.give_lent-given.ensures.ran

pub returns-clause-rests : goal.returns-clause-rests
returns-clause-rests g c =
    let t = g.D.Door.store c.give_lent-given.new.store in
    let st = c.give_lent-given.ensures.store in
    let alone = c.give_back.ensures.home (cell_of st.stamp st.past t) st.has in
    stop_rests g.N.Naming.start g.N.Naming.origin g.D.Door.visible g.D.Door.keeps c.self.inside.hand c.give_back.new.own c.args.self.now (g.D.Door.store c.self.inside.store) c.self.invariant.1 c.self.view_is (cell_of st.stamp st.past t) alone c.give_lent-given.ensures.rests
