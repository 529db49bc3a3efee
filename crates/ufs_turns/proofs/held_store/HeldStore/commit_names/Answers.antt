use Rattle.std.proofs.Common.{◌≡◌, ℕ, true, ◌∙◌, ◌++◌, List, ap, sym, arith}
use Rattle.std.specs.Prelude.{OnErr, OnOk, Result, Ok, Err}
use Rattle.ufs_bitmap.specs.Blocks.{BlockSet}
use Rattle.ufs_joint.specs.Disks.{cell_of}
use Rattle.ufs_store.specs.Refusals.{fault_in}
use Rattle.ufs_store.specs.declared.fault.StoreFault.{StoreFault}
use Rattle.ufs_turns.specs.Lent.{stop_in}
use Rattle.ufs_turns.specs.Told.{fault_told, told_list}
use Rattle.ufs_turns.proofs.FreeBlocks.{in_cells, run_behind, stop_before, stop_behind}
use Rattle.ufs_turns.proofs.held_store.HeldStore.commit_names.Goals as goal

pub commit_lent-committed-requires-clause-names : goal.commit_lent-committed-requires-clause-names
commit_lent-committed-requires-clause-names g c =
    let f = c.requires.lent in (
      f.0,
      record {
        files = c.lend.ensures.files ∙ f.1.names.files;
        names = c.lend.ensures.names ∙ f.1.names.names;
      },
      f.2,
      f.3,
    )

pub invariant_of-self : goal.invariant_of-self
invariant_of-self g c =
    let t = g.D.Door.store c.commit_lent-committed.new.store in
    let st = c.commit_lent-committed.ensures.store in
    let alone = c.give_back.ensures.home (cell_of st.stamp st.past t) st.has in
    (c.self.invariant.0, record { cell = cell_of st.stamp st.past t; alone = alone; store = record { stamp = st.stamp; past = st.past; has = alone.store; sees = st.sees; formed = st.formed; size = st.size; grown = st.grown; since = st.since; covers = st.covers; passes = st.passes } })

on_ok : {A B : Type 0} (r : Result (Unit {0}) StoreFault) → (A → B) → OnOk r A → OnOk r B
on_ok (Ok x) f a = f a
on_ok (Err e) f a = tt

on_err : {A B : Type 0} (r : Result (Unit {0}) StoreFault) → (A → B) → OnErr r A → OnErr r B
on_err (Ok x) f a = tt
on_err (Err e) f a = f a

pub returns-clause-ok : goal.returns-clause-ok
returns-clause-ok g c = on_ok c.commit_lent-committed.result
    (λ all cell lends.
    let h = all cell (record { files = c.lend.ensures.files ∙ lends.names.files; names = c.lend.ensures.names ∙ lends.names.names }) in
    record {
      known = h.known;
      names = record {
        files = c.give_back.ensures.files ∙ h.names.files;
        names = c.give_back.ensures.names ∙ h.names.names;
      };
      all = h.all;
    })
    c.commit_lent-committed.ensures.ok

pub returns-clause-err : goal.returns-clause-err
returns-clause-err g c = on_err c.commit_lent-committed.result
    (λ all cell lends.
    let h = all cell (record { files = c.lend.ensures.files ∙ lends.names.files; names = c.lend.ensures.names ∙ lends.names.names }) in
    record {
      names = record {
        files = c.give_back.ensures.files ∙ h.files;
        names = c.give_back.ensures.names ∙ h.names;
      };
      away = c.give_back.ensures.away;
    })
    c.commit_lent-committed.ensures.err

pub returns-clause-faults : goal.returns-clause-faults
returns-clause-faults g c = c.give_back.ensures.faults ∙ c.commit_lent-committed.ensures.faults ∙ ap (λ (xs : List ℕ). told_list (fault_told (fault_in c.commit_lent-committed.result)) ++ xs) c.lend.ensures.faults

pub returns-clause-stop : goal.returns-clause-stop
returns-clause-stop g c fault is = c.give_back.ensures.stop ∙ c.commit_lent-committed.ensures.stop fault is

pub returns-clause-stops : goal.returns-clause-stops
returns-clause-stops g c fault is = c.give_back.ensures.stop ∙ c.commit_lent-committed.ensures.stops fault is

pub returns-clause-free : goal.returns-clause-free
returns-clause-free g c =
    let t = g.D.Door.store c.commit_lent-committed.new.store in
    let st = c.commit_lent-committed.ensures.store in
    let alone = c.give_back.ensures.home (cell_of st.stamp st.past t) st.has in
    in_cells g.N.Naming.start g.N.Naming.origin g.D.Door.visible g.D.Door.keeps c.self.inside.hand c.give_back.new.own c.args.self.now (g.D.Door.store c.self.inside.store) c.self.invariant.1 c.self.view_is (cell_of st.stamp st.past t) alone
    (λ (had has : BlockSet). has ≡ had) c.commit_lent-committed.ensures.free

pub returns-clause-halts : goal.returns-clause-halts
returns-clause-halts g c =
    let t = g.D.Door.store c.commit_lent-committed.new.store in
    let st = c.commit_lent-committed.ensures.store in
    let alone = c.give_back.ensures.home (cell_of st.stamp st.past t) st.has in
    stop_behind g.N.Naming.start g.N.Naming.origin g.D.Door.visible g.D.Door.keeps c.self.inside.hand c.give_back.new.own c.args.self.now (g.D.Door.store c.self.inside.store) c.self.invariant.1 c.self.view_is (cell_of st.stamp st.past t) (fault_in c.commit_lent-committed.result) alone c.commit_lent-committed.ensures.halts

pub returns-clause-halted : goal.returns-clause-halted
returns-clause-halted g c fault is =
    c.commit_lent-committed.ensures.halted fault (sym (stop_before g.N.Naming.start g.N.Naming.origin g.D.Door.visible g.D.Door.keeps c.self.inside.hand c.give_back.new.own c.args.self.now (g.D.Door.store c.self.inside.store) c.self.invariant.1 c.self.view_is) ∙ is)

pub returns-clause-stopped : goal.returns-clause-stopped
returns-clause-stopped g c fault is =
    let t = g.D.Door.store c.commit_lent-committed.new.store in
    let st = c.commit_lent-committed.ensures.store in
    let alone = c.give_back.ensures.home (cell_of st.stamp st.past t) st.has in
    ap stop_in alone.store ∙ c.commit_lent-committed.ensures.stopped fault is

pub returns-clause-ran : goal.returns-clause-ran
returns-clause-ran g c =
    let t = g.D.Door.store c.commit_lent-committed.new.store in
    let st = c.commit_lent-committed.ensures.store in
    let alone = c.give_back.ensures.home (cell_of st.stamp st.past t) st.has in
    run_behind g.N.Naming.start g.N.Naming.origin g.D.Door.visible g.D.Door.keeps c.self.inside.hand c.give_back.new.own c.args.self.now (g.D.Door.store c.self.inside.store) c.self.invariant.1 c.self.view_is st.stamp st.past t alone (fault_in c.commit_lent-committed.result) 1 1 c.commit_lent-committed.ensures.ran
