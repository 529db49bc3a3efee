use Rattle.ufs_bitmap.specs.Blocks.{BlockSet}
use Rattle.std.proofs.Common.{◌≡◌, ℕ, ◌∙◌, ◌++◌, List, ap, subst, sym}
use Rattle.std.specs.FinMap as fin
use Rattle.std.specs.FinSet as set
use Rattle.std.specs.Prelude.{IsSome, OnErr, OnOk, Result, Ok, Err}
use Rattle.ufs_hand_laws.specs.Owned.{Has}
use Rattle.ufs_joint.specs.Cells.{FileCell}
use Rattle.ufs_joint.specs.Disks.{cell_of}
use Rattle.ufs_joint.specs.NamesHands.{AreNumberedOnce}
use Rattle.ufs_store.specs.Refusals.{fault_in}
use Rattle.ufs_store.specs.declared.fault.StoreFault.{StoreFault}
use Rattle.ufs_turns.specs.Lent.{stop_in}
use Rattle.ufs_turns.specs.Told.{fault_told, told_list}
use Rattle.ufs_turns.proofs.FreeBlocks.{in_cells, run_behind, stop_before, stop_behind}
use Rattle.ufs_turns.proofs.held_store.HeldStore.reclaim.Goals as goal

pub invariant_of-self : goal.invariant_of-self
invariant_of-self g c =
    let t = g.D.Door.store c.reclaim_lent-made.new.store in
    let st = c.reclaim_lent-made.ensures.store in
    let alone = c.give_back.ensures.home (cell_of st.stamp st.past t) st.has in
    (c.self.invariant.0, record { cell = cell_of st.stamp st.past t; alone = alone; store = record { stamp = st.stamp; past = st.past; has = alone.store; sees = st.sees; formed = st.formed; size = st.size; grown = st.grown; since = st.since; covers = st.covers; passes = st.passes } })

pub returns-clause-faults : goal.returns-clause-faults
returns-clause-faults g c = c.give_back.ensures.faults ∙ c.reclaim_lent-made.ensures.faults ∙ ap (λ (xs : List ℕ). told_list (fault_told (fault_in c.reclaim_lent-made.result)) ++ xs) c.lend.ensures.faults

pub returns-clause-stop : goal.returns-clause-stop
returns-clause-stop g c fault is = c.give_back.ensures.stop ∙ c.reclaim_lent-made.ensures.stop fault is

on_ok : {A B : Type 0} (r : Result (Unit {0}) StoreFault) → (A → B) → OnOk r A → OnOk r B
on_ok (Ok x) f a = f a
on_ok (Err e) f a = tt

on_err : {A B : Type 0} (r : Result (Unit {0}) StoreFault) → (A → B) → OnErr r A → OnErr r B
on_err (Ok x) f a = tt
on_err (Err e) f a = f a

pub reclaim_lent-made-requires-clause-lent : goal.reclaim_lent-made-requires-clause-lent
reclaim_lent-made-requires-clause-lent g c =
    let f = c.requires.lent in
    let files = sym c.lend.ensures.files in (
      f.0,
      record {
        names_are = c.lend.ensures.names ∙ f.1.names_are;
        files = subst AreNumberedOnce files f.1.files;
        live = subst (λ (cs : List (ℕ × FileCell)). (file : ℕ) → IsSome (fin.get f.0.value.held file) → (x : FileCell) × Has (file, x) cs) files f.1.live;
        committed = subst (λ (cs : List (ℕ × FileCell)). (file : ℕ) (x : FileCell) → Has (file, x) cs → x.value.log.committed ≡ x.value.log.noted) files f.1.committed;
        noted = f.1.noted;
        fresh = f.1.fresh;
      },
      f.2,
    )

pub returns-clause-ok : goal.returns-clause-ok
returns-clause-ok g c = on_ok c.reclaim_lent-made.result (λ all names are. c.give_back.ensures.names ∙ all names (c.lend.ensures.names ∙ are)) c.reclaim_lent-made.ensures.ok

pub returns-clause-err : goal.returns-clause-err
returns-clause-err g c = on_err c.reclaim_lent-made.result (λ same. c.give_back.ensures.names ∙ same ∙ c.lend.ensures.names) c.reclaim_lent-made.ensures.err

pub returns-clause-back : goal.returns-clause-back
returns-clause-back g c =
    let t = g.D.Door.store c.reclaim_lent-made.new.store in
    let st = c.reclaim_lent-made.ensures.store in
    let alone = c.give_back.ensures.home (cell_of st.stamp st.past t) st.has in
    in_cells g.N.Naming.start g.N.Naming.origin g.D.Door.visible g.D.Door.keeps c.self.inside.hand c.give_back.new.own c.args.self.now (g.D.Door.store c.self.inside.store) c.self.invariant.1 c.self.view_is (cell_of st.stamp st.past t) alone
    (λ (had has : BlockSet). OnOk c.reclaim_lent-made.result ((c.reclaim_lent-made.new.dropped ≡ set.empty) × (has ≡ set.union had c.args.dropped.now))) c.reclaim_lent-made.ensures.back

pub returns-clause-kept : goal.returns-clause-kept
returns-clause-kept g c =
    let t = g.D.Door.store c.reclaim_lent-made.new.store in
    let st = c.reclaim_lent-made.ensures.store in
    let alone = c.give_back.ensures.home (cell_of st.stamp st.past t) st.has in
    in_cells g.N.Naming.start g.N.Naming.origin g.D.Door.visible g.D.Door.keeps c.self.inside.hand c.give_back.new.own c.args.self.now (g.D.Door.store c.self.inside.store) c.self.invariant.1 c.self.view_is (cell_of st.stamp st.past t) alone
    (λ (had has : BlockSet). OnErr c.reclaim_lent-made.result ((c.reclaim_lent-made.new.dropped ≡ c.args.dropped.now) × (has ≡ had))) c.reclaim_lent-made.ensures.kept

pub returns-clause-halts : goal.returns-clause-halts
returns-clause-halts g c =
    let t = g.D.Door.store c.reclaim_lent-made.new.store in
    let st = c.reclaim_lent-made.ensures.store in
    let alone = c.give_back.ensures.home (cell_of st.stamp st.past t) st.has in
    stop_behind g.N.Naming.start g.N.Naming.origin g.D.Door.visible g.D.Door.keeps c.self.inside.hand c.give_back.new.own c.args.self.now (g.D.Door.store c.self.inside.store) c.self.invariant.1 c.self.view_is (cell_of st.stamp st.past t) (fault_in c.reclaim_lent-made.result) alone c.reclaim_lent-made.ensures.halts

pub returns-clause-halted : goal.returns-clause-halted
returns-clause-halted g c fault is =
    c.reclaim_lent-made.ensures.halted fault (sym (stop_before g.N.Naming.start g.N.Naming.origin g.D.Door.visible g.D.Door.keeps c.self.inside.hand c.give_back.new.own c.args.self.now (g.D.Door.store c.self.inside.store) c.self.invariant.1 c.self.view_is) ∙ is)

pub returns-clause-stopped : goal.returns-clause-stopped
returns-clause-stopped g c fault is =
    let t = g.D.Door.store c.reclaim_lent-made.new.store in
    let st = c.reclaim_lent-made.ensures.store in
    let alone = c.give_back.ensures.home (cell_of st.stamp st.past t) st.has in
    ap stop_in alone.store ∙ c.reclaim_lent-made.ensures.stopped fault is

pub returns-clause-ran : goal.returns-clause-ran
returns-clause-ran g c =
    let t = g.D.Door.store c.reclaim_lent-made.new.store in
    let st = c.reclaim_lent-made.ensures.store in
    let alone = c.give_back.ensures.home (cell_of st.stamp st.past t) st.has in
    run_behind g.N.Naming.start g.N.Naming.origin g.D.Door.visible g.D.Door.keeps c.self.inside.hand c.give_back.new.own c.args.self.now (g.D.Door.store c.self.inside.store) c.self.invariant.1 c.self.view_is st.stamp st.past t alone (fault_in c.reclaim_lent-made.result) 1 0 c.reclaim_lent-made.ensures.ran
