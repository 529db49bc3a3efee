use Rattle.std.proofs.Common.{◌≡◌, ◌<◌, ◌≤◌, ◌+◌, ◌++◌, ℕ, suc, None, Result, Ok, Err, get_or, length, set, refl, ap, sym, subst, ◌∙◌, arith}
use Rattle.std.specs.Prelude.{OnErr}
use Rattle.std.specs.FinSet as fset
use Rattle.std.proofs.lemmas.Result.{err_from_is_err_and}
use Rattle.ufs_bitmap.specs.Blocks.{BlockSet}
use Rattle.ufs_bitmap.specs.Taking.{set_of}
use Rattle.ufs_store.specs.Refusals.{fault_in}
use Rattle.ufs_store.specs.declared.fault.StoreFault.{StoreFault}
use Rattle.ufs_turns.specs.Lent.{AreTold, Runs, StopsByFault, TellsWhere}
use Rattle.ufs_turns.specs.Told.{fault_told, told_list}
use Rattle.ufs_turns.proofs.Runs.{runs_more, runs_still, runs_twice}
use Rattle.ufs_held.proofs.Excusing.{same_told}
use Rattle.ufs_held.proofs.Stopping.{passed_where, stops_still, stops_twice}
use Rattle.ufs_held_names.specs.SyncAll.{AreSynced, freed_by}
use Rattle.ufs_held_names.proofs.SyncedAll.{failed_synced, freed_next, next_synced, none_synced}
use Rattle.ufs_held_names.proofs.Tried.{same_cells, same_twice, told_chain, told_so}
use Rattle.ufs_held_names.proofs.sync_all.commit_files.Goals as goal

pub loop-place-init : goal.loop-place-init
loop-place-init g c = record {
  held = c.requires.held;
  calm = c.requires.calm;
  same = refl;
  cells = same_cells c.args.guest.now;
  synced = none_synced g.N.Naming.start.is_visible c.args.files.now;
  freed = same_told (g.T.Turns.tells c.args.door.now);
  faults = refl;
  telling = refl;
  halts = stops_still (g.T.Turns.tells c.args.door.now);
  ran = runs_still (g.T.Turns.tells c.args.door.now) 0 0;
  within = omega arith;
}

pub loop-place-preserved : goal.loop-place-preserved
loop-place-preserved g c =
    let i = c.loop-place.invariant in
    let e = c.commit_born.ensures in
    let ok = c.in_ok-commit_born.ensures in
    let visible = g.N.Naming.start.is_visible in
    let olds = c.args.files.now in
    let nows = c.loop-place.files in
    let k : ℕ = c.loop-place.place in
    let cur = get_or nows k c.index-files-place.result in
    let at : cur ≡ get_or nows k cur = ap (get_or nows k) c.index-files-place.is in
    let now = c.commit_born.new.file in
    let next : suc k ≡ k + 1 = omega arith in
    let less : k < length nows = omega (arith, c.loop-place-test.true, c.loop-place.auto.files) in
    let had = g.T.Turns.tells c.args.door.now in
    let mid = g.T.Turns.tells c.loop-place.door in
    let has = g.T.Turns.tells c.commit_born.new.door in
    record {
      held = e.held;
      calm = e.calm;
      same = e.same ∙ i.same;
      cells = same_twice c.args.guest.now c.loop-place.guest c.commit_born.new.guest i.cells e.cells;
      synced = subst (AreSynced visible olds (set nows k now)) next (next_synced visible cur now olds nows k i.synced less at ok.committed);
      freed = told_so had has (λ (a : BlockSet). fset.union (freed_by k olds a) (set_of cur.value.dropped)) (freed_by (k + 1) olds)
          (λ a. sym (freed_next visible cur now olds nows k i.synced less at a) ∙ ap (λ (n : ℕ). freed_by n olds a) next)
          (told_chain had mid has (freed_by k olds) (λ (a : BlockSet). fset.union a (set_of cur.value.dropped)) i.telling i.freed ok.freed);
      faults = e.faults ∙ ap (λ (r : Result (Unit {0}) StoreFault). told_list (fault_told (fault_in r)) ++ c.loop-place.guest.faults) c.in_ok-commit_born.was ∙ i.faults;
      telling = e.telling ∙ i.telling;
      halts = stops_twice had mid has None i.telling i.halts (subst (λ (r : Result (Unit {0}) StoreFault). StopsByFault mid has (fault_in r)) c.in_ok-commit_born.was e.halts);
      ran = runs_twice had mid has None k k 1 1 i.telling i.ran (subst (λ (r : Result (Unit {0}) StoreFault). Runs mid has (fault_in r) 1 1) c.in_ok-commit_born.was e.ran);
      within = omega (arith, c.loop-place-test.true);
    }

in_any_case : {A : Type 0} (r : Result (Unit {0}) StoreFault) → A → OnErr r A
in_any_case (Ok x) a = tt
in_any_case (Err e) a = a

pub returns-in_err-commit_born-clause-short : goal.returns-in_err-commit_born-clause-short
returns-in_err-commit_born-clause-short g c =
    let i = c.loop-place.invariant in
    let err = c.in_err-commit_born.ensures in
    let visible = g.N.Naming.start.is_visible in
    let olds = c.args.files.now in
    let nows = c.loop-place.files in
    let k : ℕ = c.loop-place.place in
    let less : k < length nows = omega (arith, c.loop-place-test.true, c.loop-place.auto.files) in
    let cur = get_or nows k c.index-files-place.result in
    let at : cur ≡ get_or nows k cur = ap (get_or nows k) c.index-files-place.is in
    let had = g.T.Turns.tells c.args.door.now in
    let mid = g.T.Turns.tells c.loop-place.door in
    let has = g.T.Turns.tells c.commit_born.new.door in
    in_any_case c.from_residual.result (
      k,
      c.loop-place-test.true,
      failed_synced visible cur c.commit_born.new.file olds nows k i.synced less at err.kept,
      told_chain had mid has (freed_by k olds) (λ (a : BlockSet). a) i.telling i.freed err.unfreed,
    )

pub returns-in_err-commit_born-clause-halts : goal.returns-in_err-commit_born-clause-halts
returns-in_err-commit_born-clause-halts g c =
    let i = c.loop-place.invariant in
    let had = g.T.Turns.tells c.args.door.now in
    let mid = g.T.Turns.tells c.loop-place.door in
    let has = g.T.Turns.tells c.commit_born.new.door in
    let p = err_from_is_err_and c.from_residual.result c.from_residual.ensures.1 in
    let same : c.commit_born.result ≡ c.from_residual.result = c.in_err-commit_born.was ∙ sym (p.1 ∙ ap Err p.2) in
    stops_twice had mid has (fault_in c.from_residual.result) i.telling i.halts (subst (λ (r : Result (Unit {0}) StoreFault). StopsByFault mid has (fault_in r)) same c.commit_born.ensures.halts)

pub returns-in_err-commit_born-clause-ran : goal.returns-in_err-commit_born-clause-ran
returns-in_err-commit_born-clause-ran g c =
    let i = c.loop-place.invariant in
    let k : ℕ = c.loop-place.place in
    let olds = c.args.files.now in
    let had = g.T.Turns.tells c.args.door.now in
    let mid = g.T.Turns.tells c.loop-place.door in
    let has = g.T.Turns.tells c.commit_born.new.door in
    let p = err_from_is_err_and c.from_residual.result c.from_residual.ensures.1 in
    let same : c.commit_born.result ≡ c.from_residual.result = c.in_err-commit_born.was ∙ sym (p.1 ∙ ap Err p.2) in
    let less : k + 1 ≤ length olds = omega (arith, c.loop-place-test.true) in
    runs_more had has (fault_in c.from_residual.result) (k + 1) (k + 1) (length olds) (length olds) less less
    (runs_twice had mid has (fault_in c.from_residual.result) k k 1 1 i.telling i.ran (subst (λ (r : Result (Unit {0}) StoreFault). Runs mid has (fault_in r) 1 1) same c.commit_born.ensures.ran))

pub returns-clause-ran : goal.returns-clause-ran
returns-clause-ran g c =
    let olds = c.args.files.now in
    let k : ℕ = c.loop-place.place in
    let all : k ≡ length olds = omega (arith, c.loop-place-test.false, c.loop-place.auto.place-end) in
    subst (λ (n : ℕ). Runs (g.T.Turns.tells c.args.door.now) (g.T.Turns.tells c.loop-place.door) None n n) all c.loop-place.invariant.ran

pub returns-clause-files : goal.returns-clause-files
returns-clause-files g c =
    let olds = c.args.files.now in
    let k : ℕ = c.loop-place.place in
    let all : k ≡ length olds = omega (arith, c.loop-place-test.false, c.loop-place.auto.place-end) in
    subst (AreSynced g.N.Naming.start.is_visible olds c.loop-place.files) all c.loop-place.invariant.synced

pub returns-clause-freed : goal.returns-clause-freed
returns-clause-freed g c =
    let olds = c.args.files.now in
    let k : ℕ = c.loop-place.place in
    let all : k ≡ length olds = omega (arith, c.loop-place-test.false, c.loop-place.auto.place-end) in
    subst (λ (n : ℕ). AreTold (g.T.Turns.tells c.args.door.now) (g.T.Turns.tells c.loop-place.door) (λ had has. has ≡ freed_by n olds had)) all c.loop-place.invariant.freed

pub returns-in_err-commit_born-clause-stopped : goal.returns-in_err-commit_born-clause-stopped
returns-in_err-commit_born-clause-stopped g c =
    let p = err_from_is_err_and c.from_residual.result c.from_residual.ensures.1 in
    let same : c.commit_born.result ≡ c.from_residual.result = c.in_err-commit_born.was ∙ sym (p.1 ∙ ap Err p.2) in
    subst (λ (r : Result (Unit {0}) StoreFault). TellsWhere (g.T.Turns.tells c.commit_born.new.door) r) same c.commit_born.ensures.stopped

pub returns-in_err-commit_born-clause-stops : goal.returns-in_err-commit_born-clause-stops
returns-in_err-commit_born-clause-stops g c fault told =
    let p = err_from_is_err_and c.from_residual.result c.from_residual.ensures.1 in
    let same : c.commit_born.result ≡ c.from_residual.result = c.in_err-commit_born.was ∙ sym (p.1 ∙ ap Err p.2) in
    c.commit_born.ensures.stops fault (ap (λ (r : Result (Unit {0}) StoreFault). fault_told (fault_in r)) same ∙ told)

pub returns-clause-stopped : goal.returns-clause-stopped
returns-clause-stopped g c = passed_where (Unit {0}) (g.T.Turns.tells c.loop-place.door) tt
