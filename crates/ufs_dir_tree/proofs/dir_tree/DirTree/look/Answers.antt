use Rattle.std.proofs.Common.{◌+◌, ◌-◌, ◌≡◌, ◌≢◌, ◌≤◌, ℕ, List, [], ◌∷◌, length, refl, None, Some, take, drop, ap, sym, subst, ◌∙◌, arith}
use Rattle.std.proofs.lemmas.Result.{err_from_is_err_and}
use Rattle.ufs_dir_tree.specs.DirCalls.{dir_refusal, refusal_by}
use Rattle.ufs_dir_tree.specs.DirTable.{IsDirTable, step, found_at}
use Rattle.ufs_dir_tree.proofs.RefusalLemmas.{refused_next}
use Rattle.ufs_dir_tree.proofs.WalkLemmas.{walk_on}
use Rattle.ufs_dir_tree.proofs.dir_tree.DirTree.look.Goals as goal

last_place : (names : List (List ℕ)) (i : ℕ) → length names ≤ i → i ≤ length names → names ≢ [] → (1 ≤ i) × (i - 1 ≡ length names - 1)
last_place [] i a b some = absurd (some refl)
last_place (name ∷ names) i a b some = (omega arith, omega arith)

pub returns-in_err-dir : goal.returns-in_err-dir
returns-in_err-dir c =
    let p = err_from_is_err_and c.from_residual.result c.from_residual.ensures.1 in
    let refused = refused_next c.args.self.now c.args.path.now c.loop-i.i (Some c.in_err-dir.field-0.0) (omega (arith, c.len-i-end.ensures.value)) (ap dir_refusal (sym c.loop-i.invariant.met) ∙ c.in_err-dir.ensures.err) c.loop-i.invariant.passed in
    rw (p.1, p.2) (record { refused = refused; passed = tt; found = tt; dir = tt; table = subst IsDirTable c.self.view_is c.self.invariant.0 })

pub loop-i-preserved : goal.loop-i-preserved
loop-i-preserved c =
    let t = c.args.self.now in
    let names = c.args.path.now in
    let i = c.loop-i.i in
    let is = c.in_ok-dir.ensures.ok in
    let back : i ≡ i + 1 - 1 = omega arith in
    let passed = refused_next t names i None (omega (arith, c.len-i-end.ensures.value)) (ap dir_refusal (sym c.loop-i.invariant.met ∙ is)) c.loop-i.invariant.passed in
    record {
      dir = λ _. ap (λ n. found_at t (take n names)) (sym back) ∙ sym (sym is ∙ c.loop-i.invariant.met);
      met = c.entry-at.ensures ∙ ap (λ o. step t o c.component.result.now) (sym is ∙ c.loop-i.invariant.met) ∙ sym (walk_on t names i c.component.result.now c.component.ensures.value);
      passed = passed ∙ ap (λ k. refusal_by (found_at t) (take k names) (drop k names)) back;
    }

pub returns-clause-dir : goal.returns-clause-dir
returns-clause-dir c some =
    let names = c.args.path.now in
    let at = last_place names c.loop-i.i (omega (arith, c.loop-i-test.false, c.len-i-end.ensures.value)) (omega (arith, c.loop-i.auto.i-end, c.len-i-end.ensures.value)) some in
    ap (λ n. found_at c.args.self.now (take n names)) (sym at.1) ∙ c.loop-i.invariant.dir at.0
