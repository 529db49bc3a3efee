use Rattle.std.proofs.Common.{◌≡◌, ◌∙◌, ◌+◌, ◌<◌, ℕ, eqb, false, true, ◌≢◌, sym, ap, subst, ⊎_elim, arith, get_or, List, [], ◌∷◌, ◌++◌}
use Rattle.std.proofs.lemmas.List.{take_more, get_or_default}
use Rattle.std.proofs.lemmas.Bool.Decides.{eqb_tells}
use Rattle.ufs_model.specs.declared.data.Load.{Load}
use Rattle.ufs_load.proofs.planning.copied.Goals as goal

pub loop-load-preserved : goal.loop-load-preserved
loop-load-preserved c =
    let loads = c.args.loads.now in
    let i = c.loop-load.load-index in
    let none : Load = record { file = 0; worker = 0; count = 0 } in
    let x : Load = get_or loads i none in
    let at : c.file_of-file.result ≡ x.file = c.file_of-file.ensures.value in
    let low : x.file < 4294967296 = subst (λ k. k < 4294967296) at c.file_of-file.ensures.fits in
    record {
      same = c.in_ok-push.ensures.items ∙ ap (λ k. c.loop-load.copy.items ++ (record { file = k; worker = x.worker; count = x.count }) ∷ []) at ∙ ap (λ (l : List Load). l ++ x ∷ []) c.loop-load.invariant.same ∙ sym (take_more loads i none c.loop-load-test.true);
      files = λ k d lt. ⊎_elim
          (λ (t : (eqb k i ≡ true) × (k ≡ i)). subst (λ (y : Load). y.file < 4294967296) (get_or_default loads i none d c.loop-load-test.true ∙ ap (λ j. get_or loads j d) (sym t.1)) low)
          (λ (t : (eqb k i ≡ false) × (k ≢ i)). let ne = t.1 in c.loop-load.invariant.files k d (omega arith))
          (eqb_tells k i);
    }
