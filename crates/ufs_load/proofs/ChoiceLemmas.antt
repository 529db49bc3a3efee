-- The choice among a worker's loads, load by load.
use Rattle.std.proofs.Common.{◌≡◌, ℕ, ◌<◌, ◌≤◌, ◌⊎◌, ⊎_elim, inl, inr, List, [], ◌∷◌, ◌++◌, refl, sym, ap, subst, ◌∙◌, arith, Option, None, Some}
use Rattle.ufs_model.specs.declared.data.Load.{Load}
use Rattle.ufs_load.specs.Plan.{IsOneOf, MayGo, IsChosen}
use Rattle.ufs_load.specs.Choice.{IsBestOf, IsFit, IsAhead, Beats}

one_before : (loads : List Load) (x l : Load) → IsOneOf loads l → IsOneOf (loads ++ x ∷ []) l
one_before [] x l one = absurd one
one_before (y ∷ loads) x l one = ⊎_elim (λ e. inl e) (λ h. inr (one_before loads x l h)) one

one_last : (loads : List Load) (x l : Load) → x ≡ l → IsOneOf (loads ++ x ∷ []) l
one_last [] x l e = inl e
one_last (y ∷ loads) x l e = inr (one_last loads x l e)

one_cases : (loads : List Load) (x l : Load) → IsOneOf (loads ++ x ∷ []) l → IsOneOf loads l ⊎ (x ≡ l)
one_cases [] x l one = ⊎_elim (λ e. inr e) (λ (h : ⊥). absurd h) one
one_cases (y ∷ loads) x l one = ⊎_elim (λ e. inl (inl e)) (λ h. ⊎_elim (λ g. inl (inr g)) (λ e. inr e) (one_cases loads x l h)) one

module _ (loads : List Load) (x : Load) (from limit : ℕ) where
  may_before : (m : Load) → MayGo loads from limit m → MayGo (loads ++ x ∷ []) from limit m
  may_before m g = record { one = one_before loads x m g.one; on = g.on; positive = g.positive; below = g.below }

  may_cases : (m : Load) → MayGo (loads ++ x ∷ []) from limit m → MayGo loads from limit m ⊎ ((x ≡ m) × IsFit from limit x)
  may_cases m g = ⊎_elim (λ h. inl (record { one = h; on = g.on; positive = g.positive; below = g.below }))
      (λ (e : x ≡ m). inr (e, subst (IsFit from limit) (sym e) (g.on, g.positive, g.below))) (one_cases loads x m g.one)

  -- a load that may not go
  pub best_skips : (b : Option Load) → IsBestOf loads from limit b → (IsFit from limit x → ⊥) → IsBestOf (loads ++ x ∷ []) from limit b
  best_skips None best unfit = λ m g. ⊎_elim (λ h. best m h) (λ (h : (x ≡ m) × IsFit from limit x). unfit h.1) (may_cases m g)
  best_skips (Some l) best unfit = record {
    may = may_before l best.may;
    greatest = λ m g. ⊎_elim (λ h. best.greatest m h) (λ (h : (x ≡ m) × IsFit from limit x). absurd (unfit h.1)) (may_cases m g);
    lowest = λ m g e. ⊎_elim (λ h. best.lowest m h e) (λ (h : (x ≡ m) × IsFit from limit x). absurd (unfit h.1)) (may_cases m g);
  }

  -- a load that may go
  pub best_takes : (b : Option Load) (r : Load) → IsBestOf loads from limit b → IsFit from limit x → Beats b x r → IsBestOf (loads ++ x ∷ []) from limit (Some r)
  best_takes None r best fit beats = record {
    may = record {
      one = one_last loads x r (sym beats);
      on = ap (λ (y : Load). y.worker) beats ∙ fit.0;
      positive = subst (λ (y : Load). 0 < y.count) (sym beats) fit.1;
      below = subst (λ (y : Load). y.count < limit) (sym beats) fit.2;
    };
    greatest = λ m g. ⊎_elim (λ h. absurd (best m h)) (λ (h : (x ≡ m) × IsFit from limit x). let e = ap (λ (y : Load). y.count) (sym h.0 ∙ sym beats) in omega arith) (may_cases m g);
    lowest = λ m g s. ⊎_elim (λ h. absurd (best m h)) (λ (h : (x ≡ m) × IsFit from limit x). let e = ap (λ (y : Load). y.file) (sym h.0 ∙ sym beats) in omega arith) (may_cases m g);
  }
  best_takes (Some o) r best fit beats = record {
    may = ⊎_elim
        (λ (e : r ≡ x). record {
          one = one_last loads x r (sym e);
          on = ap (λ (y : Load). y.worker) e ∙ fit.0;
          positive = subst (λ (y : Load). 0 < y.count) (sym e) fit.1;
          below = subst (λ (y : Load). y.count < limit) (sym e) fit.2;
        })
        (λ (e : r ≡ o). may_before r (subst (MayGo loads from limit) (sym e) best.may)) beats.0;
    greatest = λ m g.
        let ahead_x = beats.1.count in
        let ahead_o = beats.2.count in
        ⊎_elim (λ h. let t = best.greatest m h in omega arith) (λ (h : (x ≡ m) × IsFit from limit x). let e = ap (λ (y : Load). y.count) (sym h.0) in omega arith) (may_cases m g);
    lowest = λ m g s.
        let ahead_x = beats.1.count in
        let ahead_o = beats.2.count in
        ⊎_elim
        (λ h.
        let t = best.greatest m h in
        let same : o.count ≡ r.count = omega arith in
        let f = beats.2.file same in
        let k = best.lowest m h (omega arith) in
        omega arith)
        (λ (h : (x ≡ m) × IsFit from limit x).
        let e = ap (λ (y : Load). y.count) h.0 in
        let k = ap (λ (y : Load). y.file) h.0 in
        let f = beats.1.file (omega arith) in
        omega arith)
        (may_cases m g);
  }
