-- What goes one behind the other.
use Rattle.std.proofs.Common.{◌≡◌, List, [], ◌∷◌, ◌++◌, refl, sym, ap, ◌∙◌, subst, append_assoc}
use Rattle.ufs_serving.specs.Sending.{AllWent, AreLeft, GoInOrder}

module _ {A Q : Type 0} (sends : Q → A → Q → Type 0) (same : Q → Q → Type 0) (full : Q → A → Type 0) where
  -- one more went
  went_more : (xs : List A) (x : A) (p q r : Q) → AllWent sends same full xs p q → sends q x r → AllWent sends same full (xs ++ x ∷ []) p r
  went_more [] x p q r none went = (r, subst (λ (y : Q). sends y x r) none went, refl)
  went_more (y ∷ xs) x p q r first went = (first.0, first.1, went_more xs x first.0 q r first.2 went)

  -- So far these went, and the others stand behind them.
  pub record HaveGone (old now : List A) (p q : Q) : Type 0 where
    pub gone : List A
    pub parted : old ≡ gone ++ now
    pub went : AllWent sends same full gone p q

  pub begins : (old : List A) (p : Q) → HaveGone old old p p
  begins old p = record { gone = []; parted = refl; went = refl }

  pub goes_on : (old now rest : List A) (x : A) (p q r : Q) → HaveGone old now p q → now ≡ x ∷ rest → sends q x r → HaveGone old rest p r
  goes_on old now rest x p q r h is went = record {
    gone = h.gone ++ x ∷ [];
    parted = h.parted ∙ ap (λ (xs : List A). h.gone ++ xs) is ∙ sym (append_assoc h.gone (x ∷ []) rest);
    went = went_more h.gone x p q r h.went went;
  }

  pub all_gone : (old now : List A) (p q : Q) → HaveGone old now p q → now ≡ [] → GoInOrder sends same full old now p q
  all_gone old now p q h none = record { gone = h.gone; mid = q; parted = h.parted; went = h.went; left = subst (λ (xs : List A). AreLeft sends same full xs q q) (sym none) refl }

  pub some_left : (old now new rest : List A) (x : A) (p q r : Q) → HaveGone old now p q → now ≡ x ∷ rest → new ≡ x ∷ rest → same q r → full q x → GoInOrder sends same full old new p r
  some_left old now new rest x p q r h is back stays was = record {
    gone = h.gone;
    mid = q;
    parted = h.parted ∙ ap (λ (xs : List A). h.gone ++ xs) (is ∙ sym back);
    went = h.went;
    left = subst (λ (xs : List A). AreLeft sends same full xs q r) (sym back) (stays, was);
  }
