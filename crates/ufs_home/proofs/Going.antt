-- Letters that go one behind the other, and the files with them.
use Rattle.std.proofs.Common.{◌≡◌, List, [], ◌∷◌, ◌++◌, refl, sym, ap, ◌∙◌, subst, append_assoc}
use Rattle.ufs_owner.specs.Owners.{Files}
use Rattle.ufs_serving.specs.Sending.{AllWent, AreLeft}
use Rattle.ufs_home.specs.Letters.{LettersGo, Mailed, left_by, left_by_all}

pub left_more : (owners : Files) (ms : List Mailed) (m : Mailed) → left_by_all owners (ms ++ m ∷ []) ≡ left_by (left_by_all owners ms) m
left_more owners [] m = refl
left_more owners (x ∷ ms) m = left_more (left_by owners x) ms m

module _ {Q : Type 0} (sends : Q → Mailed → Q → Type 0) (same : Q → Q → Type 0) (full : Q → Type 0) where
  -- one more went
  went_more : (ms : List Mailed) (m : Mailed) (p q r : Q) → AllWent sends same (λ t x. full t) ms p q → sends q m r → AllWent sends same (λ t x. full t) (ms ++ m ∷ []) p r
  went_more [] m p q r none went = (r, subst (λ (x : Q). sends x m r) none went, refl)
  went_more (x ∷ ms) m p q r first went = (first.0, first.1, went_more ms m first.0 q r first.2 went)

  -- So far these went, and the others stand behind them.
  pub record HaveGone (old now : List Mailed) (owners then : Files) (p q : Q) : Type 0 where
    pub gone : List Mailed
    pub parted : old ≡ gone ++ now
    pub went : AllWent sends same (λ t x. full t) gone p q
    pub owned : then ≡ left_by_all owners gone

  pub begins : (old : List Mailed) (owners : Files) (p : Q) → HaveGone old old owners owners p p
  begins old owners p = record { gone = []; parted = refl; went = refl; owned = refl }

  pub goes_on : (old now rest : List Mailed) (m : Mailed) (owners had then : Files) (p q r : Q) → HaveGone old now owners had p q → now ≡ m ∷ rest → sends q m r → then ≡ left_by had m → HaveGone old rest owners then p r
  goes_on old now rest m owners had then p q r h is went left = record {
    gone = h.gone ++ m ∷ [];
    parted = h.parted ∙ ap (λ (ms : List Mailed). h.gone ++ ms) is ∙ sym (append_assoc h.gone (m ∷ []) rest);
    went = went_more h.gone m p q r h.went went;
    owned = left ∙ ap (λ (o : Files). left_by o m) h.owned ∙ sym (left_more owners h.gone m);
  }

  pub all_gone : (old now new : List Mailed) (owners then : Files) (p q : Q) → HaveGone old now owners then p q → now ≡ [] → new ≡ [] → LettersGo sends same full old new owners then p q
  all_gone old now new owners then p q h none empty = record {
    go = record {
      gone = h.gone;
      mid = q;
      parted = h.parted ∙ ap (λ (ms : List Mailed). h.gone ++ ms) (none ∙ sym empty);
      went = h.went;
      left = subst (λ (xs : List Mailed). AreLeft sends same (λ t x. full t) xs q q) (sym empty) refl;
    };
    owned = h.owned;
  }

  pub some_left : (old now new rest : List Mailed) (m : Mailed) (owners had then : Files) (p q r : Q) → HaveGone old now owners had p q → now ≡ m ∷ rest → new ≡ m ∷ rest → then ≡ had → same q r → full q → LettersGo sends same full old new owners then p r
  some_left old now new rest m owners had then p q r h is back left stays was = record {
    go = record {
      gone = h.gone;
      mid = q;
      parted = h.parted ∙ ap (λ (ms : List Mailed). h.gone ++ ms) (is ∙ sym back);
      went = h.went;
      left = subst (λ (xs : List Mailed). AreLeft sends same (λ t x. full t) xs q r) (sym back) (stays, was);
    };
    owned = left ∙ h.owned;
  }
