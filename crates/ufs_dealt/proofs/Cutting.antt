-- What a split gives, and what it leaves.
use Rattle.std.proofs.Common.{◌≡◌, ◌⊎◌, inl, inr, ℕ, ◌+◌, ◌≤◌, Bool, true, false, cond, eqb, List, [], ◌∷◌, ap, sym, refl, ◌∙◌, arith}
use Rattle.ufs_hand_laws.specs.Owned.{Has, count, one, only, without}
use Rattle.ufs_hand_laws.proofs.Keys.{alike, itself}
use Rattle.ufs_hand_laws.proofs.Owning.{count_has}

-- no name is meant
module _ {K D : Type 0} (q : K → Bool) (none : (k : K) → q k ≡ false) where
  pub only_none : (ps : List (K × D)) → only q ps ≡ []
  only_none [] = refl
  only_none (p ∷ ps) = ap (λ b. cond b (p ∷ only q ps) (only q ps)) (none p.0) ∙ only_none ps

  pub without_none : (ps : List (K × D)) → without q ps ≡ ps
  without_none [] = refl
  without_none (p ∷ ps) = ap (λ b. cond b (without q ps) (p ∷ without q ps)) (none p.0) ∙ ap (λ rest. p ∷ rest) (without_none ps)

-- one that doesn't stand there
pub only_absent : {D : Type 0} (n : ℕ) (ps : List (ℕ × D)) → count eqb n ps ≡ 0 → only (eqb n) ps ≡ []
only_absent n [] none = refl
only_absent n (p ∷ ps) none = by (eqb n p.0) none (only_absent n ps)
  where
    by : (b : Bool) → one b + count eqb n ps ≡ 0 → (count eqb n ps ≡ 0 → only (eqb n) ps ≡ []) → cond b (p ∷ only (eqb n) ps) (only (eqb n) ps) ≡ []
    by true is rest = absurd (omega (arith, is))
    by false is rest = rest (omega (arith, is))

pub without_absent : {D : Type 0} (n : ℕ) (ps : List (ℕ × D)) → count eqb n ps ≡ 0 → without (eqb n) ps ≡ ps
without_absent n [] none = refl
without_absent n (p ∷ ps) none = by (eqb n p.0) none (without_absent n ps)
  where
    by : (b : Bool) → one b + count eqb n ps ≡ 0 → (count eqb n ps ≡ 0 → without (eqb n) ps ≡ ps) → cond b (without (eqb n) ps) (p ∷ without (eqb n) ps) ≡ p ∷ ps
    by true is rest = absurd (omega (arith, is))
    by false is rest = ap (λ qs. p ∷ qs) (rest (omega (arith, is)))

-- and one that stands there once
pub only_this : {D : Type 0} (n : ℕ) (x : D) (ps : List (ℕ × D)) → Has {A = ℕ × D} (n, x) ps → count eqb n ps ≤ 1 → only (eqb n) ps ≡ (n, x) ∷ []
only_this n x [] has few = absurd has
only_this {D} n x (p ∷ ps) has few = by has (only_this n x ps)
  where
    by : ((n, x) ≡ p) ⊎ Has {A = ℕ × D} (n, x) ps → (Has {A = ℕ × D} (n, x) ps → count eqb n ps ≤ 1 → only (eqb n) ps ≡ (n, x) ∷ []) → only (eqb n) (p ∷ ps) ≡ (n, x) ∷ []
    by (inl is) behind =
        let named : eqb n p.0 ≡ true = ap (λ (q : ℕ × D). eqb n q.0) (sym is) ∙ itself n in
        let less : one (eqb n p.0) + count eqb n ps ≤ 1 = few in
        let counted : one (eqb n p.0) ≡ 1 = ap one named in
        let rest = only_absent n ps (omega (arith, less, counted)) in
        ap (λ b. cond b (p ∷ only (eqb n) ps) (only (eqb n) ps)) named ∙ (λ i. sym is i ∷ rest i)
    by (inr there) behind = off (eqb n p.0) refl few
      where
        off : (b : Bool) → eqb n p.0 ≡ b → one b + count eqb n ps ≤ 1 → cond b (p ∷ only (eqb n) ps) (only (eqb n) ps) ≡ (n, x) ∷ []
        off true is less = (let more = count_has eqb itself alike n x ps there in absurd (omega (arith, less, more)))
        off false is less = behind there (omega (arith, less))

-- what is left behind the first, where that stands there once
pub without_this : {D : Type 0} (n : ℕ) (x : D) (ps : List (ℕ × D)) → count eqb n ((n, x) ∷ ps) ≤ 1 → without (eqb n) ((n, x) ∷ ps) ≡ ps
without_this {D} n x ps few =
    let here : one (eqb n n) ≡ 1 = ap one (itself n) in
    let less : one (eqb n n) + count eqb n ps ≤ 1 = few in
    ap (λ b. cond b (without (eqb n) ps) ((n, x) ∷ without (eqb n) ps)) (itself n) ∙ without_absent n ps (omega (arith, less, here))
