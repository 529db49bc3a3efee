-- The sum of the squares of the workers' loads.
use Rattle.std.proofs.Common.{◌≡◌, ◌≢◌, ℕ, zero, suc, ◌+◌, ◌-◌, ◌*◌, ◌<◌, ◌≤◌, nat_eq, eqb, Bool, true, false, cond, ◌⊎◌, ⊎_elim, inl, inr, List, refl, sym, ap, subst, ◌∙◌, arith}
use Rattle.std.proofs.lemmas.Bool.Decides.{nat_tests, eqb_tells}
use Rattle.ufs_model.specs.declared.data.Load.{Load}
use Rattle.ufs_load.specs.declared.moves.Move.{Move}
use Rattle.ufs_load.specs.Plan.{load_of, after, IsNextMove}
use Rattle.ufs_load.specs.Laws.{AreOfFiles, squares}
use Rattle.ufs_load.proofs.LoadLemmas.{Moves, move_moves}

same_squares : (f g : ℕ → ℕ) (n : ℕ) → ((w : ℕ) → 1 ≤ w → w ≤ n → g w ≡ f w) → squares g n ≡ squares f n
same_squares f g zero each = refl
same_squares f g (suc n) each =
    let e : g (suc n) ≡ f (suc n) = each (suc n) (omega arith) (omega arith) in
    λ i. same_squares f g n (λ w one up. each w one (omega arith)) i + e i * e i

-- one load changes
one_change : (f g : ℕ → ℕ) (a n : ℕ) → 1 ≤ a → a ≤ n → ((w : ℕ) → w ≢ a → g w ≡ f w) → squares g n + f a * f a ≡ squares f n + g a * g a
one_change f g a zero one up each = absurd (omega arith)
one_change f g a (suc n) one up each = ⊎_elim
    (λ (t : (eqb a (suc n) ≡ true) × (a ≡ suc n)).
    let below = same_squares f g n (λ w lo hi. each w (λ e. let s = t.1 in absurd (omega arith))) in
    let fe = ap (λ k. f k * f k) t.1 in
    let ge = ap (λ k. g k * g k) t.1 in
    omega arith)
    (λ (t : (eqb a (suc n) ≡ false) × (a ≢ suc n)).
    let ne = t.1 in
    let rest = one_change f g a n one (omega arith) each in
    let e : g (suc n) ≡ f (suc n) = each (suc n) (λ s. ne (sym s)) in
    let square : g (suc n) * g (suc n) ≡ f (suc n) * f (suc n) = λ i. e i * e i in
    omega arith)
    (eqb_tells a (suc n))

smaller : (x c d : ℕ) → 0 < c → 0 < d → (x + d) * (x + d) + (x + c) * (x + c) < (x + d + c) * (x + d + c) + x * x
smaller x (suc c) (suc d) hc hd = omega arith
smaller x zero d hc hd = absurd (omega arith)
smaller x c zero hc hd = absurd (omega arith)

pub squares_fall : (f g : ℕ → ℕ) (a b count n : ℕ) → Moves f g a b count → 1 ≤ a → a ≤ n → 1 ≤ b → b ≤ n → squares g n < squares f n
squares_fall f g a b count n m oa ua ob ub =
    let from = m.from in
    let to = m.to in
    let low = m.below in
    let positive = m.positive in
    let h : ℕ → ℕ = λ w. cond (nat_eq w a) (g a) (f w) in
    let apart : b ≢ a = λ e. let t : f b ≡ f a = ap f e in absurd (omega arith) in
    let ha : h a ≡ g a = (let e : nat_eq a a ≡ true = grind (arith, nat_tests) in rw e refl) in
    let hb : h b ≡ f b = (let e : nat_eq b a ≡ false = grind (arith, nat_tests) in rw e refl) in
    let first = one_change f h a n oa ua (λ w ne. let e : nat_eq w a ≡ false = grind (arith, nat_tests) in rw e refl) in
    let second = one_change h g b n ob ub (λ w ne. ⊎_elim
    (λ (t : (eqb w a ≡ true) × (w ≡ a)). ap g t.1 ∙ (rw t.0 refl))
    (λ (t : (eqb w a ≡ false) × (w ≢ a)). m.others w t.1 ne ∙ (rw t.0 refl)) (eqb_tells w a)) in
    let d : ℕ = g a - f b in
    let ga : g a ≡ f b + d = omega arith in
    let fa : f a ≡ f b + d + count = omega arith in
    let less = smaller (f b) count d positive (omega arith) in
    let e1 : h a * h a ≡ (f b + d) * (f b + d) = λ i. (ha ∙ ga) i * (ha ∙ ga) i in
    let e2 : f a * f a ≡ (f b + d + count) * (f b + d + count) = λ i. fa i * fa i in
    let e3 : h b * h b ≡ f b * f b = λ i. hb i * hb i in
    let e4 : g b * g b ≡ (f b + count) * (f b + count) = λ i. to i * to i in
    finish (squares f n) (squares h n) (squares g n) _ _ _ _ (first) (second) e1 e2 e3 e4 less where
      finish : (sf sh sg ha2 fa2 hb2 gb2 : ℕ) {p q r s : ℕ} → sh + fa2 ≡ sf + ha2 → sg + hb2 ≡ sh + gb2 → ha2 ≡ p → fa2 ≡ q → hb2 ≡ r → gb2 ≡ s → p + s < q + r → sg < sf
      finish sf sh sg ha2 fa2 hb2 gb2 a b c d e f l = omega arith

pub move_lowers : (loads : List Load) (workers : ℕ) (m : Move) → AreOfFiles loads → IsNextMove loads workers m → squares (load_of (after loads m)) workers < squares (load_of loads) workers
move_lowers loads workers m d n =
    squares_fall (load_of loads) (load_of (after loads m)) m.from m.to n.load.count workers (move_moves loads workers m d n) n.from.there n.from.within n.to.there n.to.within
