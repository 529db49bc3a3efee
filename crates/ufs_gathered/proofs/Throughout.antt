-- The states of a disk, in the order of time, are explained by more and more of a history.
use Rattle.std.proofs.Common.{◌≡◌, ◌≤◌, ◌⊎◌, inl, inr, ℕ, List, [], ◌∷◌, ◌++◌, length, take, refl, sym, subst, arith}
use native.Mathlib.Decide.{dec_le}
use Rattle.std.proofs.lemmas.List.{append-nil}
use Rattle.ufs_hand_laws.specs.Owned.{Has}
use Rattle.ufs_hand_laws.specs.Parts.{Cells, Stretch}
use Rattle.ufs_joint.specs.Sound.{AreJoined, IsExplainedState}
use Rattle.ufs_model.specs.PosixTree.{PosixTree}
use Rattle.ufs_model.specs.declared.data.Entry.{Entry}
use Rattle.ufs_turns.specs.HeldStore.{AreRepeated, states_in}
use Rattle.ufs_gathered.specs.Ended.{AreExplainedAlong}

module _ (sectors : ℕ) (start : PosixTree) (history : List Entry) where
  abbrev Between : ℕ → ℕ → Cells → Type 0
  Between from to x = (i : ℕ) → from ≤ i → i ≤ to → IsExplainedState sectors start (take i history) x

  abbrev Along : ℕ → List Cells → ℕ → Type 0
  Along from xs to = AreExplainedAlong sectors start history from xs to

  meet : (from mid to : ℕ) (x : Cells) → Between from mid x → Between mid to x → Between from to x
  meet from mid to x one other i low high = by (dec_le i mid)
    where
      by : Dec (i ≤ mid) → IsExplainedState sectors start (take i history) x
      by (yes less) = one i low less
      by (no beyond) = other i (omega (arith, beyond)) high

  -- ---- stretch by stretch

  within : (from to y : ℕ) (xs : List Cells) → from ≤ y → y ≤ to → ((x : Cells) → Has x xs → Between from to x) → 1 ≤ length xs → Along y xs to
  within from to y [] low high each some = absurd (omega (arith, some))
  within from to y (x ∷ xs) low high each some = (to, high, (λ i a b. each x (inl refl) i (omega (arith, low, a)) b), rest xs (λ z has. each z (inr has)))
    where
      rest : (zs : List Cells) → ((z : Cells) → Has z zs → Between from to z) → Along to zs to
      rest [] all = refl
      rest (z ∷ zs) all = (to, omega arith, (λ i a b. all z (inl refl) i (omega (arith, low, high, a)) b), rest zs (λ w has. all w (inr has)))

  both : (a b c : ℕ) (xs ys : List Cells) → Along a xs b → Along b ys c → Along a (xs ++ ys) c
  both a b c [] ys one then = subst (λ (q : ℕ). Along q ys c) (sym one) then
  both a b c (x ∷ xs) ys one then = (one.0, one.1, one.2, both one.0 b c xs ys one.3 then)

  pub past_along : (past : List Stretch) (upto : ℕ) → AreJoined past upto → ((x : Stretch) → Has x past → (c : Cells) → Has c x.states → Between x.from x.to c) → Along 0 (states_in past) upto
  past_along [] upto joined each = sym joined
  past_along (x ∷ past) upto joined each = by joined.1 (λ u j. past_along past u j (λ y has. each y (inr has)))
    where
      by : ((x.states ≡ []) × AreJoined past upto) ⊎ ((1 ≤ length x.states) × (x.to ≡ upto) × ((y : ℕ) × (x.from ≤ y) × (y ≤ upto) × AreJoined past y)) → ((u : ℕ) → AreJoined past u → Along 0 (states_in past) u) → Along 0 (states_in past ++ x.states) upto
      by (inl h) front_to =
          let front = front_to upto h.1 in
          subst (λ (q : List Cells). Along 0 (states_in past ++ q) upto) (sym h.0) (subst (λ (q : List Cells). Along 0 q upto) (sym (append-nil (states_in past))) front)
      by (inr h) front_to =
          both 0 h.2.0 upto (states_in past) x.states (front_to h.2.0 h.2.3)
          (within x.from upto h.2.0 x.states h.2.1 h.2.2 (λ c has. subst (λ (q : ℕ). Between x.from q c) h.1 (each x (inl refl) c has)) h.0)

  -- the last one may be explained by still more
  pub more_along : (a b c : ℕ) (xs : List Cells) (z : Cells) → Along a (xs ++ z ∷ []) b → b ≤ c → Between b c z → Along a (xs ++ z ∷ []) c
  more_along a b c [] z along less is =
      let l = along.1 in
      let e = along.3 in
      (c, omega (arith, l, e, less), meet a along.0 c z along.2 (λ i low high. is i (omega (arith, e, low)) high), refl)
  more_along a b c (x ∷ xs) z along less is = (along.0, along.1, along.2, more_along along.0 b c xs z along.3 less is)

  -- where some stand more than once, it is so with each once
  pub once_along : (a b : ℕ) (xs ys : List Cells) → AreRepeated xs ys → Along a ys b → Along a xs b
  once_along a b [] [] is along = along
  once_along a b [] (y ∷ ys) is along = absurd is
  once_along a b (x ∷ xs) [] is along = absurd is
  once_along a b (x ∷ xs) (y ∷ ys) (inl is) along = (along.0, along.1, subst (Between a along.0) (sym is.0) along.2, once_along along.0 b xs ys is.1 along.3)
  once_along a b (x ∷ xs) (y ∷ ys) (inr is) along =
      let then = once_along along.0 b (x ∷ xs) ys is.1 along.3 in
      let l = along.1 in
      let m = then.1 in
      (then.0, omega (arith, l, m), meet a along.0 then.0 x (subst (Between a along.0) (sym is.0) along.2) then.2, then.3)
