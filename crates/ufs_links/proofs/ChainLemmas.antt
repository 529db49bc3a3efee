-- Chains of nodes: what a look at them tells, and what the writes of a joining or a parting leave.
use Rattle.std.proofs.Common.{◌≡◌, ◌≢◌, ℕ, zero, suc, ◌≤◌, eqb, true, false, ⊎_elim, List, [], ◌∷◌, ◌++◌, length, refl, sym, ap, subst, ◌∙◌, true≢false, arith, Option, None, Some, slice_get}
use Rattle.std.proofs.lemmas.Bool.Decides.{eqb_tells}
use Rattle.std.specs.Option.{option_map_or}
use Rattle.ufs_links.specs.Nodes.{has, without, next_in}
use Rattle.ufs_links.specs.Chains.{IsChain, AreApart, walk}
use Rattle.ufs_links.proofs.NodeLemmas.{lacks_cons, has_cons, has_here, has_there, without_here, without_there, without_lacking}

some_injective : (x y : ℕ) → ◌≡◌ {A = Option ℕ} (Some x) (Some y) → x ≡ y
some_injective x y e = cc

some_apart : (x y : ℕ) → x ≢ y → ◌≢◌ {A = Option ℕ} (Some x) (Some y)
some_apart x y ne e = ne (some_injective x y e)

none_apart : (x : ℕ) → ◌≢◌ {A = Option ℕ} None (Some x)
none_apart x e = cc

module _ (A B : Option ℕ → Option ℕ) where
  -- what stands around a node of the chain points to it
  pub around : (p : Option ℕ) (xs : List ℕ) (x : ℕ) → IsChain A B p xs → has xs x ≡ true → (A (B (Some x)) ≡ Some x) × (B (A (Some x)) ≡ Some x)
  around p [] x c h = absurd (true≢false (sym h))
  around p (y ∷ []) x c h = ⊎_elim (λ (e : x ≡ y). subst (λ n. (A (B (Some n)) ≡ Some n) × (B (A (Some n)) ≡ Some n)) (sym e) (ap A c.1 ∙ c.0, ap B c.2.0 ∙ c.2.1))
      (λ (f : false ≡ true). absurd (true≢false (sym f))) (has_cons x y [] h)
  around p (y ∷ z ∷ zs) x c h = ⊎_elim (λ (e : x ≡ y). subst (λ n. (A (B (Some n)) ≡ Some n) × (B (A (Some n)) ≡ Some n)) (sym e) (ap A c.1 ∙ c.0, ap B c.2.0 ∙ c.2.1))
      (λ (t : has (z ∷ zs) x ≡ true). around (Some y) (z ∷ zs) x c.2 t) (has_cons x y (z ∷ zs) h)

  pub back_is_last : (p : Option ℕ) (xs : List ℕ) → IsChain A B p xs → A (B None) ≡ None
  back_is_last p [] c = ap A c.1 ∙ c.0
  back_is_last p (y ∷ ys) c = back_is_last (Some y) ys c.2

  -- what a pointer of the chain names is a node of it
  pub after_in : (p : Option ℕ) (xs : List ℕ) (x q : ℕ) → IsChain A B p xs → has xs x ≡ true → A (Some x) ≡ Some q → has xs q ≡ true
  after_in p [] x q c h e = absurd (true≢false (sym h))
  after_in p (y ∷ []) x q c h e = ⊎_elim (λ (s : x ≡ y). absurd (none_apart q (sym c.2.0 ∙ ap (λ n. A (Some n)) (sym s) ∙ e))) (λ (f : false ≡ true). absurd (true≢false (sym f))) (has_cons x y [] h)
  after_in p (y ∷ z ∷ zs) x q c h e = has_there q y (z ∷ zs) (⊎_elim
      (λ (s : x ≡ y). subst (λ n. has (z ∷ zs) n ≡ true) (some_injective z q (sym c.2.0 ∙ ap (λ n. A (Some n)) (sym s) ∙ e)) (has_here z zs))
      (λ (t : has (z ∷ zs) x ≡ true). after_in (Some y) (z ∷ zs) x q c.2 t e) (has_cons x y (z ∷ zs) h))

  pub before_in : (p : Option ℕ) (xs : List ℕ) (x q : ℕ) → IsChain A B p xs → p ≢ Some q → has xs x ≡ true → B (Some x) ≡ Some q → has xs q ≡ true
  before_in p [] x q c np h e = absurd (true≢false (sym h))
  before_in p (y ∷ ys) x q c np h e = ⊎_elim
      (λ (s : x ≡ y). absurd (np (sym c.1 ∙ ap (λ n. B (Some n)) (sym s) ∙ e)))
      (λ (t : has ys x ≡ true). ⊎_elim
      (λ (s : (eqb q y ≡ true) × (q ≡ y)). subst (λ n. has (y ∷ ys) n ≡ true) (sym s.1) (has_here y ys))
      (λ (s : (eqb q y ≡ false) × (q ≢ y)). has_there q y ys (before_in (Some y) ys x q c.2 (some_apart y q (λ u. s.1 (sym u))) t e))
      (eqb_tells q y))
      (has_cons x y ys h)

  pub front_in : (p : Option ℕ) (xs : List ℕ) (q : ℕ) → IsChain A B p xs → A p ≡ Some q → has xs q ≡ true
  front_in p [] q c e = absurd (none_apart q (sym c.0 ∙ e))
  front_in p (y ∷ ys) q c e = subst (λ n. has (y ∷ ys) n ≡ true) (some_injective y q (sym c.0 ∙ e)) (has_here y ys)

  pub back_in : (p : Option ℕ) (xs : List ℕ) (q : ℕ) → IsChain A B p xs → p ≢ Some q → B None ≡ Some q → has xs q ≡ true
  back_in p [] q c np e = absurd (np (sym c.1 ∙ e))
  back_in p (y ∷ ys) q c np e = ⊎_elim
      (λ (s : (eqb q y ≡ true) × (q ≡ y)). subst (λ n. has (y ∷ ys) n ≡ true) (sym s.1) (has_here y ys))
      (λ (s : (eqb q y ≡ false) × (q ≢ y)). has_there q y ys (back_in (Some y) ys q c.2 (some_apart y q (λ u. s.1 (sym u))) e))
      (eqb_tells q y)

  -- no node stands beside itself
  pub before_self : (p : Option ℕ) (xs : List ℕ) (x : ℕ) → IsChain A B p xs → p ≢ Some x → has xs x ≡ true → B (Some x) ≢ Some x
  before_self p [] x c np h e = true≢false (sym h)
  before_self p (y ∷ ys) x c np h e = ⊎_elim
      (λ (s : (eqb y x ≡ true) × (y ≡ x)). np (sym c.1 ∙ ap (λ n. B (Some n)) s.1 ∙ e))
      (λ (s : (eqb y x ≡ false) × (y ≢ x)). before_self (Some y) ys x c.2 (some_apart y x s.1) (⊎_elim (λ (u : x ≡ y). absurd (s.1 (sym u))) (λ (t : has ys x ≡ true). t) (has_cons x y ys h)) e)
      (eqb_tells y x)

  pub after_self : (p : Option ℕ) (xs : List ℕ) (x : ℕ) → IsChain A B p xs → p ≢ Some x → has xs x ≡ true → A (Some x) ≢ Some x
  after_self p xs x c np h e = before_self p xs x c np h (ap B (sym e) ∙ (around p xs x c h).1)

  -- what the pointers answer
  pub front_is : (p : Option ℕ) (xs : List ℕ) → IsChain A B p xs → A p ≡ slice_get xs 0
  front_is p [] c = c.0
  front_is p (y ∷ ys) c = c.0

  pub next_is : (p : Option ℕ) (xs : List ℕ) (x : ℕ) → IsChain A B p xs → AreApart xs → has xs x ≡ true → A (Some x) ≡ next_in xs x
  next_is p [] x c a h = absurd (true≢false (sym h))
  next_is p (y ∷ ys) x c a h = ⊎_elim
      (λ (s : (eqb y x ≡ true) × (y ≡ x)). ap (λ n. A (Some n)) (sym s.1) ∙ front_is (Some y) ys c.2 ∙ (rw s.0 refl))
      (λ (s : (eqb y x ≡ false) × (y ≢ x)). next_is (Some y) ys x c.2 a.1 (⊎_elim (λ (u : x ≡ y). absurd (s.1 (sym u))) (λ (t : has ys x ≡ true). t) (has_cons x y ys h)) ∙ (rw s.0 refl))
      (eqb_tells y x)

  -- the walk goes through the chain
  pub walk_chain : (most : ℕ) (p : Option ℕ) (xs : List ℕ) → IsChain A B p xs → length xs ≤ most → walk A most p ≡ xs
  walk_chain zero p [] c le = refl
  walk_chain zero p (y ∷ ys) c le = absurd (omega arith)
  walk_chain (suc most) p [] c le = ap (λ (o : Option ℕ). option_map_or (λ n. n ∷ walk A most (Some n)) o []) c.0
  walk_chain (suc most) p (y ∷ ys) c le = ap (λ (o : Option ℕ). option_map_or (λ n. n ∷ walk A most (Some n)) o []) c.0 ∙ ap (λ l. y ∷ l) (walk_chain most (Some y) ys c.2 (omega arith))

module _ (A B A' B' : Option ℕ → Option ℕ) where
  -- a chain whose own pointers stay
  pub same_chain : (p : Option ℕ) (xs : List ℕ) → IsChain A B p xs → A' p ≡ A p → ((q : ℕ) → has xs q ≡ true → (A' (Some q) ≡ A (Some q)) × (B' (Some q) ≡ B (Some q))) → B' None ≡ B None → IsChain A' B' p xs
  same_chain p [] c front each back = (front ∙ c.0, back ∙ c.1)
  same_chain p (y ∷ ys) c front each back =
      let here = each y (has_here y ys) in
      (front ∙ c.0, here.1 ∙ c.1, same_chain (Some y) ys c.2 here.0 (λ q h. each q (has_there q y ys h)) back)

  module _ (x : ℕ) (b a : Option ℕ) where
    module _ (ab : A b ≡ Some x) (ba : B a ≡ Some x) (keepA : (q : Option ℕ) → q ≢ b → q ≢ Some x → A' q ≡ A q) (keepB : (q : Option ℕ) → q ≢ a → q ≢ Some x → B' q ≡ B q) where
      behind_removed : (p : Option ℕ) (xs : List ℕ) → IsChain A B p xs → p ≢ Some x → has xs x ≡ false → IsChain A' B' p xs
      behind_removed p [] c np h =
          (keepA p (λ e. none_apart x (sym c.0 ∙ ap A e ∙ ab)) np ∙ c.0, keepB None (λ e. np (sym c.1 ∙ ap B e ∙ ba)) (none_apart x) ∙ c.1)
      behind_removed p (y ∷ ys) c np h =
          let l = lacks_cons x y ys h in
          let ne : ◌≢◌ {A = Option ℕ} (Some y) (Some x) = some_apart y x (λ e. l.0 (sym e)) in (
            keepA p (λ e. ne (sym c.0 ∙ ap A e ∙ ab)) np ∙ c.0,
            keepB (Some y) (λ e. np (sym c.1 ∙ ap B e ∙ ba)) ne ∙ c.1,
            behind_removed (Some y) ys c.2 ne l.1,
          )

      removed_here : (p : Option ℕ) (ys : List ℕ) → A (Some x) ≡ a → A' p ≡ a → B' a ≡ p → IsChain A B (Some x) ys → has ys x ≡ false → IsChain A' B' p ys
      removed_here p [] as' to back c h = (to ∙ sym as' ∙ c.0, ap B' (sym c.0 ∙ as') ∙ back)
      removed_here p (z ∷ zs) as' to back c h =
          let l = lacks_cons x z zs h in
          (to ∙ sym as' ∙ c.0, ap B' (sym c.0 ∙ as') ∙ back, behind_removed (Some z) zs c.2 (some_apart z x (λ e. l.0 (sym e))) l.1)

      -- the chain without one of its nodes
      pub removed : B (Some x) ≡ b → A (Some x) ≡ a → A' b ≡ a → B' a ≡ b → (p : Option ℕ) (xs : List ℕ) → IsChain A B p xs → p ≢ Some x → AreApart xs → has xs x ≡ true → IsChain A' B' p (without x xs)
      removed bs as' to back p [] c np apart h = absurd (true≢false (sym h))
      removed bs as' to back p (y ∷ ys) c np apart h = ⊎_elim
          (λ (s : (eqb y x ≡ true) × (y ≡ x)).
          let lacks : has ys x ≡ false = subst (λ n. has ys n ≡ false) s.1 apart.0 in
          let at : b ≡ p = sym bs ∙ ap (λ n. B (Some n)) (sym s.1) ∙ c.1 in
          subst (λ l. IsChain A' B' p l) (sym (without_here x y ys s.1 ∙ without_lacking x ys lacks))
          (removed_here p ys as' (ap A' (sym at) ∙ to) (back ∙ at) (subst (λ n. IsChain A B (Some n) ys) s.1 c.2) lacks))
          (λ (s : (eqb y x ≡ false) × (y ≢ x)).
          let ne : ◌≢◌ {A = Option ℕ} (Some y) (Some x) = some_apart y x s.1 in
          let rest : has ys x ≡ true = ⊎_elim (λ (u : x ≡ y). absurd (s.1 (sym u))) (λ (t : has ys x ≡ true). t) (has_cons x y ys h) in
          subst (λ l. IsChain A' B' p l) (sym (without_there x y ys s.1)) (
            keepA p (λ e. ne (sym c.0 ∙ ap A e ∙ ab)) np ∙ c.0,
            keepB (Some y) (λ e. np (sym c.1 ∙ ap B e ∙ ba)) ne ∙ c.1,
            removed bs as' to back (Some y) ys c.2 ne apart.1 rest,
          ))
          (eqb_tells y x)

  module _ (x : ℕ) where
    behind_front : (y : ℕ) → B (Some y) ≡ None → ((q : Option ℕ) → q ≢ None → q ≢ Some x → A' q ≡ A q) → ((q : Option ℕ) → q ≢ Some y → q ≢ Some x → B' q ≡ B q)
        → (n : ℕ) (ys : List ℕ) → IsChain A B (Some n) ys → n ≢ x → has ys x ≡ false → IsChain A' B' (Some n) ys
    behind_front y first keepA keepB n [] c nx h =
        (keepA (Some n) (λ e. none_apart n (sym e)) (some_apart n x nx) ∙ c.0, keepB None (none_apart y) (none_apart x) ∙ c.1)
    behind_front y first keepA keepB n (z ∷ zs) c nx h =
        let l = lacks_cons x z zs h in
        let ne : z ≢ x = λ e. l.0 (sym e) in (
          keepA (Some n) (λ e. none_apart n (sym e)) (some_apart n x nx) ∙ c.0,
          keepB (Some z) (λ e. none_apart n (sym first ∙ ap B (sym e) ∙ c.1)) (some_apart z x ne) ∙ c.1,
          behind_front y first keepA keepB z zs c.2 ne l.1,
        )

    -- a node joins the chain in front
    pub pushed_front : (a : Option ℕ) → A None ≡ a → A' None ≡ Some x → B' a ≡ Some x → A' (Some x) ≡ a → B' (Some x) ≡ None
        → ((q : Option ℕ) → q ≢ None → q ≢ Some x → A' q ≡ A q) → ((q : Option ℕ) → q ≢ a → q ≢ Some x → B' q ≡ B q)
        → (xs : List ℕ) → IsChain A B None xs → has xs x ≡ false → IsChain A' B' None (x ∷ xs)
    pushed_front a is to back on_a on_b keepA keepB [] c h = (to, on_b, (on_a ∙ sym is ∙ c.0, ap B' (sym c.0 ∙ is) ∙ back))
    pushed_front a is to back on_a on_b keepA keepB (y ∷ ys) c h =
        let l = lacks_cons x y ys h in
        let at : a ≡ Some y = sym is ∙ c.0 in (
          to,
          on_b,
          (
            on_a ∙ at,
            ap B' (sym at) ∙ back,
            behind_front y c.1 keepA (λ q away off. keepB q (λ e. away (e ∙ at)) off) y ys c.2 (λ e. l.0 (sym e)) l.1,
          ),
        )

    -- a node joins the chain at its back
    pub pushed_back : (b : Option ℕ) → B None ≡ b → A b ≡ None → A' b ≡ Some x → B' None ≡ Some x → A' (Some x) ≡ None → B' (Some x) ≡ b
        → ((q : Option ℕ) → q ≢ b → q ≢ Some x → A' q ≡ A q) → ((q : Option ℕ) → q ≢ None → q ≢ Some x → B' q ≡ B q)
        → (p : Option ℕ) (xs : List ℕ) → IsChain A B p xs → p ≢ Some x → has xs x ≡ false → IsChain A' B' p (xs ++ x ∷ [])
    pushed_back b is last to back on_a on_b keepA keepB p [] c np h =
        let at : b ≡ p = sym is ∙ c.1 in
        (ap A' (sym at) ∙ to, on_b ∙ at, (on_a, back))
    pushed_back b is last to back on_a on_b keepA keepB p (y ∷ ys) c np h =
        let l = lacks_cons x y ys h in
        let ne : ◌≢◌ {A = Option ℕ} (Some y) (Some x) = some_apart y x (λ e. l.0 (sym e)) in (
          keepA p (λ e. none_apart y (sym last ∙ ap A (sym e) ∙ c.0)) np ∙ c.0,
          keepB (Some y) (λ e. none_apart y (sym e)) ne ∙ c.1,
          pushed_back b is last to back on_a on_b keepA keepB (Some y) ys c.2 ne l.1,
        )
