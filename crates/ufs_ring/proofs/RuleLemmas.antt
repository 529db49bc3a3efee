-- Each step of an end keeps the rule of the ring.
use Rattle.std.proofs.Common.{◌≡◌, ◌≢◌, ℕ, zero, suc, ◌+◌, ◌<◌, ◌==◌, true, false, cond, List, [], ◌∷◌, ◌++◌, length, set, sym, refl, ap, ◌∙◌, subst, ⊎_elim, inl, inr, ◌⊎◌, append_assoc, append-nil, arith}
use Rattle.std.proofs.lemmas.Bool.Decides.{nat_tests}
use Rattle.std.proofs.lemmas.List.{length-set}
use mathlib.Core.Option.{some, some-ne-none, some-injective}
use lib.ListN.{get_elem?}
use Rattle.crossbeam_queue.specs.Fifo.{Pushes, Pops, Admits, Learns}
use Rattle.crossbeam_queue.proofs.Lists.{at_set}
use Rattle.ufs_ring.specs.declared.ruled.Trail.{Trail}
use Rattle.ufs_ring.specs.Orders.{trail, by, items_of, Fits, Keeps, Seen}
use Rattle.ufs_ring.specs.Runs.{IsFrontOf}

module _ {T : Type 0} where
  there : (l : List (Trail T)) (j : ℕ) (b : Trail T) → get_elem? l j ≡ some b → j < length l
  there [] j b e = absurd (some-ne-none b (sym e))
  there (x ∷ xs) zero b e = omega arith
  there (x ∷ xs) (suc j) b e = let h = there xs j b e in omega arith

  snoc_cases : (l : List (Trail T)) (a b : Trail T) (j : ℕ) → get_elem? (l ++ a ∷ []) j ≡ some b → (get_elem? l j ≡ some b) ⊎ ((j ≡ length l) × (a ≡ b))
  snoc_cases [] a b zero e = inr (refl, some-injective a b e)
  snoc_cases [] a b (suc j) e = absurd (some-ne-none b (sym e))
  snoc_cases (x ∷ xs) a b zero e = inl e
  snoc_cases (x ∷ xs) a b (suc j) e = ⊎_elim (λ h. inl h) (λ h. inr (ap suc h.0, h.1)) (snoc_cases xs a b j e)

  by_append : (p : ℕ) (l m : List (ℕ × T)) → by p (l ++ m) ≡ by p l ++ by p m
  by_append p [] m = refl
  by_append p (e ∷ l) m = elim (e.0 == p) as (λ b. cond b (e.1 ∷ by p (l ++ m)) (by p (l ++ m)) ≡ cond b (e.1 ∷ by p l) (by p l) ++ by p m) [
    | true ↦ ap (λ t. e.1 ∷ t) (by_append p l m)
    | false ↦ by_append p l m
  ]

  items_append : (l m : List (ℕ × T)) → items_of (l ++ m) ≡ items_of l ++ items_of m
  items_append [] m = refl
  items_append (e ∷ l) m = ap (λ t. e.1 ∷ t) (items_append l m)

  by_self : (p : ℕ) (x : T) → by p ((p, x) ∷ []) ≡ x ∷ []
  by_self p x = let e : (p == p) ≡ true = grind (arith, nat_tests) in rw e refl

  by_other : (q p : ℕ) (x : T) → q ≢ p → by p ((q, x) ∷ []) ≡ []
  by_other q p x ne = let e : (q == p) ≡ false = grind (arith, nat_tests) in rw e refl

  all_set : (F : ℕ → Trail T → Type 0) (views : List (Trail T)) (port : ℕ) (w : Trail T) → F port w → ((j : ℕ) (u : Trail T) → j ≢ port → get_elem? views j ≡ some u → F j u)
      → (j : ℕ) (u : Trail T) → get_elem? (set views port w) j ≡ some u → F j u
  all_set F views port w mine others j u e = ⊎_elim (λ (x : (j ≡ port) × (w ≡ u)). subst (λ (y : ℕ × Trail T). F y.0 y.1) (λ i. (sym x.0 i, x.1 i)) mine)
      (λ (x : (j ≢ port) × (get_elem? views j ≡ some u)). others j u x.0 x.1) (at_set views port j w u e)

  length_snoc : (l : List (Trail T)) (a : Trail T) → length (l ++ a ∷ []) ≡ length l + 1
  length_snoc [] a = refl
  length_snoc (x ∷ xs) a = let h = length_snoc xs a in omega arith

  -- one more move of end p
  mine_more : (p : ℕ) (log : List (ℕ × T)) (l : List T) (x : T) → l ≡ by p log → l ++ x ∷ [] ≡ by p (log ++ (p, x) ∷ [])
  mine_more p log l x e = ap (λ m. m ++ x ∷ []) e ∙ sym (by_append p log ((p, x) ∷ []) ∙ ap (λ m. by p log ++ m) (by_self p x))

  others_more : (p q : ℕ) (log : List (ℕ × T)) (x : T) → q ≢ p → by q (log ++ (p, x) ∷ []) ≡ by q log
  others_more p q log x ne = by_append q log ((p, x) ∷ []) ∙ (let n : p ≢ q = λ e. ne (sym e) in rw (by_other p q x n) (append-nil (by q log)))

  pub begins : Keeps {T = T} [] (trail [] [] ∷ [])
  begins = record {
    put = [];
    taken = [];
    order = refl;
    new_put = λ p h. refl;
    new_taken = λ p h. refl;
    fits = λ p v e. ⊎_elim (λ h. absurd (some-ne-none v (sym h))) (λ h. subst (λ (y : ℕ × Trail T). Fits [] [] y.0 y.1) (λ i. (sym h.0 i, h.1 i)) (record { puts = refl; takes = refl })) (snoc_cases [] (trail [] []) v p e);
  }

  pub admits : Admits Keeps (trail {T = T} [] [])
  admits items views h = record {
    put = h.put;
    taken = h.taken;
    order = h.order;
    new_put = λ p le. let len = length_snoc views (trail [] []) in h.new_put p (omega arith);
    new_taken = λ p le. let len = length_snoc views (trail [] []) in h.new_taken p (omega arith);
    fits = λ p v e. ⊎_elim (λ x. h.fits p v x)
        (λ x. subst (λ (y : ℕ × Trail T). Fits h.put h.taken y.0 y.1) (λ i. (sym x.0 i, x.1 i)) (record { puts = sym (h.new_put (length views) (omega arith)); takes = sym (h.new_taken (length views) (omega arith)) }))
        (snoc_cases views (trail [] []) v p e);
  }

  pub puts : (n port : ℕ) (v : Trail T) (x : T) → Pushes Keeps n port v x (λ w. w ≡ trail (v.put ++ x ∷ []) v.taken)
  puts n port v x items views room h at =
      let w = trail (v.put ++ x ∷ []) v.taken in
      let mine = h.fits port v at in
      let put = h.put ++ (port, x) ∷ [] in
      let small = there views port v at in
      let len = length-set views port w in (
        w,
        record {
          put = put;
          taken = h.taken;
          order = items_append h.put ((port, x) ∷ []) ∙ ap (λ l. l ++ x ∷ []) h.order ∙ append_assoc (items_of h.taken) items (x ∷ []);
          new_put = λ p le. let ne : p ≢ port = λ e. absurd (omega arith) in others_more port p h.put x ne ∙ h.new_put p (omega arith);
          new_taken = λ p le. h.new_taken p (omega arith);
          fits = all_set (Fits put h.taken) views port w (record { puts = mine_more port h.put v.put x mine.puts; takes = mine.takes })
              (λ j u ne e. let f = h.fits j u e in record { puts = f.puts ∙ sym (others_more port j h.put x ne); takes = f.takes });
        },
        refl,
      )

  pub takes : (port : ℕ) (v : Trail T) → Pops Keeps port v (λ x w. w ≡ trail v.put (v.taken ++ x ∷ []))
  takes port v x items views h at =
      let w = trail v.put (v.taken ++ x ∷ []) in
      let mine = h.fits port v at in
      let taken = h.taken ++ (port, x) ∷ [] in
      let small = there views port v at in
      let len = length-set views port w in (
        w,
        record {
          put = h.put;
          taken = taken;
          order = h.order ∙ sym (append_assoc (items_of h.taken) (x ∷ []) items) ∙ ap (λ l. l ++ items) (sym (items_append h.taken ((port, x) ∷ [])));
          new_put = λ p le. h.new_put p (omega arith);
          new_taken = λ p le. let ne : p ≢ port = λ e. absurd (omega arith) in others_more port p h.taken x ne ∙ h.new_taken p (omega arith);
          fits = all_set (Fits h.put taken) views port w (record { puts = mine.puts; takes = mine_more port h.taken v.taken x mine.takes })
              (λ j u ne e. let f = h.fits j u e in record { puts = f.puts; takes = f.takes ∙ sym (others_more port j h.taken x ne) });
        },
        refl,
      )

  pub sees : (port : ℕ) (v : Trail T) → Learns Keeps port v (Seen v)
  sees port v items views h at = record { p = port; put = h.put; taken = h.taken; order = h.order; mine = h.fits port v at }

  pub order_is_front : (items : List T) (views : List (Trail T)) (k : Keeps items views) → IsFrontOf (items_of k.taken) (items_of k.put)
  order_is_front items views k = (items, k.order)
