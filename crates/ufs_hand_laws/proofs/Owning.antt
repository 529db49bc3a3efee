-- A split, a join and a change of one view keep `Held`.
use Rattle.std.proofs.Common.{◌≡◌, ℕ, zero, suc, ◌+◌, ◌≤◌, ◌≢◌, ◌⊎◌, Bool, true, false, cond, leb, List, [], ◌∷◌, ◌++◌, set, Option, Some, None, sym, refl, ap, ◌∙◌, subst, inl, inr, ⊎_elim, arith, leb-true, leb-false, le-leb}
use mathlib.Core.Option.{some, some-injective, some-ne-none}
use native.Mathlib.Decide.{dec_le}
use lib.ListN.{get_elem?}
use Rattle.atomic_table.proofs.Lists.{at_set, at_snoc, set_else}
use Rattle.ufs_hand_laws.specs.Owned.{total, one, weigh, present, Has, named, count, Held, each, find, only, without, replaced}

module _ {V : Type 0} where
  pub total_set : (f : V → ℕ) (views : List V) (i : ℕ) (v w : V) → get_elem? views i ≡ some v → total f (set views i w) + f v ≡ total f views + f w
  total_set f [] i v w at = absurd (some-ne-none v (sym at))
  total_set f (x ∷ xs) zero v w at = let e : f x ≡ f v = ap f (some-injective x v at) in omega arith
  total_set f (x ∷ xs) (suc i) v w at = let e = total_set f xs i v w at in omega arith

  pub total_push : (f : V → ℕ) (views : List V) (w : V) → total f (views ++ w ∷ []) ≡ total f views + f w
  total_push f [] w = omega arith
  total_push f (x ∷ xs) w = let e = total_push f xs w in omega arith

  pub total_at : (f : V → ℕ) (views : List V) (i : ℕ) (v : V) → get_elem? views i ≡ some v → f v ≤ total f views
  total_at f [] i v at = absurd (some-ne-none v (sym at))
  total_at f (x ∷ xs) zero v at = let e : f x ≡ f v = ap f (some-injective x v at) in omega arith
  total_at f (x ∷ xs) (suc i) v at = let e = total_at f xs i v at in omega arith

  -- two seats
  pub total_two : (f : V → ℕ) (views : List V) (i j : ℕ) (v u : V) → get_elem? views i ≡ some v → get_elem? views j ≡ some u → j ≢ i → f v + f u ≤ total f views
  total_two f [] i j v u a b ne = absurd (some-ne-none v (sym a))
  total_two f (x ∷ xs) zero zero v u a b ne = absurd (ne refl)
  total_two f (x ∷ xs) zero (suc j) v u a b ne = let e : f x ≡ f v = ap f (some-injective x v a) in let t = total_at f xs j u b in omega arith
  total_two f (x ∷ xs) (suc i) zero v u a b ne = let e : f x ≡ f u = ap f (some-injective x u b) in let t = total_at f xs i v a in omega arith
  total_two f (x ∷ xs) (suc i) (suc j) v u a b ne = let t = total_two f xs i j v u a b (λ e. ne (ap suc e)) in omega arith

  -- where something is counted, some seat has it
  pub total_some : (f : V → ℕ) (views : List V) → 1 ≤ total f views → (i : ℕ) × (v : V) × (get_elem? views i ≡ some v) × (1 ≤ f v)
  total_some f [] l = absurd (omega arith)
  total_some f (x ∷ xs) l = at (dec_le 1 (f x)) (total_some f xs)
    where
      at : Dec (1 ≤ f x) → (1 ≤ total f xs → (i : ℕ) × (v : V) × (get_elem? xs i ≡ some v) × (1 ≤ f v)) → (i : ℕ) × (v : V) × (get_elem? (x ∷ xs) i ≡ some v) × (1 ≤ f v)
      at (yes d) r = (0, x, refl, d)
      at (no d) r = let k = r (omega arith) in (suc k.0, k.1, k.2, k.3)

-- a measure of all views stays
module _ {V : Type 0} (f : V → ℕ) where
  pub split_total : (views : List V) (i : ℕ) (v l r : V) → get_elem? views i ≡ some v → f l + f r ≡ f v → total f (set views i l ++ r ∷ []) ≡ total f views
  split_total views i v l r at c = let a = total_set f views i v l at in let b = total_push f (set views i l) r in omega arith

  pub join_total : (views : List V) (i j : ℕ) (v u w z : V) → get_elem? views i ≡ some v → get_elem? (set views i w) j ≡ some u → f w + f z ≡ f v + f u → total f (set (set views i w) j z) ≡ total f views
  join_total views i j v u w z at there c = let a = total_set f views i v w at in let b = total_set f (set views i w) j u z there in omega arith

  pub change_total : (views : List V) (i : ℕ) (v w : V) → get_elem? views i ≡ some v → f w ≡ f v → total f (set views i w) ≡ total f views
  change_total views i v w at c = let a = total_set f views i v w at in omega arith

-- a fact of each view stays
module _ {V : Type 0} (P : V → Type 0) where
  pub all_set : (views : List V) (i : ℕ) (w : V) → ((j : ℕ) (u : V) → get_elem? views j ≡ some u → P u) → P w → (j : ℕ) (u : V) → get_elem? (set views i w) j ≡ some u → P u
  all_set views i w h o j u e = ⊎_elim (λ (t : (j ≡ i) × (w ≡ u)). subst P t.1 o) (λ (t : (j ≢ i) × (get_elem? views j ≡ some u)). h j u t.1) (at_set views i j w u e)

  pub all_split : (views : List V) (i : ℕ) (l r : V) → ((j : ℕ) (u : V) → get_elem? views j ≡ some u → P u) → P l → P r → (j : ℕ) (u : V) → get_elem? (set views i l ++ r ∷ []) j ≡ some u → P u
  all_split views i l r h o p j u e = ⊎_elim (all_set views i l h o j u) (λ q. subst P q p) (at_snoc (set views i l) r u j e)

module _ {A : Type 0} where
  pub has_append : (x : A) (xs ys : List A) → Has x (xs ++ ys) → Has x xs ⊎ Has x ys
  has_append x [] ys h = inr h
  has_append x (y ∷ xs) ys h = ⊎_elim (λ e. inl (inl e)) (λ t. ⊎_elim (λ a. inl (inr a)) (λ b. inr b) (has_append x xs ys t)) h

  pub append_has : (x : A) (xs ys : List A) → Has x xs ⊎ Has x ys → Has x (xs ++ ys)
  append_has x [] ys h = ⊎_elim (λ a. absurd a) (λ b. b) h
  append_has x (y ∷ xs) ys (inl (inl e)) = inl e
  append_has x (y ∷ xs) ys (inl (inr h)) = inr (append_has x xs ys (inl h))
  append_has x (y ∷ xs) ys (inr h) = inr (append_has x xs ys (inr h))

pub weigh_append : {A : Type 0} (m : A → ℕ) (xs ys : List A) → weigh m (xs ++ ys) ≡ weigh m xs + weigh m ys
weigh_append m [] ys = omega arith
weigh_append m (x ∷ xs) ys = let e = weigh_append m xs ys in omega arith

pub present-le : {D : Type 0} (o : Option D) → present o ≤ 1
present-le None = omega arith
present-le (Some d) = omega arith

pub same_some : {D : Type 0} (x y : D) → Some x ≡ Some y → x ≡ y
same_some x y e = cc

pub none_some : {D : Type 0} (x : D) → None ≡ Some x → ⊥
none_some x e = cc

module _ {K D : Type 0} (go : K → D → D) where
  pub weigh_each : (m : K → ℕ) (ps : List (K × D)) → weigh (λ p. m p.0) (each go ps) ≡ weigh (λ p. m p.0) ps
  weigh_each m [] = refl
  weigh_each m (p ∷ ps) = let i = weigh_each m ps in omega arith

  pub has_each : (n : K) (x : D) (ps : List (K × D)) → Has (n, x) (each go ps) → (y : D) × Has (n, y) ps × (go n y ≡ x)
  has_each n x [] h = absurd h
  has_each n x (p ∷ ps) h = ⊎_elim
      (λ (e : (n, x) ≡ (p.0, go p.0 p.1)). let a : n ≡ p.0 = ap (λ (q : K × D). q.0) e in let b : x ≡ go p.0 p.1 = ap (λ (q : K × D). q.1) e in
      (p.1, inl (ap (λ (k : K). (k, p.1)) a), ap (λ (k : K). go k p.1) a ∙ sym b))
      (λ t. let r = has_each n x ps t in (r.0, inr r.1, r.2)) h

  pub each_has : (n : K) (x : D) (ps : List (K × D)) → Has (n, x) ps → Has (n, go n x) (each go ps)
  each_has n x [] h = h
  each_has n x (p ∷ ps) h = ⊎_elim (λ (e : (n, x) ≡ p). inl (ap (λ (q : K × D). (q.0, go q.0 q.1)) e)) (λ t. inr (each_has n x ps t)) h

module _ {K D : Type 0} (q : K → Bool) where
  pub weigh_cut : (m : K × D → ℕ) (ps : List (K × D)) → weigh m (without q ps) + weigh m (only q ps) ≡ weigh m ps
  weigh_cut m [] = refl
  weigh_cut m (p ∷ ps) = at (q p.0) (weigh_cut m ps)
    where
      at : (b : Bool) → weigh m (without q ps) + weigh m (only q ps) ≡ weigh m ps → weigh m (cond b (without q ps) (p ∷ without q ps)) + weigh m (cond b (p ∷ only q ps) (only q ps)) ≡ m p + weigh m ps
      at true i = omega arith
      at false i = omega arith

  pub has_cut : (x : K × D) (ps : List (K × D)) → Has x (without q ps) ⊎ Has x (only q ps) → Has x ps
  has_cut x [] h = ⊎_elim (λ a. a) (λ b. b) h
  has_cut x (p ∷ ps) h = at (q p.0) h (has_cut x ps)
    where
      at : (b : Bool) → Has x (cond b (without q ps) (p ∷ without q ps)) ⊎ Has x (cond b (p ∷ only q ps) (only q ps)) → (Has x (without q ps) ⊎ Has x (only q ps) → Has x ps) → (x ≡ p) ⊎ Has x ps
      at true (inl k) r = inr (r (inl k))
      at true (inr (inl e)) r = inl e
      at true (inr (inr k)) r = inr (r (inr k))
      at false (inl (inl e)) r = inl e
      at false (inl (inr k)) r = inr (r (inl k))
      at false (inr k) r = inr (r (inr k))

module _ {K D : Type 0} (same : K → K → Bool) (itself : (n : K) → same n n ≡ true) (alike : (a b : K) → same a b ≡ true → a ≡ b) where
  pub count_has : (n : K) (x : D) (ps : List (K × D)) → Has (n, x) ps → 1 ≤ count same n ps
  count_has n x [] h = absurd h
  count_has n x (p ∷ ps) h = ⊎_elim (λ e. let s : one (same n p.0) ≡ 1 = ap one (ap (same n) (sym (ap (λ (q : K × D). q.0) e)) ∙ itself n) in omega arith) (λ t. let c = count_has n x ps t in omega arith) h

  pub has_count : (n : K) (ps : List (K × D)) → 1 ≤ count same n ps → (x : D) × Has (n, x) ps
  has_count n [] l = absurd (omega arith)
  has_count n (p ∷ ps) l = at (same n p.0) refl (has_count n ps) l
    where
      at : (b : Bool) → same n p.0 ≡ b → (1 ≤ count same n ps → (x : D) × Has (n, x) ps) → 1 ≤ one b + count same n ps → (x : D) × (((n, x) ≡ p) ⊎ Has (n, x) ps)
      at true e r m = (p.1, inl (ap (λ (k : K). (k, p.1)) (alike n p.0 e)))
      at false e r m = let t = r (omega arith) in (t.0, inr t.1)

  pub find_has : (n : K) (x : D) (ps : List (K × D)) → find same n ps ≡ Some x → Has (n, x) ps
  find_has n x [] e = absurd (none_some x e)
  find_has n x (p ∷ ps) e = at (same n p.0) refl e (find_has n x ps)
    where
      at : (b : Bool) → same n p.0 ≡ b → cond b (Some p.1) (find same n ps) ≡ Some x → (find same n ps ≡ Some x → Has (n, x) ps) → ((n, x) ≡ p) ⊎ Has (n, x) ps
      at true s f r = inl (ap (λ (k : K). (k, x)) (alike n p.0 s) ∙ ap (λ (y : D). (p.0, y)) (sym (same_some p.1 x f)))
      at false s f r = inr (r f)

  pub has_find : (n : K) (x : D) (ps : List (K × D)) → count same n ps ≤ 1 → Has (n, x) ps → find same n ps ≡ Some x
  has_find n x [] l h = absurd h
  has_find n x (p ∷ ps) l h = ⊎_elim
      (λ (e : (n, x) ≡ p). ap (λ b. cond b (Some p.1) (find same n ps)) (ap (same n) (sym (ap (λ (q : K × D). q.0) e)) ∙ itself n) ∙ ap (λ (q : K × D). Some q.1) (sym e))
      (λ t. at (same n p.0) l (count_has n x ps t) (λ m. has_find n x ps m t)) h
    where
      at : (b : Bool) → one b + count same n ps ≤ 1 → 1 ≤ count same n ps → (count same n ps ≤ 1 → find same n ps ≡ Some x) → cond b (Some p.1) (find same n ps) ≡ Some x
      at true l m r = absurd (omega arith)
      at false l m r = r (omega arith)

  pub present_find : (n : K) (ps : List (K × D)) → count same n ps ≤ 1 → present (find same n ps) ≡ count same n ps
  present_find n [] l = refl
  present_find n (p ∷ ps) l = at (same n p.0) l (present_find n ps)
    where
      at : (b : Bool) → one b + count same n ps ≤ 1 → (count same n ps ≤ 1 → present (find same n ps) ≡ count same n ps) → present (cond b (Some p.1) (find same n ps)) ≡ one b + count same n ps
      at true l r = omega arith
      at false l r = let i = r (omega arith) in omega arith

  module _ {V : Type 0} (parts : V → List (K × D)) (G : K → Option D) where
    -- a name stands once at most in a view
    pub once_in : (views : List V) (i : ℕ) (v : V) → get_elem? views i ≡ some v → Held same parts views G → (n : K) → count same n (parts v) ≤ 1
    once_in views i v at h n = let o = h.once n in let b = total_at (λ u. count same n (parts u)) views i v at in let e = present-le (G n) in omega arith

    -- what is there, some view has
    pub some_view : (views : List V) → Held same parts views G → (n : K) (x : D) → G n ≡ Some x → (i : ℕ) × (v : V) × (get_elem? views i ≡ some v) × Has (n, x) (parts v)
    some_view views h n x e =
        let o = h.once n in let p : present (G n) ≡ 1 = ap present e in
        let k = total_some (λ u. count same n (parts u)) views (omega arith) in
        let y = has_count n (parts k.1) k.3 in
        let is : y.0 ≡ x = same_some y.0 x (sym (h.agree k.0 k.1 k.2 n y.0 y.1) ∙ e) in
        (k.0, k.1, k.2, subst (λ (z : D). Has (n, z) (parts k.1)) is y.1)

    -- a view is cut in two
    pub split_holds : (views : List V) (i : ℕ) (v l r : V) → get_elem? views i ≡ some v → Held same parts views G
        → ((n : K) → count same n (parts l) + count same n (parts r) ≡ count same n (parts v))
        → ((n : K) (x : D) → Has (n, x) (parts l) ⊎ Has (n, x) (parts r) → Has (n, x) (parts v))
        → Held same parts (set views i l ++ r ∷ []) G
    split_holds views i v l r at h c m = record {
      once = λ n. split_total (λ u. count same n (parts u)) views i v l r at (c n) ∙ h.once n;
      agree = λ j u e n x p. all_split (λ (u : V). (n : K) (x : D) → Has (n, x) (parts u) → G n ≡ Some x) views i l r h.agree (λ n x p. h.agree i v at n x (m n x (inl p))) (λ n x p. h.agree i v at n x (m n x (inr p))) j u e n x p;
    }

    -- the names that pass a test go over
    pub cut_holds : (q : K → Bool) (views : List V) (i : ℕ) (v l r : V) → get_elem? views i ≡ some v → Held same parts views G → parts l ≡ without q (parts v) → parts r ≡ only q (parts v) → Held same parts (set views i l ++ r ∷ []) G
    cut_holds q views i v l r at h a b = split_holds views i v l r at h
        (λ n. let c : count same n (parts l) ≡ count same n (without q (parts v)) = ap (count same n) a in let d : count same n (parts r) ≡ count same n (only q (parts v)) = ap (count same n) b in let e = weigh_cut q (named same n) (parts v) in omega arith)
        (λ n x k. has_cut q (n, x) (parts v) (⊎_elim (λ p. inl (subst (Has (n, x)) a p)) (λ p. inr (subst (Has (n, x)) b p)) k))

    -- a view takes in another, which is left with nothing
    pub join_holds : (views : List V) (i j : ℕ) (v u w z : V) → get_elem? views i ≡ some v → j ≢ i → get_elem? (set views i w) j ≡ some u → Held same parts views G
        → parts z ≡ [] → parts w ≡ parts v ++ parts u → Held same parts (set (set views i w) j z) G
    join_holds views i j v u w z at ne there h none_left is =
        let there' : get_elem? views j ≡ some u = sym (set_else views i j w ne) ∙ there in
        record {
          once = λ n. join_total (λ y. count same n (parts y)) views i j v u w z at there
              (let a : count same n (parts w) ≡ count same n (parts v ++ parts u) = ap (count same n) is in let b = weigh_append (named same n) (parts v) (parts u) in let e : count same n (parts z) ≡ 0 = ap (count same n) none_left in omega arith) ∙ h.once n;
          agree = all_set (λ (u : V). (n : K) (x : D) → Has (n, x) (parts u) → G n ≡ Some x) (set views i w) j z
              (all_set (λ (u : V). (n : K) (x : D) → Has (n, x) (parts u) → G n ≡ Some x) views i w h.agree
              (λ n x p. ⊎_elim (h.agree i v at n x) (h.agree j u there' n x) (has_append (n, x) (parts v) (parts u) (subst (Has (n, x)) is p))))
              (λ n x p. absurd (subst (Has (n, x)) none_left p));
        }

    -- the values of one view are replaced; a new name is new to all
    pub replace_holds : (views : List V) (i : ℕ) (v w : V) → get_elem? views i ≡ some v → Held same parts views G
        → ((n : K) → count same n (parts w) ≤ 1)
        → ((n : K) → count same n (parts v) ≡ 0 → 1 ≤ count same n (parts w) → G n ≡ None)
        → Held same parts (set views i w) (replaced same (parts v) (parts w) G)
    replace_holds views i v w at h single fresh = record {
      once = λ n. once_at n (leb 1 (count same n (parts v) + count same n (parts w))) refl;
      agree = λ j u e n x p. ⊎_elim
          (λ (t : (j ≡ i) × (w ≡ u)). let q = subst (λ (y : V). Has (n, x) (parts y)) (sym t.1) p in let c = count_has n x (parts w) q in ap (λ b. cond b (find same n (parts w)) (G n)) (le-leb 1 _ (omega arith)) ∙ has_find n x (parts w) (single n) q)
          (λ (t : (j ≢ i) × (get_elem? views j ≡ some u)). other j u n x t.0 t.1 p (dec_le 1 (count same n (parts v))) (dec_le 1 (count same n (parts w))))
          (at_set views i j w u e);
    }
      where
        once_at : (n : K) (b : Bool) → leb 1 (count same n (parts v) + count same n (parts w)) ≡ b → total (λ u. count same n (parts u)) (set views i w) ≡ present (cond b (find same n (parts w)) (G n))
        once_at n true e =
            let l : 1 ≤ count same n (parts v) + count same n (parts w) = leb-true 1 _ e in
            let a = total_set (λ u. count same n (parts u)) views i v w at in let o = h.once n in let b = total_at (λ u. count same n (parts u)) views i v at in let p = present-le (G n) in
            let f = present_find n (parts w) (single n) in
            here (dec_le 1 (count same n (parts v))) a o b p f l
          where
            here : Dec (1 ≤ count same n (parts v)) → total (λ u. count same n (parts u)) (set views i w) + count same n (parts v) ≡ total (λ u. count same n (parts u)) views + count same n (parts w) → total (λ u. count same n (parts u)) views ≡ present (G n)
                → count same n (parts v) ≤ total (λ u. count same n (parts u)) views → present (G n) ≤ 1 → present (find same n (parts w)) ≡ count same n (parts w) → 1 ≤ count same n (parts v) + count same n (parts w) → total (λ u. count same n (parts u)) (set views i w) ≡ present (find same n (parts w))
            here (yes d) a o b p f l = omega arith
            here (no d) a o b p f l = let g : present (G n) ≡ 0 = ap present (fresh n (omega arith) (omega arith)) in omega arith
        once_at n false e = let l = leb-false 1 _ e in let a = total_set (λ u. count same n (parts u)) views i v w at in let o = h.once n in omega arith

        other : (j : ℕ) (u : V) (n : K) (x : D) → j ≢ i → get_elem? views j ≡ some u → Has (n, x) (parts u) → Dec (1 ≤ count same n (parts v)) → Dec (1 ≤ count same n (parts w)) → replaced same (parts v) (parts w) G n ≡ Some x
        other j u n x ne at' p (yes d) dw = let t = total_two (λ y. count same n (parts y)) views i j v u at at' ne in let o = h.once n in let c = count_has n x (parts u) p in let e = present-le (G n) in absurd (omega arith)
        other j u n x ne at' p (no d) (yes e) = let t = total_at (λ y. count same n (parts y)) views j u at' in let o = h.once n in let c = count_has n x (parts u) p in let f : present (G n) ≡ 0 = ap present (fresh n (omega arith) e) in absurd (omega arith)
        other j u n x ne at' p (no d) (no e) = ap (λ b. cond b (find same n (parts w)) (G n)) (leb-false' (count same n (parts v) + count same n (parts w)) (omega arith)) ∙ h.agree j u at' n x p
          where
            leb-false' : (k : ℕ) → k ≡ 0 → leb 1 k ≡ false
            leb-false' k z = ap (leb 1) z

  -- ---- what stands after a replacement

  module _ (old new : List (K × D)) (G : K → Option D) where
    pub replaced_back : ((n : K) → count same n new ≤ 1) → (n : K) (x : D) → replaced same old new G n ≡ Some x → Has (n, x) new ⊎ ((count same n old ≡ 0) × (count same n new ≡ 0) × (G n ≡ Some x))
    replaced_back single n x e = at (leb 1 (count same n old + count same n new)) refl e
      where
        at : (b : Bool) → leb 1 (count same n old + count same n new) ≡ b → cond b (find same n new) (G n) ≡ Some x → Has (n, x) new ⊎ ((count same n old ≡ 0) × (count same n new ≡ 0) × (G n ≡ Some x))
        at true l f = inl (find_has n x new f)
        at false l f = let z = leb-false 1 _ l in inr (omega arith, omega arith, f)

    pub replaced_here : ((n : K) → count same n new ≤ 1) → (n : K) (x : D) → Has (n, x) new → replaced same old new G n ≡ Some x
    replaced_here single n x h = let c = count_has n x new h in ap (λ b. cond b (find same n new) (G n)) (le-leb 1 _ (omega arith)) ∙ has_find n x new (single n) h

    pub replaced_else : (n : K) → count same n old ≡ 0 → count same n new ≡ 0 → replaced same old new G n ≡ G n
    replaced_else n a b = ap (λ b. cond b (find same n new) (G n)) (zero_of (count same n old + count same n new) (omega arith))
      where
        zero_of : (k : ℕ) → k ≡ 0 → leb 1 k ≡ false
        zero_of k z = ap (leb 1) z

    pub replaced_count : ((n : K) → count same n new ≤ 1) → (n : K) → 1 ≤ count same n old + count same n new → present (replaced same old new G n) ≡ count same n new
    replaced_count single n l = ap (λ b. present (cond b (find same n new) (G n))) (le-leb 1 _ l) ∙ present_find n new (single n)

-- a view whose parts of one kind stay
pub same_holds : {K D V : Type 0} (same : K → K → Bool) (parts : V → List (K × D)) (G : K → Option D) (views : List V) (i : ℕ) (v w : V) → get_elem? views i ≡ some v → parts w ≡ parts v → Held same parts views G → Held same parts (set views i w) G
same_holds {K} {D} {V} same parts G views i v w at is h = record {
  once = λ n. change_total (λ u. count same n (parts u)) views i v w at (ap (count same n) is) ∙ h.once n;
  agree = all_set (λ (u : V). (n : K) (x : D) → Has (n, x) (parts u) → G n ≡ Some x) views i w h.agree (λ n x p. h.agree i v at n x (subst (Has (n, x)) is p));
}

-- a part that some view has and that keeps its name is there as before
pub replaced_present : {K D V : Type 0} (same : K → K → Bool) (itself : (n : K) → same n n ≡ true) (alike : (a b : K) → same a b ≡ true → a ≡ b) (parts : V → List (K × D)) (G : K → Option D) (views : List V) (i : ℕ) (v w : V)
    → get_elem? views i ≡ some v → Held same parts views G → (n : K) → count same n (parts w) ≡ count same n (parts v) → present (replaced same (parts v) (parts w) G n) ≡ present (G n)
replaced_present same itself alike parts G views i v w at h n c = by (dec_le 1 (count same n (parts v)))
  where
    by : Dec (1 ≤ count same n (parts v)) → present (replaced same (parts v) (parts w) G n) ≡ present (G n)
    by (yes l) =
        let o = h.once n in let b = total_at (λ u. count same n (parts u)) views i v at in let p = present-le (G n) in
        let f = present_find same itself alike n (parts w) (omega arith) in
        let r : present (replaced same (parts v) (parts w) G n) ≡ present (find same n (parts w)) = ap (λ b. present (cond b (find same n (parts w)) (G n))) (le-leb 1 _ (omega arith)) in
        omega arith
    by (no l) = ap present (replaced_else same itself alike (parts v) (parts w) G n (omega arith) (omega arith))
