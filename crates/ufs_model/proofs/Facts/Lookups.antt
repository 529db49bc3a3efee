-- What stands at the keys of a map, as they come and go or are given new names.
use Rattle.std.proofs.Common.{◌≡◌, ◌⊎◌, inl, inr, List, [], ◌∷◌, Bool, true, false, cond, Option, Some, None, is_some, ap, sym, refl, ◌∙◌, map, ◌||◌}
use Rattle.std.specs.declared.cmp.Ordering.{Ordering}
use Rattle.std.specs.declared.cmp.Ordering.TheVariants.{Less, Equal, Greater}
use Rattle.std.specs.List.{list_any}
use Rattle.std.specs.Ordering.{is_eq, eq_by_cmp}
use Rattle.std.specs.Cmp.{IsTotalOrder, eq_by_cmp_equiv}
use Rattle.std.specs.FinMap as fin
use Rattle.std.specs.FinMap.{FinMap, IsAntisymmetric, get, insert, remove, find, entries, from_entries, get-entries, get-insert, get-remove, get-from_entries, is_sorted}
use Rattle.std.specs.FinMap.Entries.{below_all}
use Rattle.std.proofs.lemmas.Bool.{and_parts}
use Rattle.ufs_model.proofs.Facts.Rising.{entries-rise, less}

-- what is there is there once
pub same_some : {A : Type 0} (x y : A) → Some x ≡ Some y → x ≡ y
same_some x y e = cc

-- something is there, or nothing
pub there_or_not : {A : Type 0} (o : Option A) → ((x : A) × (o ≡ Some x)) ⊎ (o ≡ None)
there_or_not (Some x) = inl (x, refl)
there_or_not None = inr refl

pub from_some : {A : Type 0} (o : Option A) → is_some o ≡ true → (x : A) × (o ≡ Some x)
from_some (Some x) e = (x, refl)
from_some None e = cc

pub tied : (r : Ordering) → is_eq r ≡ true → r ≡ Equal
tied Less e = cc
tied Equal e = refl
tied Greater e = cc

module _ {K : Type 0} {R : K → K → Ordering} (o : IsTotalOrder R) (same : IsAntisymmetric R) where
  -- ---- two keys are one, or apart

  pub one_key : (x y : K) → eq_by_cmp R x y ≡ true → x ≡ y
  one_key x y e = same x y (tied _ e)

  pub apart : (x y : K) → (x ≡ y → ⊥) → eq_by_cmp R x y ≡ false
  apart x y not = by (eq_by_cmp R x y) refl
    where
      by : (b : Bool) → eq_by_cmp R x y ≡ b → eq_by_cmp R x y ≡ false
      by true e = absurd (not (one_key x y e))
      by false e = e

  pub is_apart : (x y : K) → eq_by_cmp R x y ≡ false → x ≡ y → ⊥
  is_apart x y e is = let tie = ap (λ z. eq_by_cmp R z y) (sym is) ∙ e in let self = (eq_by_cmp_equiv o).refl y in cc

  pub one_or_apart : (x y : K) → (x ≡ y) ⊎ (x ≡ y → ⊥)
  one_or_apart x y = by (eq_by_cmp R x y) refl
    where
      by : (b : Bool) → eq_by_cmp R x y ≡ b → (x ≡ y) ⊎ (x ≡ y → ⊥)
      by true e = inl (one_key x y e)
      by false e = inr (is_apart x y e)

module _ {K X : Type 0} {R : K → K → Ordering} (o : IsTotalOrder R) (same : IsAntisymmetric R) where
  -- ---- a key comes or goes

  pub inserted_here : (m : FinMap R X) (k : K) (v : X) → get (insert m k v) k ≡ Some v
  inserted_here m k v = get-insert o m k v k ∙ ap (λ b. cond b (Some v) (get m k)) ((eq_by_cmp_equiv o).refl k)

  pub inserted_else : (m : FinMap R X) (k : K) (v : X) (q : K) → (q ≡ k → ⊥) → get (insert m k v) q ≡ get m q
  inserted_else m k v q not = get-insert o m k v q ∙ ap (λ b. cond b (Some v) (get m q)) (apart o same q k not)

  pub removed_here : (m : FinMap R X) (k : K) → get (remove m k) k ≡ None
  removed_here m k = get-remove o m k k ∙ ap (λ b. cond b None (get m k)) ((eq_by_cmp_equiv o).refl k)

  pub removed_else : (m : FinMap R X) (k : K) (q : K) → (q ≡ k → ⊥) → get (remove m k) q ≡ get m q
  removed_else m k q not = get-remove o m k q ∙ ap (λ b. cond b None (get m q)) (apart o same q k not)

  -- what is left was there, at another key
  pub left_was : (m : FinMap R X) (k q : K) (v : X) → get (remove m k) q ≡ Some v → (q ≡ k → ⊥) × (get m q ≡ Some v)
  left_was m k q v there = by (one_or_apart o same q k)
    where
      by : (q ≡ k) ⊎ (q ≡ k → ⊥) → (q ≡ k → ⊥) × (get m q ≡ Some v)
      by (inl e) = let none = ap (get (remove m k)) e ∙ removed_here m k in cc
      by (inr not) = (not, sym (removed_else m k q not) ∙ there)

  -- ---- some entry passes a test

  -- a key below all others isn't found among them
  pub below_none : (k : K) (es : List (K × X)) → below_all R k es ≡ true → find R k es ≡ None
  below_none k [] h = refl
  below_none k (e ∷ es) h =
      let both = and_parts _ _ h in
      ap (λ r. cond (is_eq r) (Some e.1) (find R k es)) (less _ both.0) ∙ below_none k es both.1

  module _ (p : K × X → Bool) where
    abbrev pub EntryPasses : FinMap R X → Type 0
    EntryPasses m = (k : K) × (v : X) × (get m k ≡ Some v) × (p (k, v) ≡ true)

    passes_some : (es : List (K × X)) → is_sorted R es ≡ true → list_any p es ≡ true → (k : K) × (v : X) × (find R k es ≡ Some v) × (p (k, v) ≡ true)
    passes_some [] sorted e = cc
    passes_some (x ∷ es) sorted e = by (p x) refl (passes_some es (and_parts _ _ sorted).1) e
      where
        later : (k : K) (v : X) → find R k es ≡ Some v → find R k (x ∷ es) ≡ Some v
        later k v there = at (eq_by_cmp R k x.0) refl
          where
            at : (b : Bool) → eq_by_cmp R k x.0 ≡ b → cond (eq_by_cmp R k x.0) (Some x.1) (find R k es) ≡ Some v
            at true is = let none = below_none x.0 es (and_parts _ _ sorted).0 in let moved = ap (λ k. find R k es) (one_key o same k x.0 is) in cc
            at false is = ap (λ b. cond b (Some x.1) (find R k es)) is ∙ there

        by : (b : Bool) → p x ≡ b → (list_any p es ≡ true → (k : K) × (v : X) × (find R k es ≡ Some v) × (p (k, v) ≡ true))
            → (b || list_any p es) ≡ true → (k : K) × (v : X) × (find R k (x ∷ es) ≡ Some v) × (p (k, v) ≡ true)
        by true is more h = (x.0, x.1, ap (λ b. cond b (Some x.1) (find R x.0 es)) ((eq_by_cmp_equiv o).refl x.0), is)
        by false is more h = let rest = more h in (rest.0, rest.1, later rest.0 rest.1 rest.2, rest.3)

    some_passes : (es : List (K × X)) (k : K) (v : X) → find R k es ≡ Some v → p (k, v) ≡ true → list_any p es ≡ true
    some_passes [] k v e h = cc
    some_passes (x ∷ es) k v e h = by (eq_by_cmp R k x.0) refl (p x) refl (λ there. some_passes es k v there h) e
      where
        by : (b : Bool) → eq_by_cmp R k x.0 ≡ b → (c : Bool) → p x ≡ c → (find R k es ≡ Some v → list_any p es ≡ true) → cond b (Some x.1) (find R k es) ≡ Some v → (c || list_any p es) ≡ true
        by b tie true is more e = refl
        by true tie false is more e =
            let key = one_key o same k x.0 tie in
            let value = same_some x.1 v e in
            let passes : p x ≡ true = (λ i. p (sym key i, value i)) ∙ h in
            cc
        by false tie false is more e = more e

    pub entry_passes : (m : FinMap R X) → list_any p (entries m) ≡ true → EntryPasses m
    entry_passes m e =
        let is = passes_some (entries m) (entries-rise m) e in
        (is.0, is.1, get-entries m is.0 ∙ is.2, is.3)

    pub from_entry_passes : (m : FinMap R X) → EntryPasses m → list_any p (entries m) ≡ true
    from_entry_passes m is = some_passes (entries m) is.0 is.1 (sym (get-entries m is.0) ∙ is.2) is.3

  -- ---- some value passes a test

  abbrev pub Passes : (X → Bool) → FinMap R X → Type 0
  Passes p m = (k : K) × (v : X) × (get m k ≡ Some v) × (p v ≡ true)

  module _ (p : X → Bool) where
    any_value : (es : List (K × X)) → list_any p (map (λ e. e.1) es) ≡ list_any (λ e. p e.1) es
    any_value [] = refl
    any_value (e ∷ es) = ap (λ b. p e.1 || b) (any_value es)

    pub passes : (m : FinMap R X) → list_any p (fin.values m) ≡ true → Passes p m
    passes m e = entry_passes (λ e. p e.1) m (sym (any_value (entries m)) ∙ e)

    pub from_passes : (m : FinMap R X) → Passes p m → list_any p (fin.values m) ≡ true
    from_passes m is = any_value (entries m) ∙ from_entry_passes (λ e. p e.1) m is

  -- a key that is there passes a test of keys
  pub found_passes : (q : K → Bool) (es : List (K × X)) (k : K) → is_some (find R k es) ≡ true → q k ≡ true → list_any q (map (λ e. e.0) es) ≡ true
  found_passes q [] k e h = cc
  found_passes q (x ∷ es) k e h = by (eq_by_cmp R k x.0) refl (q x.0) refl (λ there. found_passes q es k there h) e
    where
      by : (b : Bool) → eq_by_cmp R k x.0 ≡ b → (c : Bool) → q x.0 ≡ c → (is_some (find R k es) ≡ true → list_any q (map (λ e. e.0) es) ≡ true)
          → is_some (cond b (Some x.1) (find R k es)) ≡ true → (c || list_any q (map (λ e. e.0) es)) ≡ true
      by b tie true is more e = refl
      by true tie false is more e = let one = ap q (one_key o same k x.0 tie) in cc
      by false tie false is more e = more e

  pub key_passes : (q : K → Bool) (m : FinMap R X) (k : K) → is_some (get m k) ≡ true → q k ≡ true → list_any q (fin.keys m) ≡ true
  key_passes q m k e h = found_passes q (entries m) k (ap is_some (sym (get-entries m k)) ∙ e) h

  -- a key that passes a test of keys is there
  pub passing_found : (q : K → Bool) (es : List (K × X)) → list_any q (map (λ e. e.0) es) ≡ true → (k : K) × (is_some (find R k es) ≡ true) × (q k ≡ true)
  passing_found q [] e = cc
  passing_found q (x ∷ es) e = by (q x.0) refl (passing_found q es) e
    where
      later : (k : K) (b : Bool) → is_some (find R k es) ≡ true → is_some (cond b (Some x.1) (find R k es)) ≡ true
      later k true h = refl
      later k false h = h

      by : (c : Bool) → q x.0 ≡ c → (list_any q (map (λ e. e.0) es) ≡ true → (k : K) × (is_some (find R k es) ≡ true) × (q k ≡ true))
          → (c || list_any q (map (λ e. e.0) es)) ≡ true → (k : K) × (is_some (find R k (x ∷ es)) ≡ true) × (q k ≡ true)
      by true is more h = (x.0, ap (λ b. is_some (cond b (Some x.1) (find R x.0 es))) ((eq_by_cmp_equiv o).refl x.0), is)
      by false is more h = let rest = more h in (rest.0, later rest.0 (eq_by_cmp R rest.0 x.0) rest.1, rest.2)

  pub passing_key : (q : K → Bool) (m : FinMap R X) → list_any q (fin.keys m) ≡ true → (k : K) × (is_some (get m k) ≡ true) × (q k ≡ true)
  passing_key q m e = let is = passing_found q (entries m) e in (is.0, ap is_some (get-entries m is.0) ∙ is.1, is.2)

  -- ---- new names for keys

  module _ (g : K → K) where
    abbrev pub rekeyed : FinMap R X → FinMap R X
    rekeyed m = from_entries (map (λ e. (g e.0, e.1)) (entries m))

    find_rekeyed : (es : List (K × X)) (k : K) (v : X) → find R k es ≡ Some v → ((l : K) → is_some (find R l es) ≡ true → g l ≡ g k → l ≡ k) → find R (g k) (map (λ e. (g e.0, e.1)) es) ≡ Some v
    find_rekeyed [] k v e one = cc
    find_rekeyed (x ∷ es) k v e one =
        by (one_or_apart o same k x.0) (λ not. find_rekeyed es k v (sym (ap (λ b. cond b (Some x.1) (find R k es)) (apart o same k x.0 not)) ∙ e) (λ l h eq. one l (on l (eq_by_cmp R l x.0) h) eq))
      where
        on : (l : K) (b : Bool) → is_some (find R l es) ≡ true → is_some (cond b (Some x.1) (find R l es)) ≡ true
        on l true h = refl
        on l false h = h

        first : is_some (find R x.0 (x ∷ es)) ≡ true
        first = ap (λ b. is_some (cond b (Some x.1) (find R x.0 es))) ((eq_by_cmp_equiv o).refl x.0)

        by : (k ≡ x.0) ⊎ (k ≡ x.0 → ⊥) → ((k ≡ x.0 → ⊥) → find R (g k) (map (λ e. (g e.0, e.1)) es) ≡ Some v) → cond (eq_by_cmp R (g k) (g x.0)) (Some x.1) (find R (g k) (map (λ e. (g e.0, e.1)) es)) ≡ Some v
        by (inl is) rest =
            let here : eq_by_cmp R k x.0 ≡ true = ap (λ k. eq_by_cmp R k x.0) is ∙ (eq_by_cmp_equiv o).refl x.0 in
            let there : eq_by_cmp R (g k) (g x.0) ≡ true = ap (λ k. eq_by_cmp R (g k) (g x.0)) is ∙ (eq_by_cmp_equiv o).refl (g x.0) in
            ap (λ b. cond b (Some x.1) (find R (g k) (map (λ e. (g e.0, e.1)) es))) there ∙ sym (ap (λ b. cond b (Some x.1) (find R k es)) here) ∙ e
        by (inr not) rest =
            ap (λ b. cond b (Some x.1) (find R (g k) (map (λ e. (g e.0, e.1)) es))) (apart o same (g k) (g x.0) (λ eq. not (sym (one x.0 first (sym eq)))))
            ∙ rest not

    find_from : (es : List (K × X)) (q : K) (v : X) → find R q (map (λ e. (g e.0, e.1)) es) ≡ Some v → (k : K) × (find R k es ≡ Some v) × (q ≡ g k)
    find_from [] q v e = cc
    find_from (x ∷ es) q v e = by (eq_by_cmp R q (g x.0)) refl (find_from es q v) e
      where
        by : (b : Bool) → eq_by_cmp R q (g x.0) ≡ b → (find R q (map (λ e. (g e.0, e.1)) es) ≡ Some v → (k : K) × (find R k es ≡ Some v) × (q ≡ g k)) → cond b (Some x.1) (find R q (map (λ e. (g e.0, e.1)) es)) ≡ Some v → (k : K) × (find R k (x ∷ es) ≡ Some v) × (q ≡ g k)
        by true is more h = (x.0, ap (λ b. cond b (Some x.1) (find R x.0 es)) ((eq_by_cmp_equiv o).refl x.0) ∙ h, one_key o same q (g x.0) is)
        by false is more h =
            let rest = more h in
            let other : eq_by_cmp R rest.0 x.0 ≡ false = apart o same rest.0 x.0 (λ eq. is_apart o same q (g x.0) is (rest.2 ∙ ap g eq)) in
            (rest.0, ap (λ b. cond b (Some x.1) (find R rest.0 es)) other ∙ rest.1, rest.2)

    -- what stood at a key stands at its new name, where no other key has that
    pub rekeyed_at : (m : FinMap R X) (k : K) (v : X) → get m k ≡ Some v → ((l : K) → is_some (get m l) ≡ true → g l ≡ g k → l ≡ k) → get (rekeyed m) (g k) ≡ Some v
    rekeyed_at m k v e one = get-from_entries o _ (g k) ∙ find_rekeyed (entries m) k v (sym (get-entries m k) ∙ e) (λ l h eq. one l (ap is_some (get-entries m l) ∙ h) eq)

    -- what stands at a key stood at a key of which it is the new name
    pub rekeyed_from : (m : FinMap R X) (q : K) (v : X) → get (rekeyed m) q ≡ Some v → (k : K) × (get m k ≡ Some v) × (q ≡ g k)
    rekeyed_from m q v e =
        let is = find_from (entries m) q v (sym (get-from_entries o _ q) ∙ e) in
        (is.0, get-entries m is.0 ∙ is.1, is.2)
