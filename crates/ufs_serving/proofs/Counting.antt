-- How many blocks sets have that come together.
use Rattle.std.proofs.Common.{◌≡◌, ℕ, zero, suc, ◌+◌, ◌≤◌, eqb, eqb-true, Bool, true, false, not, ◌&&◌, ◌||◌, min, List, [], ◌∷◌, refl, sym, ap, ◌∙◌, arith}
use Rattle.std.proofs.lemmas.Bool.{true≢false}
use Rattle.std.specs.Cmp.{unsigned_tied}
use Rattle.std.specs.FinSet as set
use Rattle.std.specs.List.{list_any}
use Rattle.std.specs.Ordering.{eq_by_cmp, nat_cmp}
use Rattle.ufs_bitmap.specs.Blocks.{BlockSet}
use Rattle.ufs_bitmap.proofs.SetLemmas.{empty_from_none, has-difference, has-empty, has-insert, has-remove, has-union, len-insert_new, len-remove_there, same_blocks}
use Rattle.ufs_hand_laws.proofs.Keys.{itself}
use Rattle.ufs_store.specs.Blocks.{AreApart, MovesLowest}

-- a set that has so many blocks has one of them
member : (t : BlockSet) (n : ℕ) → set.len t ≡ suc n → (x : ℕ) × (set.contains t x ≡ true)
member t n long = by (set.items t) refl
  where
    none : set.items t ≡ [] → set.len t ≡ 0
    none is = ap (λ (s : BlockSet). set.len s) (empty_from_none t (λ q. set.contains-items t q ∙ ap (list_any (eq_by_cmp nat_cmp q)) is)) ∙ set.len-empty nat_cmp

    by : (xs : List ℕ) → set.items t ≡ xs → (x : ℕ) × (set.contains t x ≡ true)
    by [] is = let gone = none is in absurd (omega (arith, long, gone))
    by (x ∷ xs) is = (x, set.contains-items t x ∙ ap (list_any (eq_by_cmp nat_cmp x)) is ∙ ap (λ (b : Bool). b || list_any (eq_by_cmp nat_cmp x) xs) (unsigned_tied x x ∙ itself x))

-- one block of the second set more
regroup : (s t : BlockSet) (x : ℕ) → set.contains t x ≡ true → set.union s t ≡ set.insert (set.union s (set.remove t x)) x
regroup s t x here = same_blocks _ _ (λ q.
    has-union s t q
    ∙ by q (eqb q x) refl
    ∙ sym (has-insert (set.union s (set.remove t x)) x q ∙ ap (λ (b : Bool). eqb q x || b) (has-union s (set.remove t x) q ∙ ap (λ (b : Bool). set.contains s q || b) (has-remove t x q))))
  where
    swap : (a : Bool) → (a || true) ≡ true
    swap true = refl
    swap false = refl

    same : (q : ℕ) → eqb q x ≡ true → set.contains t q ≡ true
    same q e = ap (set.contains t) (eqb-true q x e) ∙ here

    by : (q : ℕ) (b : Bool) → eqb q x ≡ b → (set.contains s q || set.contains t q) ≡ (eqb q x || (set.contains s q || (not (eqb q x) && set.contains t q)))
    by q true e = ap (λ (c : Bool). set.contains s q || c) (same q e) ∙ swap (set.contains s q) ∙ sym (ap (λ (c : Bool). c || (set.contains s q || (not (eqb q x) && set.contains t q))) e)
    by q false e = sym (ap (λ (c : Bool). c || (set.contains s q || (not c && set.contains t q))) e)

pub len-union : (n : ℕ) (s t : BlockSet) → set.len t ≡ n → AreApart s t → set.len (set.union s t) ≡ set.len s + n
len-union zero s t long apart =
    let none : t ≡ set.empty = set.empty_of_len t long in
    let same : set.union s t ≡ s = same_blocks _ _ (λ q. has-union s t q ∙ ap (λ (u : BlockSet). set.contains s q || set.contains u q) none ∙ ap (λ (b : Bool). set.contains s q || b) (has-empty q) ∙ or_none (set.contains s q)) in
    let e = ap (λ (u : BlockSet). set.len u) same in
    omega (arith, e)
  where
    or_none : (b : Bool) → (b || false) ≡ b
    or_none true = refl
    or_none false = refl
len-union (suc n) s t long apart =
    let m = member t n long in
    let x = m.0 in
    let less = len-remove_there t x m.1 in
    let short : set.len (set.remove t x) ≡ n = omega (arith, less, long) in
    let rest = len-union n s (set.remove t x) short (λ b is. fewer b x (apart b is)) in
    let off = absent x m.1 in
    let more = len-insert_new (set.union s (set.remove t x)) x off in
    let e = ap (λ (u : BlockSet). set.len u) (regroup s t x m.1) in
    omega (arith, e, more, rest)
  where
    and_false : (a : Bool) → (a && false) ≡ false
    and_false true = refl
    and_false false = refl

    fewer : (b x : ℕ) → set.contains t b ≡ false → set.contains (set.remove t x) b ≡ false
    fewer b x none = has-remove t x b ∙ ap (λ (c : Bool). not (eqb b x) && c) none ∙ and_false (not (eqb b x))

    outside : (x : ℕ) → set.contains t x ≡ true → (b : Bool) → set.contains s x ≡ b → b ≡ false
    outside x here true e = absurd (true≢false (sym here ∙ apart x e))
    outside x here false e = refl

    absent : (x : ℕ) → set.contains t x ≡ true → set.contains (set.union s (set.remove t x)) x ≡ false
    absent x here =
        has-union s (set.remove t x) x
        ∙ ap (λ (b : Bool). b || set.contains (set.remove t x) x) (outside x here (set.contains s x) refl)
        ∙ has-remove t x x ∙ ap (λ (b : Bool). not b && set.contains t x) (itself x)

-- Those that went and those that are left make up what there was.
module _ (want : ℕ) (from kept to gained : BlockSet) (moved : MovesLowest want from kept to gained) where
  off : AreApart kept (set.difference from kept)
  off b is = has-difference from kept b ∙ ap (λ (c : Bool). set.contains from b && not c) is ∙ and_false (set.contains from b)
    where
      and_false : (a : Bool) → (a && false) ≡ false
      and_false true = refl
      and_false false = refl

  whole : set.union kept (set.difference from kept) ≡ from
  whole = same_blocks _ _ (λ q. has-union kept (set.difference from kept) q ∙ ap (λ (c : Bool). set.contains kept q || c) (has-difference from kept q) ∙ by (set.contains kept q) (set.contains from q) (moved.within q))
    where
      by : (a b : Bool) → (a ≡ true → b ≡ true) → (a || (b && not a)) ≡ b
      by true b inside = sym (inside refl)
      by false true inside = refl
      by false false inside = refl

  went : set.len (set.difference from kept) ≡ min want (set.len from)
  went =
      let sum = len-union (set.len (set.difference from kept)) kept (set.difference from kept) refl off in
      let e = ap (λ (u : BlockSet). set.len u) whole in
      let counted = moved.counted in
      omega (arith, sum, e, counted)

  -- so many came
  pub len_gained : AreApart to from → set.len gained ≡ set.len to + min want (set.len from)
  len_gained apart =
      let sum = len-union (set.len (set.difference from kept)) to (set.difference from kept) refl (λ b is. has-difference from kept b ∙ ap (λ (c : Bool). c && not (set.contains kept b)) (apart b is)) in
      let e = ap (λ (u : BlockSet). set.len u) moved.given in
      let n = went in
      omega (arith, sum, e, n)

  -- all of them, where so many were wanted
  pub all_came : set.len from ≤ want → (b : ℕ) → set.contains from b ≡ true → set.contains gained b ≡ true
  all_came enough b is =
      ap (λ (u : BlockSet). set.contains u b) moved.given ∙ has-union to (set.difference from kept) b
      ∙ ap (λ (c : Bool). set.contains to b || c) (has-difference from kept b ∙ (λ i. is i && not (none i))) ∙ or_true (set.contains to b)
    where
      or_true : (c : Bool) → (c || true) ≡ true
      or_true true = refl
      or_true false = refl

      empty : set.len kept ≡ 0
      empty = let counted = moved.counted in omega (arith, counted, enough)

      none : set.contains kept b ≡ false
      none = ap (λ (u : BlockSet). set.contains u b) (set.empty_of_len kept empty) ∙ has-empty b

  -- and what was there is there
  pub stays : (b : ℕ) → set.contains to b ≡ true → set.contains gained b ≡ true
  stays b is = ap (λ (u : BlockSet). set.contains u b) moved.given ∙ has-union to (set.difference from kept) b ∙ ap (λ (c : Bool). c || set.contains (set.difference from kept) b) is
