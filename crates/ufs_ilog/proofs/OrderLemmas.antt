-- Records that are put in order.
use Rattle.std.proofs.Common.{◌≡◌, ℕ, suc, ◌+◌, List, [], ◌∷◌, ◌++◌, Bool, true, false, not, length, refl, ap, sym, ◌∙◌, arith}
use Rattle.std.specs.Prelude.{◌&&◌, ◌||◌, ◌==◌, nat_lt, nat_le, if◌then◌else◌}
use Rattle.std.specs.List.{insert, list_all, position_or_len}
use Rattle.ufs_layout.specs.declared.records.LogRecord.{LogRecord}
use Rattle.ufs_ilog.specs.Changes.{kind_order, place_order, may_follow, is_in_order, put_in_order, in_order}

-- ---- how they are put

place_behind : (p : LogRecord → Bool) (s : LogRecord) (rs : List LogRecord) → position_or_len p (s ∷ rs) ≡ (if p s then 0 else 1 + position_or_len p rs)
place_behind p s rs = by (p s)
  where
    by : (b : Bool) → (if not b then 1 + position_or_len p rs else 0) ≡ (if b then 0 else 1 + position_or_len p rs)
    by true = refl
    by false = refl

pub put_at : (r : LogRecord) (rs : List LogRecord) → insert rs (position_or_len (may_follow r) rs) r ≡ put_in_order r rs
put_at r [] = refl
put_at r (s ∷ rs) = ap (λ (k : ℕ). insert (s ∷ rs) k r) (place_behind (may_follow r) s rs) ∙ by (may_follow r s) (put_at r rs)
  where
    by : (b : Bool) → insert rs (position_or_len (may_follow r) rs) r ≡ put_in_order r rs → insert (s ∷ rs) (if b then 0 else 1 + position_or_len (may_follow r) rs) r ≡ (if b then r ∷ s ∷ rs else s ∷ put_in_order r rs)
    by true rest = refl
    by false rest =
        let n = position_or_len (may_follow r) rs in
        let next : 1 + n ≡ suc n = omega arith in
        ap (λ (k : ℕ). insert (s ∷ rs) k r) next ∙ ap (λ (xs : List LogRecord). s ∷ xs) rest

-- each of these put in order, from the last one on
abbrev pub onto : List LogRecord → List LogRecord → List LogRecord
onto [] rs = rs
onto (x ∷ xs) rs = put_in_order x (onto xs rs)

pub onto_none : (xs : List LogRecord) → onto xs [] ≡ in_order xs
onto_none [] = refl
onto_none (x ∷ xs) = ap (put_in_order x) (onto_none xs)

pub onto_done : (xs rs ys : List LogRecord) → length xs ≡ 0 → onto xs rs ≡ ys → rs ≡ ys
onto_done [] rs ys none is = is
onto_done (x ∷ xs) rs ys none is = absurd (omega arith)

pub onto_last : (xs : List LogRecord) (x : LogRecord) (rs : List LogRecord) → onto (xs ++ x ∷ []) rs ≡ onto xs (put_in_order x rs)
onto_last [] x rs = refl
onto_last (y ∷ xs) x rs = ap (put_in_order y) (onto_last xs x rs)

-- ---- that they are in order

and_left : (a b : Bool) → (a && b) ≡ true → a ≡ true
and_left true b is = refl
and_left false b is = is

and_right : (a b : Bool) → (a && b) ≡ true → b ≡ true
and_right true b is = is
and_right false b is = absurd (cc)

abbrev follows : LogRecord → List LogRecord → Bool
follows r [] = true
follows r (s ∷ rs) = may_follow r s

order_split : (r : LogRecord) (rs : List LogRecord) → is_in_order (r ∷ rs) ≡ (follows r rs && is_in_order rs)
order_split r [] = refl
order_split r (s ∷ rs) = refl

-- of two records one may follow the other
either_way : (r s : LogRecord) → may_follow r s ≡ false → may_follow s r ≡ true
either_way r s = by (kind_order r) (kind_order s) (place_order r) (place_order s)
  where
    by : (a b p q : ℕ) → (nat_lt a b || a == b && nat_le p q) ≡ false → (nat_lt b a || b == a && nat_le q p) ≡ true
    by a b p q e = grind arith

pub put_ordered : (r : LogRecord) (rs : List LogRecord) → is_in_order rs ≡ true → is_in_order (put_in_order r rs) ≡ true
put_ordered r [] is = refl
put_ordered r (s ∷ rs) is = by (may_follow r s) refl (put_ordered r rs (and_right (follows s rs) (is_in_order rs) (sym (order_split s rs) ∙ is)))
  where
    ahead : (ts : List LogRecord) → follows s ts ≡ true → may_follow s r ≡ true → follows s (put_in_order r ts) ≡ true
    ahead [] one other = other
    ahead (t ∷ ts) one other = pick (may_follow r t)
      where
        pick : (b : Bool) → follows s (if b then r ∷ t ∷ ts else t ∷ put_in_order r ts) ≡ true
        pick true = other
        pick false = one

    by : (b : Bool) → may_follow r s ≡ b → is_in_order (put_in_order r rs) ≡ true → is_in_order (if b then r ∷ s ∷ rs else s ∷ put_in_order r rs) ≡ true
    by true at rest = ap (λ (b : Bool). b && is_in_order (s ∷ rs)) at ∙ is
    by false at rest =
        order_split s (put_in_order r rs) ∙ ap (λ (b : Bool). b && is_in_order (put_in_order r rs)) (ahead rs (and_left (follows s rs) (is_in_order rs) (sym (order_split s rs) ∙ is)) (either_way r s at)) ∙ rest

pub ordered : (rs : List LogRecord) → is_in_order (in_order rs) ≡ true
ordered [] = refl
ordered (r ∷ rs) = put_ordered r (in_order rs) (ordered rs)

-- what holds of each record
pub put_all : (p : LogRecord → Bool) (r : LogRecord) (rs : List LogRecord) → p r ≡ true → list_all p rs ≡ true → list_all p (put_in_order r rs) ≡ true
put_all p r [] this each = ap (λ (b : Bool). b && true) this
put_all p r (s ∷ rs) this each = by (may_follow r s) (put_all p r rs this (and_right (p s) (list_all p rs) each))
  where
    by : (b : Bool) → list_all p (put_in_order r rs) ≡ true → list_all p (if b then r ∷ s ∷ rs else s ∷ put_in_order r rs) ≡ true
    by true rest = ap (λ (b : Bool). b && list_all p (s ∷ rs)) this ∙ each
    by false rest = ap (λ (b : Bool). b && list_all p (put_in_order r rs)) (and_left (p s) (list_all p rs) each) ∙ rest

pub all_ordered : (p : LogRecord → Bool) (rs : List LogRecord) → list_all p rs ≡ true → list_all p (in_order rs) ≡ true
all_ordered p [] each = refl
all_ordered p (r ∷ rs) each = put_all p r (in_order rs) (and_left (p r) (list_all p rs) each) (all_ordered p rs (and_right (p r) (list_all p rs) each))
