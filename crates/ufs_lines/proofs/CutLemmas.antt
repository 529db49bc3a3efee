-- Where a byte stands first in a text, and what is cut there.
use Rattle.std.proofs.Common.{◌≡◌, ◌≢◌, ℕ, ◌+◌, ◌-◌, ◌<◌, ◌≤◌, List, [], ◌∷◌, ◌++◌, Some, None, Bool, true, false, not, cond, ap, sym, refl, subst, ◌∙◌, length, arith, inl, inr, take, drop, get_or, zero, suc, eqb, Option, IsTrue}
use Rattle.std.specs.Prelude.{◌==◌, ◌↔◌, IfSome}
use Rattle.std.specs.List.{position, position_or_len, AllByRecursion}
use Rattle.std.proofs.lemmas.Bool.{cases_lt, lt-ltb, le-ltb, eqb-true, eqb-false}
use Rattle.std.proofs.lemmas.List.{append_assoc, take-append-drop, length-append, append-nil}
use Rattle.std.proofs.lemmas.Grind.{common_steps}
use Rattle.std.proofs.lemmas.List.Sums.{split_at_first, passes_at_first}
use Rattle.ufs_lines.specs.Trace.{IsFree, IsCut, IsTail, IsFirstWord}

front_free : (t : ℕ) (text : List ℕ) → IsFree t (take (position_or_len (λ b. b == t) text) text)
front_free t [] = tt
front_free t (b ∷ text) = at (front_free t text) (b == t) refl
  where
    one_on : (n : ℕ) → (b ≢ t) → IsFree t (take n text) → IsFree t (take (1 + n) (b ∷ text))
    one_on n apart line = let e : suc n ≡ 1 + n = omega arith in subst (λ (m : ℕ). IsFree t (take m (b ∷ text))) e (pair n apart line)
      where
        pair : (n : ℕ) → (b ≢ t) → IsFree t (take n text) → IsFree t (take (suc n) (b ∷ text))
        pair n apart line = (apart, line)

    at : IsFree t (take (position_or_len (λ b. b == t) text) text) → (B : Bool) → (b == t) ≡ B → IsFree t (take (cond (not B) (1 + position_or_len (λ b. b == t) text) 0) (b ∷ text))
    at rest true is = tt
    at rest false is = one_on (position_or_len (λ b. b == t) text) (λ same. eqb-false b t is same) rest

pub cut_at : (t : ℕ) (text : List ℕ) (i : ℕ) → position (λ b. b == t) text ≡ Some i → IsFree t (take i text) × (text ≡ take i text ++ t ∷ drop (i + 1) text) × (i < length text)
cut_at t text i h = elim (cases_lt (position_or_len (λ b. b == t) text) (length text)) [
  | inl within ↦
      let found : Some (position_or_len (λ b. b == t) text) ≡ Some i = ap (λ b. cond b (Some (position_or_len (λ b. b == t) text)) None) (sym (lt-ltb _ _ within)) ∙ h in
      let is : position_or_len (λ b. b == t) text ≡ i = cc in
      let there : get_or text (position_or_len (λ b. b == t) text) 0 ≡ t = eqb-true _ t (passes_at_first (λ b. b == t) text 0 within) in (
        subst (λ (n : ℕ). IsFree t (take n text)) is (front_free t text),
        subst (λ (n : ℕ). text ≡ take n text ++ t ∷ drop (n + 1) text) is
            (split_at_first (λ b. b == t) text 0 within ∙ ap (λ (x : ℕ). take (position_or_len (λ b. b == t) text) text ++ x ∷ drop (position_or_len (λ b. b == t) text + 1) text) there),
        subst (λ (n : ℕ). n < length text) is within,
      )
  | inr past ↦
      let none : None ≡ Some i = ap (λ b. cond b (Some (position_or_len (λ b. b == t) text)) None) (sym (le-ltb _ _ past)) ∙ h in
      cc
]

some_end : (t : ℕ) (line more : List ℕ) → position_or_len (λ b. b == t) (line ++ t ∷ more) < length (line ++ t ∷ more)
some_end t [] more = at (t == t) refl
  where
    at : (B : Bool) → (t == t) ≡ B → cond (not B) (1 + position_or_len (λ b. b == t) more) 0 < suc (length more)
    at true is = omega arith
    at false is = absurd (eqb-false t t is refl)
some_end t (b ∷ line) more = at (some_end t line more) (b == t)
  where
    at : position_or_len (λ b. b == t) (line ++ t ∷ more) < length (line ++ t ∷ more) → (B : Bool) → cond (not B) (1 + position_or_len (λ b. b == t) (line ++ t ∷ more)) 0 < suc (length (line ++ t ∷ more))
    at rest true = omega arith
    at rest false = omega (arith, rest)

pub no_cut : (t : ℕ) (text : List ℕ) → position (λ b. b == t) text ≡ None → (line more : List ℕ) → text ≡ line ++ t ∷ more → ⊥
no_cut t text none line more is =
    let within : position_or_len (λ b. b == t) text < length text = subst (λ (l : List ℕ). position_or_len (λ b. b == t) l < length l) (sym is) (some_end t line more) in
    let bad : Some (position_or_len (λ b. b == t) text) ≡ None = ap (λ b. cond b (Some (position_or_len (λ b. b == t) text)) None) (sym (lt-ltb _ _ within)) ∙ none in
    cc

-- where the byte doesn't stand, the text is free of it
pub all_free : (t : ℕ) (text : List ℕ) → position (λ b. b == t) text ≡ None → IsFree t text
all_free t text none = go text (no_cut t text none)
  where
    go : (text : List ℕ) → ((line more : List ℕ) → text ≡ line ++ t ∷ more → ⊥) → IsFree t text
    go [] nowhere = tt
    go (b ∷ text) nowhere = ((λ same. nowhere [] text (ap (λ (x : ℕ). x ∷ text) same)), go text (λ line more is. nowhere (b ∷ line) more (ap (λ (l : List ℕ). b ∷ l) is)))

-- ---- a text is cut in one way

pub record IsSameCut (line more line' more' : List ℕ) : Type 0 where
  pub line_is : line ≡ line'
  pub more_is : more ≡ more'

pub one_cut : (t : ℕ) (line line' more more' : List ℕ) → IsFree t line → IsFree t line' → line ++ t ∷ more ≡ line' ++ t ∷ more' → IsSameCut line more line' more'
one_cut t [] [] more more' a b e = record { line_is = refl; more_is = cc }
one_cut t [] (c ∷ line') more more' a b e = let same : t ≡ c = cc in absurd (b.0 (sym same))
one_cut t (c ∷ line) [] more more' a b e = let same : c ≡ t = cc in absurd (a.0 same)
one_cut t (c ∷ line) (d ∷ line') more more' a b e =
    let first : c ≡ d = cc in
    let rest : line ++ t ∷ more ≡ line' ++ t ∷ more' = cc in
    let cut = one_cut t line line' more more' a.1 b.1 rest in
    record { line_is = (λ i. first i ∷ cut.line_is i); more_is = cut.more_is }

pub one_word : (w w' t t' : List ℕ) → IsFree 32 w → IsFree 32 w' → IsTail t → IsTail t' → w ++ t ≡ w' ++ t' → IsSameCut w t w' t'
one_word [] [] t t' a b u v e = record { line_is = refl; more_is = e }
one_word [] (c ∷ w') [] t' a b u v e = cc
one_word [] (c ∷ w') (d ∷ t) t' a b u v e = let same : d ≡ c = cc in absurd (b.0 (sym same ∙ u))
one_word (c ∷ w) [] t [] a b u v e = cc
one_word (c ∷ w) [] t (d ∷ t') a b u v e = let same : c ≡ d = cc in absurd (a.0 (same ∙ v))
one_word (c ∷ w) (d ∷ w') t t' a b u v e =
    let first : c ≡ d = cc in
    let rest : w ++ t ≡ w' ++ t' = cc in
    let cut = one_word w w' t t' a.1 b.1 u v rest in
    record { line_is = (λ i. first i ∷ cut.line_is i); more_is = cut.more_is }

pub free_append : (t : ℕ) (a b : List ℕ) → IsFree t a → IsFree t b → IsFree t (a ++ b)
free_append t [] b x y = y
free_append t (c ∷ a) b x y = (x.0, free_append t a b x.1 y)

pub free_last : (t : ℕ) (a : List ℕ) → IsFree t (a ++ t ∷ []) → ⊥
free_last t [] x = x.0 refl
free_last t (c ∷ a) x = free_last t a x.1

pub one_last : (t : ℕ) (a b : List ℕ) → a ++ t ∷ [] ≡ b ++ t ∷ [] → a ≡ b
one_last t [] [] e = refl
one_last t [] (c ∷ b) e = absurd (no b (ap length (ap tail_of e)))
  where
    tail_of : List ℕ → List ℕ
    tail_of [] = []
    tail_of (x ∷ xs) = xs

    no : (b : List ℕ) → 0 ≡ length (b ++ t ∷ []) → ⊥
    no [] e = omega (arith, e)
    no (x ∷ b) e = omega (arith, e)
one_last t (c ∷ a) [] e = absurd (no a (ap length (ap tail_of e)))
  where
    tail_of : List ℕ → List ℕ
    tail_of [] = []
    tail_of (x ∷ xs) = xs

    no : (b : List ℕ) → length (b ++ t ∷ []) ≡ 0 → ⊥
    no [] e = omega (arith, e)
    no (x ∷ b) e = omega (arith, e)
one_last t (c ∷ a) (d ∷ b) e =
    let first : c ≡ d = cc in
    let rest : a ++ t ∷ [] ≡ b ++ t ∷ [] = cc in
    let same = one_last t a b rest in
    λ i. first i ∷ same i

take_more : (n : ℕ) (text : List ℕ) (b : ℕ) (more : List ℕ) → n < length text → text ≡ take n text ++ b ∷ more → take (n + 1) text ≡ take n text ++ b ∷ []
take_more n text b more within is =
    let len : length (take n text) ≡ n = grind (arith, common_steps) in
    ap (take (n + 1)) is ∙ ap (λ (k : ℕ). take (k + 1) (take n text ++ b ∷ more)) (sym len) ∙ front (take n text)
  where
    front : (xs : List ℕ) → take (length xs + 1) (xs ++ b ∷ more) ≡ xs ++ b ∷ []
    front [] = refl
    front (x ∷ xs) = let e : suc (length xs) + 1 ≡ suc (length xs + 1) = omega arith in ap (λ (k : ℕ). take k (x ∷ xs ++ b ∷ more)) e ∙ ap (λ l. x ∷ l) (front xs)

-- what stands through the byte
pub through : (t : ℕ) (text : List ℕ) (i : ℕ) → position (λ b. b == t) text ≡ Some i → take (i + 1) text ≡ take i text ++ t ∷ []
through t text i h = let c = cut_at t text i h in take_more i text t (drop (i + 1) text) c.2 c.1

-- the first word of a text ends at the first space
pub word_at : (text : List ℕ) (i : ℕ) → position (λ b. b == 32) text ≡ Some i → IsFirstWord text (take i text) (drop i text)
word_at text i h =
    let c = cut_at 32 text i h in
    let rest : drop i text ≡ 32 ∷ drop (i + 1) text = drop_is i text (drop (i + 1) text) c.2 c.1 in
    record { free = c.0; follows = subst IsTail (sym rest) refl; is = sym (take-append-drop i text) }
  where
    drop_is : (n : ℕ) (text more : List ℕ) → n < length text → text ≡ take n text ++ 32 ∷ more → drop n text ≡ 32 ∷ more
    drop_is n [] more within is = absurd (omega arith)
    drop_is zero (b ∷ text) more within is = is
    drop_is (suc n) (b ∷ text) more within is = let rest : text ≡ take n text ++ 32 ∷ more = cc in drop_is n text more (omega (arith, within)) rest

pub word_all : (text : List ℕ) → position (λ b. b == 32) text ≡ None → IsFirstWord text text []
word_all text none = record { free = all_free 32 text none; follows = tt; is = sym (append-nil text) }

-- ---- what is dropped

pub drop_none : (n : ℕ) (xs : List ℕ) → n ≤ length xs → drop n xs ≡ [] → n ≡ length xs
drop_none zero [] few none = refl
drop_none zero (x ∷ xs) few none = cc
drop_none (suc n) [] few none = absurd (omega (arith, few))
drop_none (suc n) (x ∷ xs) few none = ap suc (drop_none n xs (omega (arith, few)) none)

pub drop_twice : (n m : ℕ) (xs : List ℕ) → drop m (drop n xs) ≡ drop (n + m) xs
drop_twice zero m xs = ap (λ (k : ℕ). drop k xs) e
  where
    e : m ≡ 0 + m
    e = omega arith
drop_twice (suc n) m [] = empty m (suc n + m)
  where
    empty : (a b : ℕ) → drop {A = ℕ} a [] ≡ drop b []
    empty zero zero = refl
    empty zero (suc b) = refl
    empty (suc a) zero = refl
    empty (suc a) (suc b) = refl
drop_twice (suc n) m (x ∷ xs) =
    let e : suc (n + m) ≡ suc n + m = omega arith in
    drop_twice n m xs ∙ ap (λ (k : ℕ). drop k (x ∷ xs)) e

-- a list is empty where its length is tested so
pub some_left : (xs : List ℕ) → false ≡ (length xs == 0) → xs ≡ [] → ⊥
some_left xs e none = let bad : false ≡ true = e ∙ ap (λ (l : List ℕ). length l == 0) none in cc

pub none_left : (xs : List ℕ) → true ≡ (length xs == 0) → xs ≡ []
none_left [] e = refl
none_left (x ∷ xs) e = let bad = eqb-true (suc (length xs)) 0 (sym e) in absurd (omega (arith, bad))

pub is_nil : (xs : List ℕ) (empty : Bool) → empty ≡ (length xs == 0) → empty ≡ true → xs ≡ []
is_nil xs empty is t = none_left xs (sym t ∙ is)

pub nil_is : (xs : List ℕ) (empty : Bool) → empty ≡ (length xs == 0) → xs ≡ [] → empty ≡ true
nil_is xs empty is none = is ∙ ap (λ (l : List ℕ). length l == 0) none
