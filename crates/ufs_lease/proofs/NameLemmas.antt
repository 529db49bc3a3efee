-- The first component of a path's text.
use Rattle.std.proofs.Common.{◌≡◌, ◌<◌, ℕ, zero, suc, List, [], ◌∷◌, Bool, true, false, cond, not, ◌+◌, ◌-◌, eqb, length, take, drop, filter, ap, sym, refl, ◌∙◌, arith, length-drop}
use Rattle.std.specs.Prelude.{nat_lt, unwrap_or, Some, None}
use Rattle.std.proofs.lemmas.List.{take_all}
use Rattle.std.proofs.lemmas.List.Sums.{prefix_len-le-length}
use Rattle.std.proofs.lemmas.Bool.{cond-true, lt-ltb, ltb-false}
use Rattle.std.specs.List.{slice_split, onto_first, position, position_or_len}
use Rattle.ufs_model.specs.Paths.{components}

abbrev pub is_slash : ℕ → Bool
is_slash b = eqb b 47

abbrev is_some_name : List ℕ → Bool
is_some_name name = nat_lt 0 (length name)

abbrev pieces : List ℕ → List (List ℕ)
pieces text = slice_split is_slash text

-- how many slashes a text begins with
abbrev pub slashes : List ℕ → ℕ
slashes text = position_or_len (λ b. not (is_slash b)) text

-- how many bytes stand before its first slash
abbrev pub name_len : List ℕ → ℕ
name_len text = position_or_len is_slash text

one_more : (n : ℕ) → 1 + n ≡ suc n
one_more n = omega arith

pub components-skip : (text : List ℕ) → components text ≡ components (drop (slashes text) text)
components-skip [] = refl
components-skip (b ∷ bs) = by (components-skip bs) (is_slash b) refl (1 + slashes bs) (one_more _)
  where
    by : components bs ≡ components (drop (slashes bs) bs) → (t : Bool) → is_slash b ≡ t → (n : ℕ) → n ≡ suc (slashes bs) → components (b ∷ bs) ≡ components (drop (cond (not (not t)) n 0) (b ∷ bs))
    by rest true e n is = ap (λ t. filter is_some_name (cond t ([] ∷ pieces bs) (onto_first b (pieces bs)))) e ∙ rest ∙ sym (ap (λ n. components (drop n (b ∷ bs))) is)
    by rest false e n is = refl

-- what follows the slashes begins with a name
after_slashes : (text : List ℕ) (x : ℕ) (xs : List ℕ) → drop (slashes text) text ≡ x ∷ xs → is_slash x ≡ false
after_slashes [] x xs = λ e. cc
after_slashes (b ∷ bs) x xs = by (after_slashes bs x xs) (is_slash b) refl (1 + slashes bs) (one_more _)
  where
    by : (drop (slashes bs) bs ≡ x ∷ xs → is_slash x ≡ false) → (t : Bool) → is_slash b ≡ t → (n : ℕ) → n ≡ suc (slashes bs) → drop (cond (not (not t)) n 0) (b ∷ bs) ≡ x ∷ xs → is_slash x ≡ false
    by rest true e n is h = rest (sym (ap (λ n. drop n (b ∷ bs)) is) ∙ h)
    by rest false e n is h = let same : b ≡ x = cc in ap is_slash (sym same) ∙ e

-- the pieces behind the first
behind : List ℕ → List (List ℕ)
behind [] = []
behind (b ∷ bs) = pieces bs

pieces-cut : (text : List ℕ) → pieces text ≡ take (name_len text) text ∷ behind (drop (name_len text) text)
unfolding behind
pieces-cut [] = refl
pieces-cut (b ∷ bs) = by (pieces-cut bs) (is_slash b) (1 + name_len bs) (one_more _)
  where
    by : pieces bs ≡ take (name_len bs) bs ∷ behind (drop (name_len bs) bs) → (t : Bool) (n : ℕ) → n ≡ suc (name_len bs) → cond t ([] ∷ pieces bs) (onto_first b (pieces bs)) ≡ take (cond (not t) n 0) (b ∷ bs) ∷ behind (drop (cond (not t) n 0) (b ∷ bs))
    by rest true n is = refl
    by rest false n is = ap (onto_first b) rest ∙ sym (ap (λ n. take n (b ∷ bs) ∷ behind (drop n (b ∷ bs))) is)

-- what follows a name is nothing, or begins with a slash
components-behind : (text : List ℕ) → filter is_some_name (behind (drop (name_len text) text)) ≡ components (drop (name_len text) text)
unfolding behind
components-behind [] = refl
components-behind (b ∷ bs) = by (components-behind bs) (is_slash b) refl (1 + name_len bs) (one_more _)
  where
    by : filter is_some_name (behind (drop (name_len bs) bs)) ≡ components (drop (name_len bs) bs) → (t : Bool) → is_slash b ≡ t → (n : ℕ) → n ≡ suc (name_len bs) → filter is_some_name (behind (drop (cond (not t) n 0) (b ∷ bs))) ≡ components (drop (cond (not t) n 0) (b ∷ bs))
    by rest true e n is = sym (ap (λ t. filter is_some_name (cond t ([] ∷ pieces bs) (onto_first b (pieces bs)))) e)
    by rest false e n is = ap (λ n. filter is_some_name (behind (drop n (b ∷ bs)))) is ∙ rest ∙ sym (ap (λ n. components (drop n (b ∷ bs))) is)

name_len-cons : (x : ℕ) (xs : List ℕ) → is_slash x ≡ false → 0 < name_len (x ∷ xs)
name_len-cons x xs = by (is_slash x)
  where
    by : (t : Bool) → t ≡ false → 0 < cond (not t) (1 + name_len xs) 0
    by true e = cc
    by false e = omega arith

first_kept : (n x : ℕ) (xs : List ℕ) (names : List (List ℕ)) → 0 < n → filter is_some_name (take n (x ∷ xs) ∷ names) ≡ take n (x ∷ xs) ∷ filter is_some_name names
first_kept zero x xs names some = absurd (omega arith)
first_kept (suc n) x xs names some = cond-true (nat_lt 0 (suc (length (take n xs)))) _ _ (lt-ltb 0 (suc (length (take n xs))) (omega arith))

-- a text behind its slashes is empty, or a name and what follows it
pub components-cut : (text names : List ℕ) → names ≡ drop (slashes text) text → 0 < length names → components names ≡ take (name_len names) names ∷ components (drop (name_len names) names)
components-cut text [] is some = absurd (omega arith)
components-cut text (x ∷ xs) is some =
    let long = name_len-cons x xs (after_slashes text x xs (sym is)) in
    ap (filter is_some_name) (pieces-cut (x ∷ xs))
    ∙ first_kept (name_len (x ∷ xs)) x xs (behind (drop (name_len (x ∷ xs)) (x ∷ xs))) long
    ∙ ap (λ names. take (name_len (x ∷ xs)) (x ∷ xs) ∷ names) (components-behind (x ∷ xs))

pub name_len-some : (text names : List ℕ) → names ≡ drop (slashes text) text → 0 < length names → 0 < name_len names
name_len-some text [] is some = absurd (omega arith)
name_len-some text (x ∷ xs) is some = name_len-cons x xs (after_slashes text x xs (sym is))

-- ---- as the calls find them

pub found_or_len : (p : ℕ → Bool) (text : List ℕ) → unwrap_or (position p text) (length text) ≡ position_or_len p text
found_or_len p text = by (nat_lt (position_or_len p text) (length text)) refl
  where
    by : (t : Bool) → nat_lt (position_or_len p text) (length text) ≡ t → unwrap_or (cond t (Some (position_or_len p text)) None) (length text) ≡ position_or_len p text
    by true e = refl
    by false e = let past = ltb-false _ _ e in omega (arith, prefix_len-le-length (λ x. not (p x)) text)

-- a slice to the end
whole_drop : (k : ℕ) (text : List ℕ) → take (length text - k) (drop k text) ≡ drop k text
whole_drop k text = take_all _ _ (omega (arith, length-drop k text))

pub no_name : (text : List ℕ) (s : ℕ) → s ≡ slashes text → length (take (length text - s) (drop s text)) ≡ 0 → components text ≡ []
no_name text s is none = components-skip text ∙ ap (λ s. components (drop s text)) (sym is) ∙ ap components (nothing (drop s text) (sym (ap length (whole_drop s text)) ∙ none))
  where
    nothing : (xs : List ℕ) → length xs ≡ 0 → xs ≡ []
    nothing [] e = refl
    nothing (x ∷ xs) e = absurd (omega arith)

pub a_name : (text names : List ℕ) (s n : ℕ) → s ≡ slashes text → names ≡ take (length text - s) (drop s text) → n ≡ name_len names → 0 < length names → components text ≡ take n names ∷ components (take (length names - n) (drop n names))
a_name text names s n is are long some =
    let whole = are ∙ whole_drop s text ∙ ap (λ s. drop s text) is in
    components-skip text ∙ ap components (sym whole) ∙ components-cut text names whole some
    ∙ ap (λ n. take n names ∷ components (drop n names)) (sym long)
    ∙ ap (λ rest. take n names ∷ components rest) (sym (whole_drop n names))

pub a_name-some : (text names : List ℕ) (s n : ℕ) → s ≡ slashes text → names ≡ take (length text - s) (drop s text) → n ≡ name_len names → 0 < length names → 0 < n
a_name-some text names s n is are long some =
    let whole = are ∙ whole_drop s text ∙ ap (λ s. drop s text) is in
    let long' = name_len-some text names whole some in
    omega arith
