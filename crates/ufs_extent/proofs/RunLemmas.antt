-- Lists of runs: their blocks, and a run behind them.
use Rattle.std.proofs.Common.{◌≡◌, ◌≢◌, ℕ, zero, suc, ◌+◌, ◌-◌, ◌<◌, ◌≤◌, eqb, Bool, true, false, not, cond, List, [], ◌∷◌, ◌++◌, Option, None, Some, length, take, refl, sym, ap, ◌∙◌, arith, get_or, set, append_assoc, eq-eqb, inl, inr, ⊎_elim, length-append, ◌⊎◌}
use Rattle.std.specs.Prelude.{slice_get, All}
use Rattle.std.proofs.lemmas.List.Sums.{sum_by-cons, fold_more}
use Rattle.std.proofs.lemmas.Bool.{ne_eqb, eqb-true, eqb-false, true≢false}
use Rattle.std.specs.Option.{option_eq}
use Rattle.std.proofs.lemmas.Option.{same_Some, none-some}
use Rattle.std.proofs.lemmas.List.{append-nil, set_at, get_or_at, length_push}
use Rattle.std.proofs.lemmas.Bool.Decides.{eqb_tells}
use Rattle.ufs_extent.specs.declared.Run.{Run}
use Rattle.ufs_extent.specs.Runs.{IsRun, end_of, blocks_from, blocks_in, blocks_of, next_block, appended, appended_all}
use Rattle.std.proofs.lemmas.List.Elements.{All-set}
use Rattle.ufs_extent.specs.Places.{block_count}

pub length-blocks_from : (first n : ℕ) → length (blocks_from first n) ≡ n
length-blocks_from first zero = refl
length-blocks_from first (suc n) = omega (arith, length-blocks_from (first + 1) n)

pub blocks_from-add : (first m n : ℕ) → blocks_from first (m + n) ≡ blocks_from first m ++ blocks_from (first + m) n
blocks_from-add first zero n =
    let e : zero + n ≡ n = omega arith in
    let f : first + zero ≡ first = omega arith in
    rw (e, f) refl
blocks_from-add first (suc m) n =
    let e : suc m + n ≡ suc (m + n) = omega arith in
    let f : first + suc m ≡ first + 1 + m = omega arith in
    rw (e, f) (ap (λ (xs : List ℕ). first ∷ xs) (blocks_from-add (first + 1) m n))

pub blocks_of-append : (xs ys : List Run) → blocks_of (xs ++ ys) ≡ blocks_of xs ++ blocks_of ys
blocks_of-append [] ys = refl
blocks_of-append (x ∷ xs) ys = ap (λ (bs : List ℕ). blocks_in x ++ bs) (blocks_of-append xs ys) ∙ sym (append_assoc (blocks_in x) (blocks_of xs) (blocks_of ys))

pub length-blocks_of : (rs : List Run) → length (blocks_of rs) ≡ block_count rs
length-blocks_of [] = refl
length-blocks_of (r ∷ rs) =
    length-append (blocks_in r) (blocks_of rs)
    ∙ ap (λ (n : ℕ). n + length (blocks_of rs)) (length-blocks_from r.start r.length)
    ∙ ap (λ (n : ℕ). r.length + n) (length-blocks_of rs)
    ∙ sym (sum_by-cons (λ (x : Run). x.length) r rs)

-- ---- the block behind the last one
pub next_block_push : (xs : List Run) (r : Run) → next_block (xs ++ r ∷ []) ≡ Some (end_of r)
next_block_push [] r = refl
next_block_push (x ∷ []) r = refl
next_block_push (x ∷ y ∷ ys) r = next_block_push (y ∷ ys) r

-- ---- a run behind the others
-- two runs in a row as one
abbrev pub joined : Run → Run → Run
joined l r = record { start = l.start; length = l.length + r.length }

blocks_of-joined : (l r : Run) → end_of l ≡ r.start → blocks_in (joined l r) ≡ blocks_in l ++ blocks_in r
blocks_of-joined l r e = blocks_from-add l.start l.length r.length ∙ ap (λ (s : ℕ). blocks_in l ++ blocks_from s r.length) e

pub appended_joins : (xs : List Run) (l r : Run) → end_of l ≡ r.start → appended (xs ++ l ∷ []) r ≡ xs ++ joined l r ∷ []
appended_joins [] l r e = ap (λ (b : Bool). cond b (joined l r ∷ []) (l ∷ r ∷ [])) (eq-eqb (end_of l) r.start e)
appended_joins (x ∷ []) l r e = ap (λ (ys : List Run). x ∷ ys) (appended_joins [] l r e)
appended_joins (x ∷ y ∷ ys) l r e = ap (λ (zs : List Run). x ∷ zs) (appended_joins (y ∷ ys) l r e)

pub appended_adds : (xs : List Run) (r : Run) → next_block xs ≢ Some r.start → appended xs r ≡ xs ++ r ∷ []
appended_adds [] r apart = refl
appended_adds (l ∷ []) r apart = ap (λ (b : Bool). cond b (joined l r ∷ []) (l ∷ r ∷ [])) (ne_eqb (end_of l) r.start (λ e. apart (ap (λ (s : ℕ). Some s) e)))
appended_adds (x ∷ y ∷ ys) r apart = ap (λ (zs : List Run). x ∷ zs) (appended_adds (y ∷ ys) r apart)

-- a list with a block behind it ends with a run
pub ends_with_run : (xs : List Run) (b : ℕ) → next_block xs ≡ Some b → (front : List Run) × (last : Run) × (xs ≡ front ++ last ∷ []) × (end_of last ≡ b)
ends_with_run [] b e = absurd (none-some b e)
ends_with_run (l ∷ []) b e = ([], l, refl, same_Some (end_of l) b e)
ends_with_run (x ∷ y ∷ ys) b e =
    let (front, last, is, end) = ends_with_run (y ∷ ys) b e in
    (x ∷ front, last, ap (λ (zs : List Run). x ∷ zs) is, end)

-- the last run by its place
pub next_block_last : (xs : List Run) (l : Run) → slice_get xs (length xs - 1) ≡ Some l → next_block xs ≡ Some (end_of l)
next_block_last [] l e = absurd (none-some l e)
next_block_last (x ∷ []) l e = ap (λ (m : Run). Some (end_of m)) (same_Some x l e)
next_block_last (x ∷ y ∷ ys) l e =
    let n : suc (suc (length ys)) - 1 ≡ suc (length ys) = omega arith in
    let m : suc (length ys) - 1 ≡ length ys = omega arith in
    let e' = rw n at e in
    next_block_last (y ∷ ys) l (rw m e')

module _ (xs : List Run) (at : ℕ) (l r : Run) (last : at + 1 ≡ length xs) (there : l ≡ get_or xs at l) (follows : next_block xs ≡ Some r.start) where
  whole : (front : List Run) × (end : Run) × (xs ≡ front ++ end ∷ []) × (end_of end ≡ r.start)
  whole = ends_with_run xs r.start follows

  front_length : length whole.0 ≡ at
  front_length = omega (arith, ap length whole.2, length_push whole.0 whole.1)

  same_last : l ≡ whole.1
  same_last = there ∙ ap (λ (zs : List Run). get_or zs at l) whole.2 ∙ get_or_at whole.0 whole.1 [] l at front_length

  pub end_of-last : end_of l ≡ r.start
  end_of-last = ap end_of same_last ∙ whole.3

  pub set-last : set xs at (joined l r) ≡ appended xs r
  set-last =
      ap (λ (zs : List Run). set zs at (joined l r)) whole.2
      ∙ set_at whole.0 whole.1 [] (joined l r) at front_length
      ∙ ap (λ (m : Run). whole.0 ++ joined m r ∷ []) same_last
      ∙ sym (appended_joins whole.0 whole.1 r whole.3)
      ∙ ap (λ (zs : List Run). appended zs r) (sym whole.2)

  pub IsRun-joined : IsRun r → IsRun (joined l r)
  IsRun-joined is = (omega (arith, is), omega (arith, is, end_of-last))

  pub All-set_last : IsRun r → All IsRun xs → All IsRun (set xs at (joined l r))
  All-set_last is all = All-set IsRun xs at (joined l r) (IsRun-joined is) all

-- a run follows the last block or doesn't
follows_at : (o : Option ℕ) (b : ℕ) → (o ≡ Some b) ⊎ (o ≢ Some b)
follows_at None b = inr (λ e. none-some b e)
follows_at (Some a) b = ⊎_elim (λ e. inl (ap (λ (n : ℕ). Some n) e.1)) (λ e. inr (λ s. e.1 (same_Some a b s))) (eqb_tells a b)

pub follows_or_not : (xs : List Run) (r : Run) → (next_block xs ≡ Some r.start) ⊎ (next_block xs ≢ Some r.start)
follows_or_not xs r = follows_at (next_block xs) r.start

pub blocks_of-appended : (xs : List Run) (r : Run) → blocks_of (appended xs r) ≡ blocks_of xs ++ blocks_in r
blocks_of-appended xs r = ⊎_elim at_end behind (follows_or_not xs r) where
  behind : next_block xs ≢ Some r.start → blocks_of (appended xs r) ≡ blocks_of xs ++ blocks_in r
  behind apart = ap blocks_of (appended_adds xs r apart) ∙ blocks_of-append xs (r ∷ []) ∙ ap (λ (bs : List ℕ). blocks_of xs ++ bs) (append-nil (blocks_in r))

  at_end : next_block xs ≡ Some r.start → blocks_of (appended xs r) ≡ blocks_of xs ++ blocks_in r
  at_end follows =
      let w : (front : List Run) × (end : Run) × (xs ≡ front ++ end ∷ []) × (end_of end ≡ r.start) = ends_with_run xs r.start follows in
      ap (λ (zs : List Run). blocks_of (appended zs r)) w.2
      ∙ ap blocks_of (appended_joins w.0 w.1 r w.3)
      ∙ blocks_of-append w.0 (joined w.1 r ∷ [])
      ∙ ap (λ (bs : List ℕ). blocks_of w.0 ++ bs) (append-nil (blocks_in (joined w.1 r)) ∙ blocks_of-joined w.1 r w.3)
      ∙ sym (append_assoc (blocks_of w.0) (blocks_in w.1) (blocks_in r))
      ∙ ap (λ (bs : List ℕ). bs ++ blocks_in r) (ap (λ (bs : List ℕ). blocks_of w.0 ++ bs) (sym (append-nil (blocks_in w.1))) ∙ sym (blocks_of-append w.0 (w.1 ∷ [])) ∙ ap blocks_of (sym w.2))

pub next_block-appended : (xs : List Run) (r : Run) → next_block (appended xs r) ≡ Some (end_of r)
next_block-appended xs r = ⊎_elim at_end behind (follows_or_not xs r) where
  behind : next_block xs ≢ Some r.start → next_block (appended xs r) ≡ Some (end_of r)
  behind apart = ap next_block (appended_adds xs r apart) ∙ next_block_push xs r

  at_end : next_block xs ≡ Some r.start → next_block (appended xs r) ≡ Some (end_of r)
  at_end follows =
      let w : (front : List Run) × (end : Run) × (xs ≡ front ++ end ∷ []) × (end_of end ≡ r.start) = ends_with_run xs r.start follows in
      let sum : end_of (joined w.1 r) ≡ end_of r = omega (arith, w.3) in
      ap (λ (zs : List Run). next_block (appended zs r)) w.2
      ∙ ap next_block (appended_joins w.0 w.1 r w.3)
      ∙ next_block_push w.0 (joined w.1 r)
      ∙ ap (λ (n : ℕ). Some n) sum

pub length-appended_joins : (xs : List Run) (r : Run) → next_block xs ≡ Some r.start → length (appended xs r) ≡ length xs
length-appended_joins xs r follows =
    let w : (front : List Run) × (end : Run) × (xs ≡ front ++ end ∷ []) × (end_of end ≡ r.start) = ends_with_run xs r.start follows in
    ap (λ (zs : List Run). length (appended zs r)) w.2
    ∙ ap (λ (zs : List Run). length zs) (appended_joins w.0 w.1 r w.3)
    ∙ length_push w.0 (joined w.1 r)
    ∙ sym (length_push w.0 w.1)
    ∙ ap (λ (zs : List Run). length zs) (sym w.2)

pub length-appended_adds : (xs : List Run) (r : Run) → next_block xs ≢ Some r.start → length (appended xs r) ≡ length xs + 1
length-appended_adds xs r apart = ap (λ (zs : List Run). length zs) (appended_adds xs r apart) ∙ length_push xs r

pub length-next_block : (xs : List Run) (b : ℕ) → next_block xs ≡ Some b → 1 ≤ length xs
length-next_block [] b e = absurd (none-some b e)
length-next_block (x ∷ xs) b e = omega arith

-- ---- runs behind the others in turn
pub appended_all_more : (xs rs : List Run) (i : ℕ) (d : Run) → i < length rs → appended_all xs (take (i + 1) rs) ≡ appended (appended_all xs (take i rs)) (get_or rs i d)
appended_all_more xs rs i d h = fold_more appended xs rs i d h

-- ---- the answer of a comparison with a block
pub same_block : (o : Option ℕ) (b : ℕ) → option_eq eqb o (Some b) ≡ true → o ≡ Some b
same_block None b e = absurd (true≢false (sym e))
same_block (Some a) b e = ap (λ (n : ℕ). Some n) (eqb-true a b e)

pub other_block : (o : Option ℕ) (b : ℕ) → option_eq eqb o (Some b) ≡ false → o ≢ Some b
other_block None b e s = none-some b s
other_block (Some a) b e s = eqb-false a b e (same_Some a b s)

pub not-true : (x : Bool) → true ≡ not x → x ≡ false
not-true true e = e
not-true false e = refl

pub not-false : (x : Bool) → false ≡ not x → x ≡ true
not-false true e = refl
not-false false e = e

-- for who appends runs in turn: there is room for each where there is room for all
pub length-appended : (xs : List Run) (r : Run) → length xs ≤ length (appended xs r)
length-appended xs r = ⊎_elim (λ (e : next_block xs ≡ Some r.start). omega (arith, length-appended_joins xs r e)) (λ (e : next_block xs ≢ Some r.start). omega (arith, length-appended_adds xs r e)) (follows_or_not xs r)

pub length-appended_all : (xs rs : List Run) → length xs ≤ length (appended_all xs rs)
length-appended_all xs [] = omega arith
length-appended_all xs (r ∷ rs) = omega (arith, length-appended xs r, length-appended_all (appended xs r) rs)

pub has_room : (xs : List Run) (r : Run) (n : ℕ) → length (appended xs r) ≤ n → (next_block xs ≢ Some r.start) × (length xs ≡ n) → ⊥
has_room xs r n fits full = omega (arith, fits, full.1, length-appended_adds xs r full.0)
