-- Where the lines of a text end.
use Rattle.std.proofs.Common.{◌≡◌, ℕ, ◌<◌, ◌≤◌, ◌+◌, List, [], ◌∷◌, length, take, drop, refl, Bool, Some, None, cond, arith, ◌∙◌, sym, ap, inl, inr}
use Rattle.std.specs.Prelude.{◌==◌}
use Rattle.std.specs.List.{slice_split, position, position_or_len}
use Rattle.std.proofs.lemmas.Bool.{cases_lt, lt-ltb, le-ltb}
use Rattle.std.proofs.lemmas.List.Splits.{slice_split_first, slice_split_none, length-slice_split}
use Rattle.std.proofs.lemmas.List.Sums.{fails_before_first}
use Rattle.ufs_script.specs.Lines.{without_return, all_ended, all_unended, ended_lines, unended_line}

record IsPlace (p : ℕ → Bool) (xs : List ℕ) (i : ℕ) : Type 0 where
  is : position_or_len p xs ≡ i
  within : position_or_len p xs < length xs

place_is : (p : ℕ → Bool) (xs : List ℕ) (i : ℕ) → position p xs ≡ Some i → IsPlace p xs i
place_is p xs i h = elim (cases_lt (position_or_len p xs) (length xs)) [
  | inl within ↦
      let found : Some (position_or_len p xs) ≡ Some i = ap (λ b. cond b (Some (position_or_len p xs)) None) (sym (lt-ltb _ _ within)) ∙ h in
      record { is = cc; within = within }
  | inr past ↦
      let none : None ≡ Some i = ap (λ b. cond b (Some (position_or_len p xs)) None) (sym (le-ltb _ _ past)) ∙ h in
      cc
]

no_place : (p : ℕ → Bool) (xs : List ℕ) → position p xs ≡ None → length xs ≤ position_or_len p xs
no_place p xs h = elim (cases_lt (position_or_len p xs) (length xs)) [
  | inl within ↦
      let found : Some (position_or_len p xs) ≡ None = ap (λ b. cond b (Some (position_or_len p xs)) None) (sym (lt-ltb _ _ within)) ∙ h in
      cc
  | inr past ↦ past
]

-- the first piece and the pieces of what follows it
pub split_at_place : (p : ℕ → Bool) (xs : List ℕ) (i : ℕ) → position p xs ≡ Some i → slice_split p xs ≡ take i xs ∷ slice_split p (drop (i + 1) xs)
split_at_place p xs i h =
    let place = place_is p xs i h in
    slice_split_first p xs 0 place.within ∙ ap (λ k. take k xs ∷ slice_split p (drop (k + 1) xs)) place.is

-- the only piece
pub split_nowhere : (p : ℕ → Bool) (xs : List ℕ) → position p xs ≡ None → slice_split p xs ≡ xs ∷ []
split_nowhere p xs h =
    let past = no_place p xs h in
    slice_split_none p xs (λ k d within. fails_before_first p xs k d (omega arith))

pub ended_more : (line : List ℕ) (pieces : List (List ℕ)) → 0 < length pieces → all_ended (line ∷ pieces) ≡ without_return line ∷ all_ended pieces
ended_more line [] h = absurd (omega arith)
ended_more line (piece ∷ pieces) h = refl

pub unended_more : (line : List ℕ) (pieces : List (List ℕ)) → 0 < length pieces → all_unended (line ∷ pieces) ≡ all_unended pieces
unended_more line [] h = absurd (omega arith)
unended_more [] (piece ∷ pieces) h = refl
unended_more (b ∷ line) (piece ∷ pieces) h = refl

pub some_piece : (p : ℕ → Bool) (xs : List ℕ) → 0 < length (slice_split p xs)
some_piece p xs = omega (arith, length-slice_split p xs)

pub first_ended : (text : List ℕ) (i : ℕ) → position (λ b. b == 10) text ≡ Some i → ended_lines text ≡ without_return (take i text) ∷ ended_lines (drop (i + 1) text)
first_ended text i h = ap all_ended (split_at_place (λ b. b == 10) text i h) ∙ ended_more (take i text) _ (some_piece (λ b. b == 10) (drop (i + 1) text))

pub first_unended : (text : List ℕ) (i : ℕ) → position (λ b. b == 10) text ≡ Some i → unended_line text ≡ unended_line (drop (i + 1) text)
first_unended text i h = ap all_unended (split_at_place (λ b. b == 10) text i h) ∙ unended_more (take i text) _ (some_piece (λ b. b == 10) (drop (i + 1) text))

pub none_ended : (text : List ℕ) → position (λ b. b == 10) text ≡ None → ended_lines text ≡ []
none_ended text h = ap all_ended (split_nowhere (λ b. b == 10) text h)

pub only_unended : (text : List ℕ) → position (λ b. b == 10) text ≡ None → unended_line text ≡ all_unended (text ∷ [])
only_unended text h = ap all_unended (split_nowhere (λ b. b == 10) text h)
