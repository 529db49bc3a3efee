-- One file after the other is taken out of a hand.
use Rattle.std.proofs.Common.{◌≡◌, ◌≤◌, ℕ, List, [], ◌∷◌, ◌++◌, length, inl, eqb, ap, sym, refl, ◌∙◌, subst, arith}
use Rattle.ufs_file_commits.specs.State.{DurableState, state_of}
use Rattle.ufs_held.specs.Together.{under_numbers}
use Rattle.ufs_joint.specs.Cells.{FileCell, View}
use Rattle.ufs_noted.specs.declared.known.KnownFile.{KnownFile}
use Rattle.ufs_hand_laws.specs.Owned.{Has, count, without}
use Rattle.ufs_dealt.specs.Dealt.{AreApart, values_in, values_of}
use Rattle.ufs_dealt.proofs.Cutting.{without_this}
use Rattle.ufs_dealt.proofs.Hands.{file_once}

-- The first file's cell is the first one.
pub record IsFirst (cells : List (ℕ × FileCell)) (k : KnownFile) (rest : List KnownFile) : Type 0 where
  pub cell : FileCell
  pub others : List (ℕ × FileCell)
  pub is : cells ≡ (k.hand.file, cell) ∷ others
  pub value : cell.value ≡ state_of k.hand k.commits
  pub left : values_in others ≡ values_of rest

pub first_of : (cells : List (ℕ × FileCell)) (k : KnownFile) (rest : List KnownFile) → values_in cells ≡ values_of (k ∷ rest) → IsFirst cells k rest
first_of [] k rest same = (let none : [] ≡ (k.hand.file, state_of k.hand k.commits) ∷ values_of rest = same in absurd cc)
first_of (p ∷ ps) k rest same =
    let had : ℕ × DurableState = (p.0, p.1.value) in
    let has : ℕ × DurableState = (k.hand.file, state_of k.hand k.commits) in
    let both : had ∷ values_in ps ≡ has ∷ values_of rest = same in
    let head : had ≡ has = cc in
    let tail : values_in ps ≡ values_of rest = cc in
    record {
      cell = p.1;
      others = ps;
      is = ap (λ (n : ℕ). (n, p.1) ∷ ps) (ap (λ (q : ℕ × DurableState). q.0) head);
      value = ap (λ (q : ℕ × DurableState). q.1) head;
      left = tail;
    }

pub no_items : {X : Type 0} (xs : List X) → length xs ≡ 0 → xs ≡ []
no_items [] none = refl
no_items (x ∷ xs) none = absurd (omega (arith, none))

pub none_left : (cells : List (ℕ × FileCell)) → values_in cells ≡ [] → cells ≡ []
none_left [] none = refl
none_left (p ∷ ps) none = (let both : (p.0, p.1.value) ∷ values_in ps ≡ [] = none in absurd cc)

module _ (v : View) (apart : AreApart v) (k : KnownFile) (rest : List KnownFile) (first : IsFirst v.files k rest) where
  pub has_first : Has {A = ℕ × FileCell} (k.hand.file, first.cell) v.files
  has_first = subst (Has {A = ℕ × FileCell} (k.hand.file, first.cell)) (sym first.is) (inl refl)

  -- what is left behind it
  pub behind_first : without (eqb k.hand.file) v.files ≡ first.others
  behind_first =
      let once : count eqb k.hand.file ((k.hand.file, first.cell) ∷ first.others) ≤ 1 = subst (λ (ps : List (ℕ × FileCell)). count eqb k.hand.file ps ≤ 1) first.is (file_once v apart k.hand.file) in
      ap (without (eqb k.hand.file)) first.is ∙ without_this k.hand.file first.cell first.others once

-- ---- those that were dealt

pub numbers_push : (cells : List FileCell) (c : FileCell) (rest : List (ℕ × FileCell)) → under_numbers (cells ++ c ∷ []) ++ rest ≡ under_numbers cells ++ (c.value.file.file, c) ∷ rest
numbers_push [] c rest = refl
numbers_push (d ∷ cells) c rest = ap (λ ps. (d.value.file.file, d) ∷ ps) (numbers_push cells c rest)
