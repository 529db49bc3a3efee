-- What is met after a change was met before it.
use Rattle.std.proofs.Common.{◌≡◌, ◌≢◌, ℕ, ◌⊎◌, inl, inr, List, ◌++◌, Some, None, ap, sym, ◌∙◌}
use Rattle.ufs_dir_tree.specs.DirTable.{DirTable, found_at}
use Rattle.ufs_dir_tree.specs.DirCalls.{SetsFound, MovesFounds}
use Rattle.ufs_dir_tree.specs.declared.found.Found.{Found}
use Rattle.ufs_dir_tree.proofs.Prefixes.{Begins, NotBegins, begins_or_not}
use Rattle.ufs_dir_tree.proofs.UnmetInodes.{same_or_not}

-- some names lead to it
abbrev pub IsMetIn : DirTable → Found → Type 0
IsMetIn t f = (names : List (List ℕ)) × (found_at t names ≡ Some f)

module _ (t new : DirTable) where
  -- what is met now is what was put there, or was met there before
  pub came_or_was : (path names : List (List ℕ)) (w f : Found) → SetsFound (found_at t) (found_at new) path (Some w) → found_at new names ≡ Some f → (w ≡ f) ⊎ (found_at t names ≡ Some f)
  came_or_was path names w f sets at = by (same_or_not path names)
    where
      by : (names ≡ path) ⊎ (names ≢ path) → (w ≡ f) ⊎ (found_at t names ≡ Some f)
      by (inl here) = let this = sym sets.this ∙ ap (found_at new) (sym here) ∙ at in inl cc
      by (inr other) = inr (sym (sets.others names other) ∙ at)

  pub was_left : (path names : List (List ℕ)) (f : Found) → SetsFound (found_at t) (found_at new) path None → found_at new names ≡ Some f → IsMetIn t f
  was_left path names f sets at = by (same_or_not path names)
    where
      by : (names ≡ path) ⊎ (names ≢ path) → IsMetIn t f
      by (inl here) = let none = sym sets.this ∙ ap (found_at new) (sym here) ∙ at in absurd cc
      by (inr other) = (names, sym (sets.others names other) ∙ at)

  pub was_moved : (from to names : List (List ℕ)) (f : Found) → MovesFounds (found_at t) (found_at new) from to → found_at new names ≡ Some f → IsMetIn t f
  was_moved from to names f moves at = by (begins_or_not to names) (begins_or_not from names)
    where
      by : Begins to names ⊎ NotBegins to names → Begins from names ⊎ NotBegins from names → IsMetIn t f
      by (inl below) away = (from ++ below.0, sym (moves.moved below.0) ∙ ap (found_at new) (sym below.1) ∙ at)
      by (inr off) (inl below) = let none = sym (moves.gone below.0) ∙ ap (found_at new) (sym below.1) ∙ at in absurd cc
      by (inr off) (inr away) = (names, sym (moves.others names away off) ∙ at)
