-- What lost its name is met by no walk.
use Rattle.std.proofs.Common.{◌≡◌, ◌≢◌, ℕ, ◌⊎◌, inl, inr, List, [], ◌∷◌, ◌++◌, Some, None, length, ap, sym, ◌∙◌, arith, length-append}
use Rattle.std.proofs.lemmas.List.{append-nil}
use Rattle.ufs_dir_tree.specs.DirTable.{DirTable, IsDirTable, inode_of, found_at}
use Rattle.ufs_dir_tree.specs.DirCalls.{IsUnmet, SetsFound, MovesFounds, MayMove}
use Rattle.ufs_dir_tree.specs.declared.found.Found.{Found}
use Rattle.ufs_dir_tree.proofs.Prefixes.{Begins, NotBegins, begins_or_not}

-- the names are these, or others
pub same_or_not : (path names : List (List ℕ)) → (names ≡ path) ⊎ (names ≢ path)
same_or_not path names = by (begins_or_not path names)
  where
    longer : (y : List ℕ) (ys : List (List ℕ)) → path ≢ path ++ y ∷ ys
    longer y ys e = omega (arith, ap (λ (l : List (List ℕ)). length l) e, length-append path (y ∷ ys))

    begun : (rest : List (List ℕ)) → names ≡ path ++ rest → (names ≡ path) ⊎ (names ≢ path)
    begun [] e = inl (e ∙ append-nil path)
    begun (y ∷ ys) e = inr (λ same. longer y ys (sym same ∙ e))

    by : Begins path names ⊎ NotBegins path names → (names ≡ path) ⊎ (names ≢ path)
    by (inl begins) = begun begins.0 begins.1
    by (inr not) = inr (λ same. not [] (same ∙ sym (append-nil path)))

pub removed_unmet : (old new : DirTable) (path : List (List ℕ)) (f : Found) → IsDirTable old → SetsFound (found_at old) (found_at new) path None → found_at old path ≡ Some f → IsUnmet new (inode_of f)
removed_unmet old new path f is sets stood names g at same = by (same_or_not path names)
  where
    by : (names ≡ path) ⊎ (names ≢ path) → ⊥
    by (inl here) = let none = ap (found_at new) here ∙ sets.this in cc
    by (inr other) = other (is.once names path g f (sym (sets.others names other) ∙ at) stood same)

pub replaced_unmet : (old new : DirTable) (from to : List (List ℕ)) (f : Found) → IsDirTable old → MayMove old from to → MovesFounds (found_at old) (found_at new) from to → found_at old to ≡ Some f → IsUnmet new (inode_of f)
replaced_unmet old new from to f is may moves stood names g at same = by (begins_or_not to names) (begins_or_not from names)
  where
    by : Begins to names ⊎ NotBegins to names → Begins from names ⊎ NotBegins from names → ⊥
    by (inl below) away = may.outside below.0 (sym (is.once (from ++ below.0) to g f (sym (moves.moved below.0) ∙ ap (found_at new) (sym below.1) ∙ at) stood same))
    by (inr off) (inl below) = let none = ap (found_at new) below.1 ∙ moves.gone below.0 in cc
    by (inr off) (inr away) = off [] (is.once names to g f (sym (moves.others names away off) ∙ at) stood same ∙ sym (append-nil to))
