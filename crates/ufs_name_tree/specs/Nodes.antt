-- What stands at each list of names, as a tree has it: a directory, or a file by its number.
use Rattle.std.specs.Prelude.{ℕ, ◌≡◌, ◌≢◌, List, [], ◌∷◌, ◌++◌, Option, None}
use Rattle.ufs_base.specs.Choices.{first_of}
use Rattle.ufs_model.specs.Walk.{dir_refusal}
use Rattle.ufs_model.specs.declared.data.Errno.{Errno}
use Rattle.ufs_model.specs.declared.data.Node.{Node}

abbrev pub Nodes : Type 0
Nodes = List (List ℕ) → Option Node

-- Below the names above, each name but the last has to be a directory that is there.
abbrev pub refusal_by : Nodes → List (List ℕ) → List (List ℕ) → Option Errno
refusal_by at above [] = None
refusal_by at above (name ∷ []) = None
refusal_by at above (name ∷ next ∷ names) = first_of (dir_refusal (at (above ++ name ∷ []))) (refusal_by at (above ++ name ∷ []) (next ∷ names))

-- At these names stands this now, and elsewhere what stood there.
pub record SetsNode (old new : Nodes) (names : List (List ℕ)) (w : Option Node) : Type 0 where
  pub this : new names ≡ w
  pub others : (other : List (List ℕ)) → other ≢ names → new other ≡ old other

-- What stood at or below the names `from` stands at or below the names `to`; nothing stands there any more; and
-- elsewhere what stood there.
pub record MovesNodes (old new : Nodes) (from to : List (List ℕ)) : Type 0 where
  pub moved : (rest : List (List ℕ)) → new (to ++ rest) ≡ old (from ++ rest)
  pub gone : (rest : List (List ℕ)) → new (from ++ rest) ≡ None
  pub others : (other : List (List ℕ)) → ((rest : List (List ℕ)) → other ≢ from ++ rest) → ((rest : List (List ℕ)) → other ≢ to ++ rest) → new other ≡ old other
