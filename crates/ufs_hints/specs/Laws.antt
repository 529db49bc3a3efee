-- What renewals and uses of hints do.
use Rattle.std.specs.Prelude.{ℕ, ◌≡◌, ◌≢◌, ◌<◌, ◌⊎◌, length, [], ◌∷◌, ◌++◌, Some, None, IsSome}
use Rattle.ufs_model.specs.declared.data.Actor.{Actor}
use Rattle.ufs_hints.specs.Hints.{AreFew, Pairs, hint_of, renewed, used}

-- The file has the new hint.
abbrev pub NewOneIsKnown : Type 0
NewOneIsKnown = (file : ℕ) (owner : Actor) (hints : Pairs) → hint_of file (renewed file owner hints) ≡ Some owner

-- Where the file had a hint, or there is room for one more, every other file keeps its hint.
abbrev pub OthersStay : Type 0
OthersStay = (file : ℕ) (owner : Actor) (hints : Pairs) (other : ℕ) → other ≢ file → IsSome (hint_of file hints) ⊎ (length hints < 64) → hint_of other (renewed file owner hints) ≡ hint_of other hints

-- Where there are 64 and the file has none, the one that was used longest ago stands last: it goes, and all others stay behind the new one.
abbrev pub OldestGoes : Type 0
OldestGoes = (file : ℕ) (owner : Actor) (hints : Pairs) (oldest : ℕ) (server : Actor) → length hints ≡ 63 → hint_of file (hints ++ (oldest, server) ∷ []) ≡ None
    → renewed file owner (hints ++ (oldest, server) ∷ []) ≡ (file, owner) ∷ hints

-- A use changes no hint.
abbrev pub UsesChangeNone : Type 0
UsesChangeNone = (file : ℕ) (hints : Pairs) (other : ℕ) → hint_of other (used file hints) ≡ hint_of other hints
