-- A client's hints: files and the servers that are believed to have them, the most recently used first.
use Rattle.std.specs.Prelude.{ℕ, ◌≤◌, nat_eq, cond, length, List, [], ◌∷◌, take, Option, Some, None}
use Rattle.std.specs.Coded.{Coded, coded×, coded_ℕ, coded_list}
use Rattle.std.specs.List.{IsDistinct}
use Rattle.std.specs.Map.{keys_of, lookup}
use Rattle.ufs_model.specs.contracts.data.Actor as actor'
use Rattle.ufs_model.specs.declared.data.Actor.{Actor}

abbrev pub Pairs : Type 0
Pairs = List (ℕ × Actor)

abbrev pub hints_code : Coded Pairs
hints_code = coded_list (coded× coded_ℕ actor'.the_row.coded)

-- At most 64 files have one, and no file has two.
pub record AreFew (hints : Pairs) : Type 0 where
  pub most : length hints ≤ 64
  pub once : IsDistinct nat_eq (keys_of hints)

-- the server that is believed to have the file
abbrev pub hint_of : ℕ → Pairs → Option Actor
hint_of file hints = lookup (nat_eq file) hints

-- the hints of the other files
abbrev pub others : ℕ → Pairs → Pairs
others file [] = []
others file (h ∷ hints) = cond (nat_eq file h.0) hints (h ∷ others file hints)

abbrev pub used_as : ℕ → Pairs → Option Actor → Pairs
used_as file hints None = hints
used_as file hints (Some owner) = (file, owner) ∷ others file hints

-- the file's hint goes before the others
abbrev pub used : ℕ → Pairs → Pairs
used file hints = used_as file hints (hint_of file hints)

abbrev pub renewed_as : ℕ → Actor → Pairs → Option Actor → Pairs
renewed_as file owner hints None = (file, owner) ∷ take 63 hints
renewed_as file owner hints (Some old) = (file, owner) ∷ others file hints

-- the file has this hint, before the others: of those the last goes where there were 64 and the file had none
abbrev pub renewed : ℕ → Actor → Pairs → Pairs
renewed file owner hints = renewed_as file owner hints (hint_of file hints)
