-- How the first hand of a session is dealt to who takes part.
use Rattle.std.specs.Prelude.{ℕ, ◌+◌, ◌≤◌, eqb, List, [], map}
use Rattle.ufs_file_commits.specs.State.{DurableState, state_of}
use Rattle.ufs_joint.specs.Cells.{FileCell, View}
use Rattle.ufs_noted.specs.declared.known.KnownFile.{KnownFile}
use Rattle.ufs_hand_laws.specs.Owned.{count}

-- what is left once names and store are dealt: each client, each pool and each file
abbrev pub rest_of : View → View
rest_of v = record v { names = []; store = [] }

-- Of the hand's files and pools no two have one number.
abbrev pub AreApart : View → Type 0
AreApart v = (n : ℕ) → count eqb n v.files + count eqb n v.pools ≤ 1

-- what the cells of a hand's files have, by the numbers under which they stand
abbrev pub values_in : List (ℕ × FileCell) → List (ℕ × DurableState)
values_in cells = map (λ c. (c.0, c.1.value)) cells

-- what files have with what is known of their commits, by their own numbers
abbrev pub values_of : List KnownFile → List (ℕ × DurableState)
values_of files = map (λ k. (k.hand.file, state_of k.hand k.commits)) files
