-- What a crash leaves of the states that a hand stamped.
use Rattle.std.specs.Prelude.{ℕ, ◌≤◌, List, drop, length, map}
use Rattle.ufs_crash_laws.specs.Explained.{IsExplainedFrom}
use Rattle.ufs_disk.specs.Moments.{Moments, all}
use Rattle.ufs_hand_laws.specs.Owned.{Has}
use Rattle.ufs_hand_laws.specs.Parts.{Cells}
use Rattle.ufs_hand_laws.specs.Shown.{EachOpensTo}
use Rattle.ufs_model.specs.PosixTree.{PosixTree}
use Rattle.ufs_model.specs.declared.data.Entry.{Entry}
use Rattle.ufs_store_steps.specs.Cells.{cells_of}

-- Whatever a crash leaves in this state is explained by the first entries, for each number of them from one stamp to another.
abbrev pub IsExplainedAtStamps : PosixTree → List Entry → Cells → Type 0
IsExplainedAtStamps start history cells = (from to : ℕ) × (from ≤ to) × (to ≤ length history) × EachOpensTo (λ tree. IsExplainedFrom tree start history from to) cells

-- The session's hand stamped each state that the disk was in from the one moment to the other: whatever a crash leaves in it is
-- explained by the first entries of the history, for each number of them from one stamp to another.
abbrev pub AreMomentsStamped : PosixTree → List Entry → (sectors : ℕ) → Moments → Moments → Type 0
AreMomentsStamped start history sectors old new = (x : Cells) → Has x (map (cells_of sectors) (drop (length (all old)) (all new))) → IsExplainedAtStamps start history x
