-- A history with the tree before each of its entries.
use Rattle.std.specs.Prelude.{ℕ, ◌+◌, List, [], ◌∷◌, Bool, true, false, if◌then◌else◌}
use Rattle.std.specs.List.{list_any}
use Rattle.ufs_model.specs.PosixTree.{PosixTree}
use Rattle.ufs_model.specs.History.{goes_on, tree_after}
use Rattle.ufs_model.specs.declared.data.Entry.{Entry}
use Rattle.ufs_model.specs.declared.data.Reply.{Reply}
use Rattle.ufs_model.specs.declared.data.Reply.TheVariants as reply

-- an entry, and the tree before it
pub record Step : Type 0 where
  pub before : PosixTree
  pub entry : Entry

abbrev pub steps : PosixTree → List Entry → List Step
steps t [] = []
steps t (entry ∷ history) = record { before = t; entry = entry } ∷ steps (goes_on t entry) history

-- neither refused nor excused
abbrev pub is_served : Reply → Bool
is_served (reply.Refused e) = false
is_served (reply.Excused x) = false
is_served _ = true

-- the reply `ok`
abbrev pub is_ok : Reply → Bool
is_ok reply.Done = true
is_ok _ = false

-- the step by which a history goes on
abbrev pub next_step : PosixTree → List Entry → Entry → Step
next_step start history entry = record { before = tree_after start history; entry = entry }

-- how much is counted in the steps before the last one that passes a test
abbrev pub before_last : (Step → Bool) → (Step → ℕ) → List Step → ℕ
before_last passes counted [] = 0
before_last passes counted (s ∷ ss) = if list_any passes ss then counted s + before_last passes counted ss else 0
