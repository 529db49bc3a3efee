-- What a crash leaves while entries are answered.
use Rattle.std.specs.Prelude.{ℕ, Bool, List, [], ◌∷◌, ◌++◌}
use Rattle.ufs_disk.specs.Moments.{Moments}
use Rattle.ufs_model.specs.PosixTree.{PosixTree}
use Rattle.ufs_model.specs.declared.data.Entry.{Entry}
use Rattle.ufs_promise_laws.specs.OnDisk.{IsExplainedBetween}

-- The disk passes from the one moment to the other while these entries are answered behind those: at each moment whatever a crash
-- leaves is explained by the entries that were answered by then, and is proper.
abbrev pub IsExplainedThroughout : Bool → ℕ → PosixTree → (before told : List Entry) → Moments → Moments → Type 0
IsExplainedThroughout keeps sectors start before [] old new = IsExplainedBetween keeps sectors start before old new
IsExplainedThroughout keeps sectors start before (entry ∷ told) old new =
    (answered : Moments) × IsExplainedBetween keeps sectors start before old answered × IsExplainedThroughout keeps sectors start (before ++ entry ∷ []) told answered new
