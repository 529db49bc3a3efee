-- Stretches at each moment of which the history explains what a crash leaves.
use Rattle.std.proofs.Common.{◌≡◌, ℕ, Bool, List, subst}
use Rattle.ufs_disk.specs.Moments.{Moments}
use Rattle.ufs_disk.proofs.Runs.{joined}
use Rattle.ufs_model.specs.PosixTree.{PosixTree}
use Rattle.ufs_model.specs.declared.data.Entry.{Entry}
use Rattle.ufs_store.specs.State.{StoreState}
use Rattle.ufs_promise_laws.specs.OnDisk.{IsExplainedBetween, IsExplainedImage}

-- one behind another
pub explained_joined : (keeps : Bool) (start : PosixTree) (history : List Entry) (sectors : ℕ) (old : Moments) (mid : StoreState) (new : Moments) → mid.sectors ≡ sectors
    → IsExplainedBetween keeps sectors start history old mid.moments → IsExplainedBetween keeps mid.sectors start history mid.moments new → IsExplainedBetween keeps sectors start history old new
explained_joined keeps start history sectors old mid new same front back =
    joined keeps (IsExplainedImage sectors start history) old mid.moments new front (subst (λ n. IsExplainedBetween keeps n start history mid.moments new) same back)
