-- What a disk stands for where nothing is done on it.
use Rattle.std.specs.Prelude.{ℕ, []}
use Rattle.ufs_brink.specs.Begins.{BeginsWith}
use Rattle.ufs_disk.specs.Disk.{Leaves, State, seen}
use Rattle.ufs_ledger.specs.Kept.{OpensExplained}
use Rattle.ufs_model.specs.PosixTree.{PosixTree}
use Rattle.ufs_recovery.specs.Recovered.{IsProperDisk}

-- What a crash leaves of a proper disk opens to the tree that a session on it begins with.
abbrev pub StandsAsBegun : ℕ → Type 0
StandsAsBegun sectors = (state : State) (start : PosixTree) → IsProperDisk sectors state → BeginsWith sectors (seen state) start → Leaves (OpensExplained sectors start []) state
