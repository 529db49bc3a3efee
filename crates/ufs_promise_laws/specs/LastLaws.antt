-- What stands on a disk once everything is synced.
use Rattle.std.specs.Prelude.{ℕ, ◌≡◌, List}
use Rattle.ufs_disk.specs.Disk.{Leaves}
use Rattle.ufs_layout.specs.declared.geometry.Geometry.{Geometry}
use Rattle.ufs_model.specs.History.{tree_after}
use Rattle.ufs_model.specs.PosixTree.{PosixTree}
use Rattle.ufs_model.specs.declared.data.Entry.{Entry}
use Rattle.ufs_store.specs.State.{StoreState, geometry_of_store}
use Rattle.ufs_promise_laws.specs.OnDisk.{HasAll}
use Rattle.ufs_promise_laws.specs.Parts.{Parts}
use Rattle.ufs_promise_laws.specs.Last.{StandsForTree}

-- Whatever a crash leaves opens to the last tree.
abbrev pub AllIsLast : Geometry → Type 0
AllIsLast g = (s : StoreState) (start : PosixTree) (history : List Entry) (p : Parts) → geometry_of_store s ≡ g → HasAll s start history p
    → Leaves (StandsForTree s.sectors (tree_after start history)) s.moments.state
