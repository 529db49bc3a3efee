-- What a request of the names keeps of a server on a disk.
use Rattle.std.specs.Prelude.{◌≡◌, List, [], ◌∷◌, ◌++◌, false}
use Rattle.ufs_bitmap.specs.Blocks.{BlockSet}
use Rattle.ufs_layout.specs.declared.geometry.Geometry.{Geometry}
use Rattle.ufs_model.specs.History.{IsLegal, tree_after}
use Rattle.ufs_model.specs.PosixTree.{PosixTree}
use Rattle.ufs_model.specs.declared.data.Entry.{Entry}
use Rattle.ufs_crash_laws.specs.Changes.{asks_commit}
use Rattle.ufs_store.specs.State.{StoreState, geometry_of_store}
use Rattle.ufs_promise_laws.specs.OnDisk.{IsOnDisk}
use Rattle.ufs_promise_laws.specs.Parts.{Parts}
use Rattle.ufs_promise_laws.specs.Sound.{IsSoundServer}
use Rattle.ufs_promise_laws.specs.Stored.{ArePartsOf}
use Rattle.ufs_promise_laws.specs.Requests.{IsNamesRequest}

-- The parts are those of the next tree,
abbrev pub RequestsGoOn : Type 0
RequestsGoOn = (t u : PosixTree) (p next : Parts) (lent left : BlockSet) → IsNamesRequest t u p next lent left → ArePartsOf next u

-- sound,
abbrev pub RequestsAreSound : Type 0
RequestsAreSound = (g : Geometry) (unassigned : BlockSet) (t u : PosixTree) (p next : Parts) (lent left : BlockSet) → IsNamesRequest t u p next lent left → IsSoundServer g unassigned p → IsSoundServer g unassigned next

-- and on the disk behind the entry of the request.
abbrev pub RequestsAreOnDisk : Geometry → Type 0
RequestsAreOnDisk g = (s : StoreState) (start : PosixTree) (history : List Entry) (entry : Entry) (p next : Parts) (lent left : BlockSet) → geometry_of_store s ≡ g → IsLegal start (history ++ entry ∷ []) → asks_commit entry.op ≡ false
    → IsNamesRequest (tree_after start history) (tree_after start (history ++ entry ∷ [])) p next lent left → IsSoundServer g s.unassigned.free p → IsOnDisk s start history p → IsOnDisk s start (history ++ entry ∷ []) next
