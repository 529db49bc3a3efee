-- What stands on a store's disk is the parts of the last tree.
use Rattle.std.proofs.Common.{List, inl, inr}
use Rattle.ufs_model.specs.History.{tree_after}
use Rattle.ufs_model.specs.PosixTree.{PosixTree}
use Rattle.ufs_model.specs.declared.data.Entry.{Entry}
use Rattle.ufs_store.specs.State.{StoreState}
use Rattle.ufs_promise_laws.specs.OnDisk.{IsOnDisk}
use Rattle.ufs_promise_laws.specs.Parts.{Parts}
use Rattle.ufs_promise_laws.specs.Stored.{ArePartsOf}

pub parts_on_disk : (s : StoreState) (start : PosixTree) (history : List Entry) (p : Parts) → IsOnDisk s start history p → ArePartsOf p (tree_after start history)
parts_on_disk s start history p (inl going) = going.stored.parts
parts_on_disk s start history p (inr stopped) = stopped.parts
