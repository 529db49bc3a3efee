-- What is known as committed may be forgotten: where nothing is known a disk is kept just where the server is on it.
use Rattle.std.specs.Prelude.{List}
use Rattle.ufs_model.specs.PosixTree.{PosixTree}
use Rattle.ufs_model.specs.declared.data.Entry.{Entry}
use Rattle.ufs_store.specs.State.{StoreState}
use Rattle.ufs_promise_laws.specs.OnDisk.{IsOnDisk}
use Rattle.ufs_promise_laws.specs.Parts.{Parts}
use Rattle.ufs_promise_laws.specs.Known.{IsDiskKept, IsMore, Known, nothing_known}

abbrev pub KeptIsOnDisk : Type 0
KeptIsOnDisk = (s : StoreState) (start : PosixTree) (history : List Entry) (p : Parts) (known : Known) → IsDiskKept s start history p known → IsOnDisk s start history p

abbrev pub OnDiskIsKept : Type 0
OnDiskIsKept = (s : StoreState) (start : PosixTree) (history : List Entry) (p : Parts) → IsOnDisk s start history p → IsDiskKept s start history p nothing_known

-- So may some of it.
abbrev pub LessIsKept : Type 0
LessIsKept = (s : StoreState) (start : PosixTree) (history : List Entry) (p : Parts) (less more : Known) → IsMore less more → IsDiskKept s start history p more → IsDiskKept s start history p less
