-- What a history of a server on its disk explains at most, which its caller allows.
use Rattle.std.specs.Prelude.{List}
use Rattle.ufs_base.specs.Images.{Image}
use Rattle.ufs_model.specs.PosixTree.{PosixTree}
use Rattle.ufs_model.specs.declared.data.Entry.{Entry}
use Rattle.ufs_store.specs.State.{StoreState}
use Rattle.ufs_promise_laws.specs.OnDisk.{HasNames, IsExplainedImage, IsOnDisk}
use Rattle.ufs_promise_laws.specs.Parts.{Parts}

-- Some history, for which the server is on its disk, explains no image but allowed ones.
pub record ExplainsAllowed (allows : Image → Type 0) (s : StoreState) (p : Parts) : Type 0 where
  pub start : PosixTree
  pub history : List Entry
  pub on_disk : IsOnDisk s start history p
  pub allowed : (image : Image) → IsExplainedImage s.sectors start history image → allows image

-- So does one of which all changes of names stand on the disk.
pub record ExplainsNamed (allows : Image → Type 0) (s : StoreState) (p : Parts) : Type 0 where
  pub start : PosixTree
  pub history : List Entry
  pub named : HasNames s start history p
  pub allowed : (image : Image) → IsExplainedImage s.sectors start history image → allows image
