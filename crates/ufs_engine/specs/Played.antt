-- What is known of a script that was played over a mounted image, by the store as the session began and the disk as it was left.
use Rattle.std.specs.Prelude.{ℕ, ◌≡◌, Bool, IsTrue, true, List, [], OnOk, Result, length}
use Rattle.ufs_base.specs.Images.{Image}
use Rattle.ufs_brink.specs.Begins.{HasNothingOpen}
use Rattle.ufs_brink.specs.Numbers.{BeginsFrom, RaisesNumbers}
use Rattle.ufs_disk.specs.Moments.{Moments, reads}
use Rattle.ufs_joint.specs.Cells.{Start}
use Rattle.ufs_model.specs.History.{joined, tree_after}
use Rattle.ufs_model.specs.PosixTree.{PosixTree}
use Rattle.ufs_model.specs.declared.data.Entry.{Entry}
use Rattle.ufs_model.specs.declared.data.Op.{Op}
use Rattle.ufs_promise_laws.specs.Last.{StandsForTree}
use Rattle.ufs_recovery.specs.Recovered.{IsCleanDisk}
use Rattle.ufs_store.specs.State.{StoreState}
use Rattle.ufs_engine.specs.Plays.{AreFaultsOf, HasBytes, IsEndFault, IsStampedThroughout, served_end}
use Rattle.ufs_engine.specs.Served.{IsPlayedFrom}
use Rattle.ufs_told.specs.Throughout.{IsExplainedThroughout}
use Rattle.ufs_engine.specs.declared.playing.PlayFault.{PlayFault}

-- It was played over the store that was mounted, from a tree that may have been its image's: this was told, so it ended, and so the disk
-- was left.
pub record IsPlayedOn (k : Start) (keeps : Bool) (scripts : List (List Op)) (opened : StoreState) (told : List (List Entry)) (bytes : ℕ) (ended : Result (Unit {0}) PlayFault) (sectors faults : ℕ) (now : Moments) : Type 0 where
  pub start : PosixTree
  pub closed : HasNothingOpen start
  pub seen : k.is_visible ≡ true → start ≡ k.tree
  pub played : IsPlayedFrom start scripts told (served_end ended) (joined told)
  pub sized : HasBytes start (joined told) (served_end ended) bytes
  pub tells : AreFaultsOf opened.faults faults (joined told)
  pub closing : IsEndFault opened.faults faults (joined told) ended
  pub size : sectors ≡ opened.sectors
  -- over a visible disk, from the moment at which the image was mounted on
  pub throughout : k.is_visible ≡ true → IsExplainedThroughout keeps sectors start [] (joined told) opened.moments now
  pub stamped : k.is_visible ≡ true → IsTrue keeps → IsStampedThroughout keeps sectors start (joined told) opened.moments now
  pub clean : k.is_visible ≡ true → OnOk ended (IsCleanDisk sectors now.state)
  pub last : k.is_visible ≡ true → OnOk ended (StandsForTree sectors (tree_after start (joined told)) (reads now))
  pub numbers : k.is_visible ≡ true → OnOk ended ((before : Image) → BeginsFrom before opened → RaisesNumbers (length (joined told)) before (reads now))
