-- What the session of the tests was opened with, over an image, and what is dealt of it.
use Rattle.std.specs.Prelude.{◌≡◌, ◌≤◌, ◌^◌, List, [], ◌∷◌, Some}
use Rattle.std.specs.FinSet as set
use Rattle.ufs_begin_hands.specs.Values.{values_first}
use Rattle.ufs_file_commits.specs.State.{DurableState}
use Rattle.ufs_joint.specs.FirstHand.{Beginning, start_first}
use Rattle.ufs_joint.specs.Ready.{IsReady}
use Rattle.ufs_gathered.specs.Gathered.{AreAllBack, AreHome, HasPoolsAlone}
use Rattle.ufs_joint.specs.Cells.{FileCell, NamesCell, Start, View}
use Rattle.ufs_joint.specs.Ends.{CanBegin}
use Rattle.ufs_names.specs.Notes.{with_notes}
use Rattle.ufs_noted.specs.Noted.{Noted}
use Rattle.ufs_store.specs.State.{StoreState}

-- It may begin so, with two clients and one worker, and these are its names and its files.
pub record IsMounted (b : Beginning) (k : Start) (s : StoreState) (names : Noted) (files : List DurableState) : Type 0 where
  pub start : k ≡ start_first b s
  pub ready : IsReady b s
  pub can : CanBegin (start_first b s)
  pub two : b.clients ≡ 2
  pub one : b.workers ≡ 1
  pub few : b.names.next ≤ 2 ^ 31
  pub names_are : names ≡ record { names = with_notes (Some []) b.names; fresh = []; dropped = set.empty }
  pub files_are : files ≡ values_first b.files

-- All of it is dealt: two clients that have asked nothing, a hand of pools alone, and no cell is elsewhere.
pub record IsDealt (k : Start) (names : NamesCell) (files : List FileCell) (pools : View) (clients : List View) : Type 0 where
  pub home : AreHome ([] ∷ [] ∷ []) clients
  pub alone : HasPoolsAlone pools
  pub back : AreAllBack k names files pools clients
