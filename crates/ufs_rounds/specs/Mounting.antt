-- What a session over an image is opened with.
use Rattle.std.specs.Prelude.{ℕ, ◌≡◌, ◌≤◌, ◌^◌, List, [], Some}
use Rattle.std.specs.FinSet as set
use Rattle.ufs_begin_hands.specs.Values.{values_first}
use Rattle.ufs_file_commits.specs.State.{DurableState}
use Rattle.ufs_joint.specs.Cells.{Start}
use Rattle.ufs_joint.specs.Ends.{CanBegin}
use Rattle.ufs_joint.specs.FirstHand.{Beginning, start_first}
use Rattle.ufs_joint.specs.Ready.{IsReady}
use Rattle.ufs_names.specs.Notes.{with_notes}
use Rattle.ufs_primary.specs.OfNoted.{Noted}
use Rattle.ufs_store.specs.State.{StoreState}

-- It may begin so, with so many clients and workers, and these are its names and its files, in memory as they are committed.
pub record IsMounted (b : Beginning) (k : Start) (s : StoreState) (names : Noted) (files : List DurableState) (clients workers : ℕ) : Type 0 where
  pub start : k ≡ start_first b s
  pub ready : IsReady b s
  pub can : CanBegin (start_first b s)
  pub clients_are : b.clients ≡ clients
  pub workers_are : b.workers ≡ workers
  pub few : b.names.next ≤ 2 ^ 30
  pub names_are : names ≡ record { names = with_notes (Some []) b.names; fresh = []; dropped = set.empty }
  pub files_are : files ≡ values_first b.files
