-- All that was dealt is back.
use Rattle.std.specs.Prelude.{ℕ, ◌≤◌, eqb, List, IsSome}
use Rattle.std.specs.FinMap as fin
use Rattle.ufs_gathered.specs.Gathered.{HasPoolsAlone, clients_in}
use Rattle.ufs_hand_laws.specs.Owned.{count}
use Rattle.ufs_primary.specs.OfHome.{HomeState}
use Rattle.ufs_primary.specs.OfHome.{file_here}
use Rattle.ufs_joint.specs.Cells.{NamesCell, Start, View}

-- Each client and each pool of the beginning is among these hands, and each file that the names know is in its place.
pub record AreBackHere (k : Start) (names : NamesCell) (home : HomeState) (pools : View) (clients : List View) : Type 0 where
  pub alone : HasPoolsAlone pools
  pub clients_back : (c : ℕ) → count eqb c k.view.clients ≤ count eqb c (clients_in clients)
  pub pools_back : (n : ℕ) → count eqb n k.view.pools ≤ count eqb n pools.pools
  pub files_here : (file : ℕ) → IsSome (fin.get names.value.held file) → IsSome (file_here home.places file)
