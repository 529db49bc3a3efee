-- What the primary serves with.
use Rattle.std.specs.Prelude.{ℕ, ◌≡◌, ◌≤◌, ◌^◌, IsSome, refl}
use Rattle.std.specs.Coded.{Coded, code_by, coded×, coded_ℕ}
use Rattle.std.specs.FinMap as fin
use Rattle.std.specs.FinSet as set
use Rattle.ufs_bitmap.specs.Blocks.{BlockSet}
use Rattle.ufs_joint.specs.FirstHand.{HasPoolAlone, pool_of}
use Rattle.ufs_home.specs.Home.{HomeState, home_code}
use Rattle.ufs_home.specs.Places.{file_here}
use Rattle.ufs_joint.specs.Cells.{NamesCell, Start, View}
use Rattle.ufs_joint.specs.Codes.{names_code}
use Rattle.ufs_layout.specs.Areas.{IsGeometry}
use Rattle.ufs_layout.specs.declared.geometry.Geometry.{Geometry}
use Rattle.ufs_owner.specs.Owners.{owner_at}
use Rattle.ufs_owner.specs.declared.owner.Owner.TheVariants as owner
use Rattle.ufs_serving.specs.Pools.{most_at_rest}

pub record StockState : Type 0 where
  pub names : NamesCell
  -- the files that are here, who has each other one, and letters that are kept
  pub home : HomeState
  pub pool : BlockSet

abbrev pub stock_of : NamesCell → HomeState → BlockSet → StockState
stock_of names home pool = record { names = names; home = home; pool = pool }

abbrev pub stock_code : Coded StockState
stock_code = code_by (NamesCell × (HomeState × BlockSet)) (coded× names_code (coded× home_code (set.code coded_ℕ))) (λ h. (h.names, (h.home, h.pool))) (λ p. stock_of p.0 p.1.0 p.1.1) (λ _. refl)

-- Each live file that the table has at the primary is here.
abbrev pub AreHere : NamesCell → HomeState → Type 0
AreHere names home = (file : ℕ) → IsSome (fin.get names.value.held file) → owner_at home.owners file ≡ owner.Primary → IsSome (file_here home.places file)

-- So few files were made before the session that each file that its requests make has a number.
abbrev pub HasNumbers : Start → Type 0
HasNumbers k = k.tree.next ≤ 2 ^ 30

-- Its hand has its pool, which is at rest; it has the session's form; and the files that are at it are here.
pub record AreHeld (k : Start) (geometry : Geometry) (names : NamesCell) (home : HomeState) (pool : BlockSet) (v : View) : Type 0 where
  pub formed : IsGeometry geometry
  pub its : geometry ≡ k.geometry
  pub numbers : HasNumbers k
  pub hand : HasPoolAlone (pool_of 0) pool v
  pub few : set.len pool ≤ most_at_rest
  pub here : AreHere names home
