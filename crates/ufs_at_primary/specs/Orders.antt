-- What an order to move a file comes to at the primary.
use Rattle.std.specs.Prelude.{ℕ, ◌≡◌, ◌⊎◌, Bool, true, false, Option, Some, None, Result, Ok, Err}
use Rattle.std.specs.FinMap as fin
use Rattle.ufs_base.specs.declared.lack.Lack.TheVariants as lack
use Rattle.ufs_base.specs.declared.memory.Memory.{Memory}
use Rattle.ufs_held_names.specs.HeldNames.{AreCommitted}
use Rattle.ufs_home.specs.Home.{is_waited}
use Rattle.ufs_home.specs.Moves.{IfLack, IsMoved, IsOrdered, order_of}
use Rattle.ufs_home.specs.Places.{file_here}
use Rattle.ufs_home.specs.declared.moved.Moved.{Moved}
use Rattle.ufs_home.specs.declared.moved.Moved.TheVariants as moved
use Rattle.ufs_joint.specs.Cells.{FileCell}
use Rattle.ufs_owner.specs.Lacks.{IsLackOut}
use Rattle.ufs_owner.specs.Owners.{owner_at}
use Rattle.ufs_owner.specs.declared.owner.Owner.TheVariants as owner
use Rattle.ufs_store.specs.Refusals.{fault_of, is_no_space}
use Rattle.ufs_at_primary.specs.Stock.{StockState}
use Rattle.ufs_at_primary.specs.declared.ordered.Ordered.{Ordered}
use Rattle.ufs_at_primary.specs.declared.ordered.Ordered.TheVariants as ordered

-- The file is here, and knows its birth as committed: the names knew that, or were committed for it.
pub record IsReadied (visible : Bool) (s t : StockState) (file : ℕ) : Type 0 where
  pub was : FileCell
  pub here : file_here s.home.places file ≡ Some was
  pub names : (t.names ≡ s.names) ⊎ AreCommitted visible s.names t.names
  pub rest : t ≡ record s { names = t.names; home = record s.home { places = fin.insert s.home.places file (Some (record was { born = true })) } }

-- By the table, with the file readied where it goes from here.
pub record IsObeyed (visible : Bool) (s t : StockState) (file to : ℕ) (m : Moved) : Type 0 where
  pub ready : StockState
  pub readied : (ready ≡ s) ⊎ IsReadied visible s ready file
  pub answer : IsOrdered (order_of (owner_at s.home.owners file) (is_waited s.home.owners file) to) m
  pub moved : IsMoved ready.home t.home file to m
  pub lack : IfLack m (IsLackOut s.home.owners)
  pub rest : t ≡ record ready { home = t.home }

-- No such file is here, though the table has each file at the primary that it doesn't have elsewhere: nothing is done.
pub record IsNoFile (s t : StockState) (file : ℕ) (m : Moved) : Type 0 where
  pub at_primary : owner_at s.home.owners file ≡ owner.Primary
  pub none : file_here s.home.places file ≡ None
  pub nothing : m ≡ moved.Nothing
  pub rest : t ≡ s

-- There was no memory for that, or the store refused the commit.
abbrev pub IsUnready : Ordered → Type 0
IsUnready (ordered.Moved m) = (wanting : Memory) × (m ≡ moved.Lack (lack.Memory wanting))
IsUnready (ordered.Dropped fault) = is_no_space fault ≡ false

-- It is obeyed, or there is no such file; or its birth couldn't be committed, and all is as it was.
abbrev pub IsFileOrdered : Bool → StockState → StockState → ℕ → ℕ → Ordered → Type 0
IsFileOrdered visible s t file to (ordered.Moved m) = IsObeyed visible s t file to m ⊎ IsNoFile s t file m
IsFileOrdered visible s t file to (ordered.Dropped fault) = (is_no_space fault ≡ false) × (t ≡ s)

-- the fault of the device by which the birth couldn't be committed
abbrev pub dropped_by : Ordered → Option ℕ
dropped_by (ordered.Moved m) = None
dropped_by (ordered.Dropped fault) = fault_of fault

abbrev pub unready_by : {A : Type 0} → Result A Ordered → Option ℕ
unready_by (Ok x) = None
unready_by (Err o) = dropped_by o
