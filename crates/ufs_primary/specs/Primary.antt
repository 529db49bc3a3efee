-- The primary: what it serves with, and what it keeps.
use Rattle.std.specs.Prelude.{ℕ, ◌≤◌, List, Option, refl}
use Rattle.std.specs.Coded.{Coded, code_by, coded×, coded_list, coded_option}
use Rattle.ufs_joint.specs.Cells.{FileCell}
use Rattle.ufs_joint.specs.Codes.{file_code}
use Rattle.ufs_at_primary.specs.OfServing.{Said, said_code}
use Rattle.ufs_at_primary.specs.Stock.{StockState, stock_code}
use Rattle.ufs_primary.specs.Waiting.{Waits, waits_code}

pub record PrimaryState : Type 0 where
  pub stock : StockState
  -- a file that came, and for which there was no room yet
  pub coming : Option FileCell
  -- answers that found their client's ring full; the first goes first
  pub answers : List Said
  -- requests that wait, the oldest first
  pub waiting : List Waits

abbrev pub primary_of : StockState → Option FileCell → List Said → List Waits → PrimaryState
primary_of stock coming answers waiting = record { stock = stock; coming = coming; answers = answers; waiting = waiting }

abbrev pub primary_code : Coded PrimaryState
primary_code = code_by (StockState × (Option FileCell × (List Said × List Waits))) (coded× stock_code (coded× (coded_option file_code) (coded× (coded_list said_code) (coded_list waits_code))))
    (λ s. (s.stock, (s.coming, (s.answers, s.waiting)))) (λ p. primary_of p.0 p.1.0 p.1.1.0 p.1.1.1) (λ _. refl)

-- So many are kept, and there is room for one of each client.
pub record HasRoom (clients kept room : ℕ) : Type 0 where
  pub within : kept ≤ room
  pub each : clients ≤ room
