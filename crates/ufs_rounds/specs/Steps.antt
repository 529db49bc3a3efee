-- What was done in a session, one step after the other.
use Rattle.std.specs.Prelude.{ℕ, suc, ◌+◌, ◌≡◌, ◌||◌, Bool, false, List, [], ◌∷◌, map, Option, None, Some}
use Rattle.ufs_primary.specs.OfAtPrimary.{IsFileOrdered}
use Rattle.ufs_primary.specs.OfAtPrimary.{Ordered}
use Rattle.ufs_base.specs.declared.lack.Lack.{Lack}
use Rattle.ufs_hand_laws.specs.Owned.{Has, one}
use Rattle.ufs_joint.specs.Cells.{Start}
use Rattle.ufs_model.specs.declared.data.Actor.{Actor}
use Rattle.ufs_rounds.specs.Moves.{first_lack, is_called, is_move, lack_in, order_lack}
use Rattle.ufs_rounds.specs.Turns.{GlobalState, IsTurnOf}
use Rattle.ufs_rounds.specs.declared.turned.Turned.{Turned}

-- an actor had its turn, and said this of it; or a file was called back to the primary, and this came of it
pub data Step : Type 0 where
  TurnOf : Actor → Turned → Step
  CallOf : ℕ → Ordered → Step

-- ---- what steps tell

abbrev pub who_in : Step → Option Actor
who_in (TurnOf who o) = Some who
who_in (CallOf file o) = None

-- The actor had a turn among these.
abbrev pub HadTurn : Actor → List Step → Type 0
HadTurn who steps = Has (Some who) (map who_in steps)

abbrev pub does_move : Step → Bool
does_move (TurnOf who o) = is_move o
does_move (CallOf file o) = false

-- in one of these turns somebody did something; in so many
abbrev pub some_moved : List Step → Bool
some_moved [] = false
some_moved (m ∷ ms) = does_move m || some_moved ms

abbrev pub moves_in : List Step → ℕ
moves_in [] = 0
moves_in (m ∷ ms) = one (does_move m) + moves_in ms

abbrev pub lack_of : Step → Option Lack
lack_of (TurnOf who o) = lack_in o
lack_of (CallOf file o) = order_lack o

-- the first one
abbrev pub lack_told : List Step → Option Lack
lack_told [] = None
lack_told (m ∷ ms) = first_lack (lack_of m) (lack_told ms)

-- how many files were found elsewhere, and called
abbrev pub calls_in : List Step → ℕ
calls_in [] = 0
calls_in (TurnOf who o ∷ ms) = calls_in ms
calls_in (CallOf file o ∷ ms) = one (is_called o) + calls_in ms

-- Each file was called, by rising number, from this one on.
abbrev pub AreCalls : ℕ → List Step → Type 0
AreCalls file [] = Unit {0}
AreCalls file (TurnOf who o ∷ ms) = ⊥
AreCalls file (CallOf n o ∷ ms) = (n ≡ file) × AreCalls (suc file) ms

-- ---- what they did

module _ {N : Type 0} (k : Start) where
  -- The file is to go to the primary. The store is as it was.
  pub record IsCallOf (file : ℕ) (s t : GlobalState N) (o : Ordered) : Type 0 where
    pub ordered : IsFileOrdered k.is_visible s.primary.stock t.primary.stock file 0 o
    pub rest : t ≡ record s { primary = record s.primary { stock = t.primary.stock } }

  abbrev pub IsStep : Step → GlobalState N → GlobalState N → Type 0
  IsStep (TurnOf who o) s t = IsTurnOf k who s t o
  IsStep (CallOf file o) s t = IsCallOf file s t o

  -- These steps lead from the first state to the other, each where it may be made.
  abbrev pub AreStepsWhere : (Step → GlobalState N → Type 0) → List Step → GlobalState N → GlobalState N → Type 0
  AreStepsWhere may [] s t = t ≡ s
  AreStepsWhere may (m ∷ ms) s t = (u : GlobalState N) × may m s × IsStep m s u × AreStepsWhere may ms u t

  -- each anywhere
  abbrev pub AreSteps : List Step → GlobalState N → GlobalState N → Type 0
  AreSteps ms s t = AreStepsWhere (λ m u. Unit {0}) ms s t
