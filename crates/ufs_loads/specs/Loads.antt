-- The loads that are noted.
use Rattle.std.specs.Prelude.{ℕ, ◌≡◌, List, [], ◌∷◌, Some, refl}
use Rattle.std.specs.Coded.{Coded, code_by, coded×, coded_ℕ}
use Rattle.std.specs.FinMap as fin
use Rattle.std.specs.Ordering.{nat_cmp}
use Rattle.ufs_load.specs.Laws.{AreOfFiles}
use Rattle.ufs_load.specs.Plan.{IsOneOf, IsPlan}
use Rattle.ufs_load.specs.declared.moves.Move.{Move}
use Rattle.ufs_model.specs.declared.data.Load.{Load}
use Rattle.ufs_loads.specs.declared.noted.Noted.{Noted}

-- what was told last of each file
abbrev pub NotedLoads : Type 0
NotedLoads = fin.FinMap nat_cmp Noted

abbrev pub noted_code : Coded Noted
noted_code = code_by (ℕ × ℕ) (coded× coded_ℕ coded_ℕ) (λ n. (n.worker, n.count)) (λ p. record { worker = p.0; count = p.1 }) (λ _. refl)

abbrev pub entry_load : ℕ × Noted → Load
entry_load e = record { file = e.0; worker = e.1.worker; count = e.1.count }

-- a load takes the place of the one that was noted for its file
abbrev pub noted_one : NotedLoads → Load → NotedLoads
noted_one noted l = fin.insert noted l.file (record { worker = l.worker; count = l.count })

-- so do those of a report, one after another
abbrev pub noted_all : NotedLoads → List Load → NotedLoads
noted_all noted [] = noted
noted_all noted (l ∷ loads) = noted_all (noted_one noted l) loads

-- These loads are what is noted: each once, and no other, in some order.
pub record AreLoads (noted : NotedLoads) (loads : List Load) : Type 0 where
  pub once : AreOfFiles loads
  pub each : (file : ℕ) (n : Noted) → fin.get noted file ≡ Some n → IsOneOf loads (entry_load (file, n))
  pub only : (l : Load) → IsOneOf loads l → fin.get noted l.file ≡ Some (record { worker = l.worker; count = l.count })

-- The moves are a plan over what is noted.
pub record IsPlanOf (noted : NotedLoads) (workers limit : ℕ) (moves : List Move) : Type 0 where
  pub loads : List Load
  pub all : AreLoads noted loads
  pub plan : IsPlan loads workers limit moves
