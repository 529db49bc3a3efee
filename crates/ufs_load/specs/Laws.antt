-- What is proved of plans.
use Rattle.std.specs.Prelude.{◌≡◌, ◌<◌, ◌≤◌, ◌+◌, ◌*◌, ℕ, zero, suc, nat_eq, List, [], ◌∷◌, map}
use Rattle.std.specs.List.{IsDistinct}
use Rattle.ufs_model.specs.declared.data.Load.{Load}
use Rattle.ufs_load.specs.Plan.{load_of}

-- the loads are of distinct files
abbrev pub AreOfFiles : List Load → Type 0
AreOfFiles loads = IsDistinct nat_eq (map (λ (l : Load). l.file) loads)

-- the sum of the squares of the workers' loads
abbrev pub squares : (ℕ → ℕ) → ℕ → ℕ
squares load zero = 0
squares load (suc w) = squares load w + load (suc w) * load (suc w)

-- no worker has more
abbrev pub IsBound : List Load → ℕ → ℕ → Type 0
IsBound loads workers most = (w : ℕ) → 1 ≤ w → w ≤ workers → load_of loads w ≤ most
