-- Runs of blocks, and the list of blocks that a list of runs stands for.
use Rattle.std.specs.Prelude.{ℕ, zero, suc, ◌+◌, ◌-◌, ◌≤◌, ◌==◌, nat_le, if◌then◌else◌, List, [], ◌∷◌, ◌++◌, fold, Option, None, Some}
use Rattle.ufs_base.specs.declared.sizes.TheConstants.{MAX_BLOCKS}
use Rattle.ufs_extent.specs.declared.Run.{Run}

-- a run has a block at least, and none at or above 65,536
abbrev pub IsRun : Run → Type 0
IsRun r = (1 ≤ r.length) × (r.start + r.length ≤ MAX_BLOCKS)

-- the block after the run's last
abbrev pub end_of : Run → ℕ
end_of r = r.start + r.length

-- so many blocks in a row, from the first on
abbrev pub blocks_from : ℕ → ℕ → List ℕ
blocks_from first zero = []
blocks_from first (suc n) = first ∷ blocks_from (first + 1) n

abbrev pub blocks_in : Run → List ℕ
blocks_in r = blocks_from r.start r.length

-- the blocks of the runs, in order
abbrev pub blocks_of : List Run → List ℕ
blocks_of [] = []
blocks_of (r ∷ rs) = blocks_in r ++ blocks_of rs

-- the block after the last one
abbrev pub next_block : List Run → Option ℕ
next_block [] = None
next_block (r ∷ []) = Some (end_of r)
next_block (r ∷ s ∷ rs) = next_block (s ∷ rs)

-- the runs with one more behind them, which is joined to the last one where it follows that
abbrev pub appended : List Run → Run → List Run
appended [] r = r ∷ []
appended (l ∷ []) r = if end_of l == r.start then (record { start = l.start; length = l.length + r.length }) ∷ [] else l ∷ r ∷ []
appended (l ∷ m ∷ rs) r = l ∷ appended (m ∷ rs) r

-- the runs with others behind them in turn
abbrev pub appended_all : List Run → List Run → List Run
appended_all rs xs = fold appended rs xs

-- the runs of the first n blocks
abbrev pub first_runs : List Run → ℕ → List Run
first_runs [] n = []
first_runs (r ∷ rs) n =
    if nat_le r.length n then r ∷ first_runs rs (n - r.length)
    else (if n == 0 then [] else (record { start = r.start; length = n }) ∷ [])

-- the runs of the blocks behind the first n
abbrev pub last_runs : List Run → ℕ → List Run
last_runs [] n = []
last_runs (r ∷ rs) n =
    if nat_le r.length n then last_runs rs (n - r.length)
    else (record { start = r.start + n; length = r.length - n }) ∷ rs
