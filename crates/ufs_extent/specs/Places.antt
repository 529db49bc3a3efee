-- Where a block of a list of runs stands.
use Rattle.std.specs.Prelude.{◌≡◌, ℕ, ◌+◌, ◌-◌, ◌<◌, ◌==◌, if◌then◌else◌, List, [], ◌∷◌, take, Some, slice_get, sum_by}
use Rattle.ufs_extent.specs.declared.Run.{Run}

-- how many blocks the runs have
abbrev pub block_count : List Run → ℕ
block_count rs = sum_by (λ r. r.length) rs

-- block n of the list is in this run, at this place of the runs, with so many blocks of the run before it
pub record IsPlace (rs : List Run) (n at : ℕ) (run : Run) (before : ℕ) : Type 0 where
  pub there : slice_get rs at ≡ Some run
  pub counted : block_count (take at rs) + before ≡ n
  pub inside : before < run.length

-- the first n blocks of a run, as no run or one
abbrev pub front_of : Run → ℕ → List Run
front_of r n = if n == 0 then [] else (record { start = r.start; length = n }) ∷ []

-- the run without its first n blocks
abbrev pub without_first : Run → ℕ → Run
without_first r n = record { start = r.start + n; length = r.length - n }
