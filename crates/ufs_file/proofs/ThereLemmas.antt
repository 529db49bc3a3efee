-- Which blocks are in memory, as a file grows, is cut and is read.
use Rattle.std.proofs.Common.{◌≡◌, ℕ, ◌+◌, ◌-◌, ◌≤◌, ◌<◌, ◌⊎◌, inl, inr, List, ◌++◌, Bool, true, false, Some, length, take, replicate, ◌∙◌, refl, arith}
use Rattle.std.specs.Prelude.{slice_get}
use Rattle.std.proofs.lemmas.Bool.{cases_lt}
use Rattle.std.proofs.lemmas.List.{get_or_append_left, get_or-append_right, get_or-replicate, get_or-take}
use Rattle.std.proofs.lemmas.Option.{get_or_from_slice_get}
use Rattle.ufs_file.specs.Content.{AreThere}
use Rattle.ufs_file.proofs.SpanLemmas.{mark_there}

pub there_take : (ms : List Bool) (n k : ℕ) → k < n → slice_get ms k ≡ Some true → slice_get (take n ms) k ≡ Some true
there_take ms n k less is = mark_there (take n ms) k (get_or-take n ms k false less ∙ get_or_from_slice_get ms k true false is)

-- a block that was in memory, or a new one
pub there_append : (ms : List Bool) (n k : ℕ) → k < length ms + n → (k < length ms → slice_get ms k ≡ Some true) → slice_get (ms ++ replicate n true) k ≡ Some true
there_append ms n k less old = by (cases_lt k (length ms))
  where
    by : (k < length ms) ⊎ (length ms ≤ k) → slice_get (ms ++ replicate n true) k ≡ Some true
    by (inl front) = mark_there (ms ++ replicate n true) k (get_or_append_left ms (replicate n true) false k front ∙ get_or_from_slice_get ms k true false (old front))
    by (inr past) = mark_there (ms ++ replicate n true) k
        (get_or-append_right ms (replicate n true) (length ms) k false refl past ∙ get_or-replicate n (k - length ms) true false (omega (arith, less, past)))

-- each block of a file that is wholly in memory
pub all_there : (n from end : ℕ) → end ≤ n → AreThere (replicate n true) from end
all_there n from end most place low less = mark_there (replicate n true) place (get_or-replicate n place true false (omega (arith, less, most)))
