-- Bytes with zeros behind them.
use Rattle.std.specs.Prelude.{◌≡◌, ◌≤◌, ℕ, zero, suc, ◌+◌, ◌-◌, List, [], ◌∷◌, ◌++◌, length}
use Rattle.std.proofs.Common.{lit<, replicate, arith, length-append}
use Rattle.std.proofs.lemmas.List.{length-replicate}
use Rattle.ufs_base.specs.Images.{IsBytes}

-- up to so many
unfoldable pub padded : ℕ → List ℕ → List ℕ
padded count bytes = bytes ++ replicate (count - length bytes) 0

-- ---- how many there are, and that they are bytes

pub padded_length : (count : ℕ) (bytes : List ℕ) → length (padded count bytes) ≡ length bytes + (count - length bytes)
unfolding padded
padded_length count bytes = omega (arith, length-append bytes (replicate (count - length bytes) 0), length-replicate {A = ℕ} (count - length bytes) 0)

pub padded_sized : (count : ℕ) (bytes : List ℕ) → length bytes ≤ count → length (padded count bytes) ≡ count
padded_sized count bytes fits = omega (arith, padded_length count bytes)

zeros_small : (count : ℕ) → IsBytes (replicate count 0)
zeros_small zero k = lit< tt
zeros_small (suc count) zero = lit< tt
zeros_small (suc count) (suc k) = zeros_small count k

pub small_before : (bytes rest : List ℕ) → IsBytes bytes → IsBytes rest → IsBytes (bytes ++ rest)
small_before [] rest front back k = back k
small_before (b ∷ bytes) rest front back zero = front zero
small_before (b ∷ bytes) rest front back (suc k) = small_before bytes rest (λ i. front (suc i)) back k

pub padded_small : (count : ℕ) (bytes : List ℕ) → IsBytes bytes → IsBytes (padded count bytes)
unfolding padded
padded_small count bytes small = small_before bytes (replicate (count - length bytes) 0) small (zeros_small (count - length bytes))
