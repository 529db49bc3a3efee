-- Lists of zeros.
use Rattle.std.proofs.Common.{ℕ, zero, suc, List, [], ◌∷◌, ◌++◌, replicate, refl}
use Rattle.ufs_disk.specs.Bytes.{AreZeros}

pub zeros_append : (xs ys : List ℕ) → AreZeros xs → AreZeros ys → AreZeros (xs ++ ys)
zeros_append [] ys front back k = back k
zeros_append (x ∷ xs) ys front back zero = front zero
zeros_append (x ∷ xs) ys front back (suc k) = zeros_append xs ys (λ i. front (suc i)) back k

pub zeros_replicate : (n : ℕ) → AreZeros (replicate n 0)
zeros_replicate zero k = refl
zeros_replicate (suc n) zero = refl
zeros_replicate (suc n) (suc k) = zeros_replicate n k
