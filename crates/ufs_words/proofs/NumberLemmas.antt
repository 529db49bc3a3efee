-- How large numbers of few digits are.
use Rattle.std.proofs.Common.{◌≤◌, ◌<◌, ◌^◌, ℕ, arith, lit<}
use Rattle.std.proofs.Math.Nat.{pow-le-pow_right}

-- a number of fewer than 10 digits
pub ten_pow_le : (i : ℕ) → i < 10 → 10 ^ i ≤ 1000000000
ten_pow_le i h = pow-le-pow_right (lit< tt) {i = i} {j = 9} (omega arith)
