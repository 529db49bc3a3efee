-- The keys of parts.
use Rattle.std.proofs.Common.{◌≡◌, ℕ, true, eqb, eq-eqb, eqb-true, refl}
use Rattle.ufs_hand_laws.specs.Parts.{only_one}

pub itself : (n : ℕ) → eqb n n ≡ true
itself n = eq-eqb n n refl

pub alike : (a b : ℕ) → eqb a b ≡ true → a ≡ b
alike a b e = eqb-true a b e

pub one_itself : (n : Unit {0}) → only_one n n ≡ true
one_itself n = refl

pub one_alike : (a b : Unit {0}) → only_one a b ≡ true → a ≡ b
one_alike a b e = refl
