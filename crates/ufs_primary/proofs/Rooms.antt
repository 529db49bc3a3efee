-- Room for what the primary keeps.
use Rattle.std.proofs.Common.{◌≡◌, ◌≤◌, ℕ, suc, List, [], ◌∷◌, length, refl, ap, sym, subst, arith}
use Rattle.ufs_msg.specs.declared.answer.Answer.{Answer}
use Rattle.ufs_at_primary.specs.OfServing.{all_said}
use Rattle.ufs_primary.specs.Primary.{HasRoom}

said_long : {N : Type 0} (xs : List (Answer N)) → length (all_said xs) ≡ length xs
said_long [] = refl
said_long (x ∷ xs) = ap suc (said_long xs)

-- as many answers are kept as there are clients
pub full_of_answers : {N : Type 0} (clients len room : ℕ) (xs : List (Answer N)) → len ≡ length xs → HasRoom clients len room → room ≤ len → clients ≤ length (all_said xs)
full_of_answers clients len room xs size has full = let e = said_long xs in let each = has.each in omega (arith, e, each, size, full)

pub full_of : {A : Type 0} (clients len room : ℕ) (xs : List A) → len ≡ length xs → HasRoom clients len room → room ≤ len → clients ≤ length xs
full_of clients len room xs size has full = let each = has.each in omega (arith, each, size, full)

-- nothing is kept yet
pub empty_room : {A : Type 0} (clients len room : ℕ) (xs : List A) → len ≡ length xs → xs ≡ [] → clients ≤ room → HasRoom clients len room
empty_room {A = A} clients len room xs size none each = record { within = (let e : length xs ≡ 0 = ap (λ (ys : List A). length ys) none in omega (arith, e, size)); each = each }

pub same_room : (clients old new len room : ℕ) → HasRoom clients old room → new ≡ room → len ≤ new → HasRoom clients len new
same_room clients old new len room has same fits = record { within = fits; each = subst (λ (n : ℕ). clients ≤ n) (sym same) has.each }
