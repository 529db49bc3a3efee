-- That each content of a mirror is 512 bytes.
use Rattle.std.specs.Prelude.{◌≡◌, ◌+◌, ◌-◌, ◌<◌, ◌^◌, ◌&&◌, ℕ, Bool, true, false, IsTrue, List, [], ◌∷◌, ◌++◌, if◌then◌else◌}
use Rattle.std.proofs.Common.{refl, ◌⊎◌, inl, inr, ⊎_elim, ap, subst, arith}
use Rattle.ufs_disk.specs.Props.{untrue}
use Rattle.std.proofs.lemmas.Bool.{lt-ltb, le-ltb}
use Rattle.ufs_base.specs.Images.{IsSector}
use Rattle.ufs_disk.specs.Disk.{Cell, IsAmong, IsWhole, possible}
use Rattle.ufs_disk.proofs.Images.{among_append}
use Rattle.ufs_disk.specs.Moments.{Moments}
use Rattle.ufs_mirror.specs.Pairs.{present, nothing, state_of, cell_of, joint}
use Rattle.ufs_mirror.specs.declared.legs.Picks.{Picks}
use Rattle.ufs_mirror.specs.declared.legs.Picks.TheVariants.{Either, First, Second}

pub below_all : {n : ℕ} → n < 2 ^ 32 - 1 → n < 2 ^ 32
below_all lt = omega arith

pub left_of : (a b : Bool) → IsTrue (a && b) → IsTrue a
left_of true b both = refl
left_of false b both = both

pub right_of : (a b : Bool) → IsTrue (a && b) → IsTrue b
right_of true b both = both
right_of false b both = absurd (untrue both)

among_left : (xs ys : List (List ℕ)) (bytes : List ℕ) → IsAmong xs bytes → IsAmong (xs ++ ys) bytes
among_left [] ys bytes among = absurd among
among_left (x ∷ xs) ys bytes (inl is) = inl is
among_left (x ∷ xs) ys bytes (inr rest) = inr (among_left xs ys bytes rest)

among_right : (xs ys : List (List ℕ)) (bytes : List ℕ) → IsAmong ys bytes → IsAmong (xs ++ ys) bytes
among_right [] ys bytes among = among
among_right (x ∷ xs) ys bytes among = inr (among_right xs ys bytes among)

among_either : (xs ys : List (List ℕ)) (bytes : List ℕ) → IsAmong (xs ++ ys) bytes → IsAmong xs bytes ⊎ IsAmong ys bytes
among_either [] ys bytes among = inr among
among_either (x ∷ xs) ys bytes (inl is) = inl (inl is)
among_either (x ∷ xs) ys bytes (inr rest) = ⊎_elim (λ left. inl (inr left)) (λ right. inr right) (among_either xs ys bytes rest)

-- what one of two has, both may have
pub joint_has : (one other : Cell) (bytes : List ℕ) → IsAmong (possible one) bytes ⊎ IsAmong (possible other) bytes → IsAmong (possible (joint one other)) bytes
joint_has one other bytes (inl among) = ⊎_elim
    (λ older. among_left (possible other ++ one.older) (one.seen ∷ []) bytes (among_right (possible other) one.older bytes older))
    (λ is. among_right (possible other ++ one.older) (one.seen ∷ []) bytes (inl is))
    (among_append one.older one.seen bytes among)
joint_has one other bytes (inr among) = among_left (possible other ++ one.older) (one.seen ∷ []) bytes (among_left (possible other) one.older bytes among)

pub has_joint : (one other : Cell) (bytes : List ℕ) → IsAmong (possible (joint one other)) bytes → IsAmong (possible one) bytes ⊎ IsAmong (possible other) bytes
has_joint one other bytes among = ⊎_elim
    (λ before. ⊎_elim (λ back. inr back) (λ older. inl (among_left one.older (one.seen ∷ []) bytes older)) (among_either (possible other) one.older bytes before))
    (λ is. inl (among_right one.older (one.seen ∷ []) bytes (inl is)))
    (among_append (possible other ++ one.older) one.seen bytes among)

pub whole_of : (size one other : ℕ) (first second : Moments) (picks : Picks) → one ≡ size + 1 → other ≡ size + 1
    → IsWhole one first.state → IsWhole other second.state
    → IsWhole size (state_of size (present (record { first = first; second = second; picks = picks })))
whole_of size one other first second picks one_is other_is one_whole other_whole = record {
  within = λ k lt bytes among. inside k lt bytes picks (subst (λ c. IsAmong (possible c) bytes) (ap (λ b. if b then cell_of picks (first.state k) (second.state k) else nothing) (lt-ltb k size lt)) among);
  beyond = λ k ge. ap (λ b. possible (if b then cell_of picks (first.state k) (second.state k) else nothing)) (le-ltb k size ge);
}
  where
    of_first : (k : ℕ) → k < size → (bytes : List ℕ) → IsAmong (possible (first.state k)) bytes → IsSector bytes
    of_first k lt bytes among = one_whole.within k (omega (arith, lt, one_is)) bytes among

    of_second : (k : ℕ) → k < size → (bytes : List ℕ) → IsAmong (possible (second.state k)) bytes → IsSector bytes
    of_second k lt bytes among = other_whole.within k (omega (arith, lt, other_is)) bytes among

    inside : (k : ℕ) → k < size → (bytes : List ℕ) → (p : Picks) → IsAmong (possible (cell_of p (first.state k) (second.state k))) bytes → IsSector bytes
    inside k lt bytes Either among = ⊎_elim (of_first k lt bytes) (of_second k lt bytes) (has_joint (first.state k) (second.state k) bytes among)
    inside k lt bytes First among = of_first k lt bytes among
    inside k lt bytes Second among = of_second k lt bytes among
