-- How the moments go on while two legs are joined.
use Rattle.std.proofs.Common.{◌≡◌, ◌⊎◌, inl, inr, ⊎_elim, ◌≤◌, ◌<◌, ℕ, Bool, List, refl, sym, ◌∙◌, subst, arith}
use Rattle.std.proofs.lemmas.Bool.{cases_lt}
use Rattle.ufs_base.specs.Images.{Image}
use Rattle.ufs_disk.specs.Disk.{Cell, State, IsAmong, IsImage, IsSettled, Leaves, possible, seen}
use Rattle.ufs_disk.proofs.Images.{seen_is_image}
use Rattle.ufs_mirror.specs.Joined.{FirstMaySay, SecondMaySay, IsCalm}
use Rattle.ufs_mirror.specs.Labels.{generation}
use Rattle.ufs_mirror.specs.Labelled.{IsLabelled, IsMoment, Says}
use Rattle.ufs_mirror.specs.Pairs.{Pair, Pairs, Runs, state_of}
use Rattle.ufs_mirror.specs.Whole.{has_joint}
use Rattle.ufs_mirror.specs.declared.legs.Picks.{Picks}
use Rattle.ufs_mirror.specs.declared.legs.Picks.TheVariants.{Either, First, Second}
use Rattle.ufs_mirror.proofs.Labels.{says_settled}
use Rattle.ufs_mirror.proofs.Lone.{either_labelled, either_not_first, either_not_second, first_labelled, first_not_either, first_not_second, second_labelled, second_not_either}
use Rattle.ufs_mirror.proofs.Points.{inside_is, outside_is}
use Rattle.ufs_mirror.proofs.Runs.{joined, weaker}
use Rattle.ufs_mirror.proofs.Views.{point_settled}

pub calm_on : (keeps : Bool) (size : ℕ) (P : Image → Type 0) (old mid new : Pairs)
    → Runs keeps (IsCalm size P) old mid → Runs keeps (IsCalm size (IsImage (state_of size mid.now))) mid new → Runs keeps (IsCalm size P) old new
calm_on keeps size P old mid new front back =
    joined keeps (IsCalm size P) old mid new front
    (weaker keeps (IsCalm size (IsImage (state_of size mid.now))) (IsCalm size P)
    (λ pair is. record { leaves = λ image left. front.after.leaves image (is.leaves image left); opens = is.opens }) mid new back)

-- while either may be picked, the labels may say any number up to the bound
pub first_may : (bound n : ℕ) (picks : Picks) → picks ≡ Either → n ≤ bound → FirstMaySay bound picks n
first_may bound n picks either le = record {
  either = λ _. le;
  first = λ is. absurd (either_not_first picks either is);
  second = λ is. absurd (either_not_second picks either is);
}

pub second_may : (bound n : ℕ) (picks : Picks) → picks ≡ Either → n ≤ bound → SecondMaySay bound picks n
second_may bound n picks either le = record {
  either = λ _. le;
  first = λ is. absurd (either_not_first picks either is);
  second = λ is. absurd (either_not_second picks either is);
}

-- a leg that alone may be picked may get a greater number
pub first_alone_may : (bound n : ℕ) (picks : Picks) → picks ≡ First → bound ≤ n → FirstMaySay bound picks n
first_alone_may bound n picks is le = record {
  either = λ e. absurd (first_not_either (sym is ∙ e));
  first = λ _. le;
  second = λ e. absurd (first_not_second (sym is ∙ e));
}

pub second_alone_may : (bound n : ℕ) (picks : Picks) → picks ≡ Second → bound ≤ n → SecondMaySay bound picks n
second_alone_may bound n picks is le = record {
  either = λ e. absurd (second_not_either (sym is ∙ e));
  first = λ e. absurd (first_not_second (sym e ∙ is));
  second = λ _. le;
}

-- what both legs have, one of them has
one_of : (size : ℕ) (a b : State) (k : ℕ) (bytes : List ℕ) → k < size → IsAmong (possible (state_of size (record { first = a; second = b; picks = Either }) k)) bytes
    → IsAmong (possible (a k)) bytes ⊎ IsAmong (possible (b k)) bytes
one_of size a b k bytes lt among =
    has_joint (a k) (b k) bytes (subst (λ (c : Cell). IsAmong (possible c) bytes) (inside_is size (record { first = a; second = b; picks = Either }) k lt) among)

past_same : (size : ℕ) (old new : Pair) (k : ℕ) (bytes : List ℕ) → size ≤ k → IsAmong (possible (state_of size old k)) bytes → IsAmong (possible (state_of size new k)) bytes
past_same size old new k bytes ge among = subst (λ (c : Cell). IsAmong (possible c) bytes) (outside_is size old k ge ∙ sym (outside_is size new k ge)) among

pub either_first_left : (size : ℕ) (a b : State) → IsSettled b → ((k : ℕ) → k < size → seen a k ≡ seen b k)
    → Leaves (IsImage (state_of size (record { first = a; second = b; picks = First }))) (state_of size (record { first = a; second = b; picks = Either }))
either_first_left size a b settled alike image left k = elim (cases_lt k size) [
  | inl lt ↦ subst (λ (c : Cell). IsAmong (possible c) (image k)) (sym (inside_is size (record { first = a; second = b; picks = First }) k lt))
      (⊎_elim (λ one. one) (λ other. subst (IsAmong (possible (a k))) (alike k lt ∙ sym (point_settled b settled k (image k) other)) (seen_is_image a k))
      (one_of size a b k (image k) lt (left k)))
  | inr ge ↦ past_same size (record { first = a; second = b; picks = Either }) (record { first = a; second = b; picks = First }) k (image k) ge (left k)
]

pub either_second_left : (size : ℕ) (a b : State) → IsSettled a → ((k : ℕ) → k < size → seen a k ≡ seen b k)
    → Leaves (IsImage (state_of size (record { first = a; second = b; picks = Second }))) (state_of size (record { first = a; second = b; picks = Either }))
either_second_left size a b settled alike image left k = elim (cases_lt k size) [
  | inl lt ↦ subst (λ (c : Cell). IsAmong (possible c) (image k)) (sym (inside_is size (record { first = a; second = b; picks = Second }) k lt))
      (⊎_elim (λ one. subst (IsAmong (possible (b k))) (sym (alike k lt) ∙ sym (point_settled a settled k (image k) one)) (seen_is_image b k)) (λ other. other)
      (one_of size a b k (image k) lt (left k)))
  | inr ge ↦ past_same size (record { first = a; second = b; picks = Either }) (record { first = a; second = b; picks = Second }) k (image k) ge (left k)
]

-- a settled label
pub says_exactly : (size n : ℕ) (P : ℕ → Type 0) (state : State) → IsSettled state → generation (seen state size) ≡ n → P n → Says size P state
says_exactly size n P state settled is holds = says_settled size P state settled (subst P (sym is) holds)

-- both labels say the same for good
pub both_say_first : (size n : ℕ) (pair : Pair) → pair.picks ≡ Either → IsSettled pair.first → IsSettled pair.second
    → generation (seen pair.first size) ≡ n → generation (seen pair.second size) ≡ n → IsLabelled size n pair
both_say_first size n pair either one other one_is other_is =
    either_labelled size n pair either
    (says_exactly size n (λ m. m ≤ n) pair.first one one_is (omega arith)) (says_exactly size n (λ m. m ≤ n) pair.second other other_is (omega arith))

pub both_say_second : (size n : ℕ) (pair : Pair) → pair.picks ≡ Either → IsSettled pair.second → IsSettled pair.first
    → generation (seen pair.second size) ≡ n → generation (seen pair.first size) ≡ n → IsLabelled size n pair
both_say_second size n pair either other one other_is one_is = both_say_first size n pair either one other one_is other_is

-- the first leg goes on alone with a greater label
pub first_goes_on : (size n m : ℕ) (a b : State) (picks : Picks) → picks ≡ First → n ≤ m → IsSettled a → generation (seen a size) ≡ m
    → IsLabelled size n (record { first = a; second = b; picks = picks }) → IsLabelled size m (record { first = a; second = b; picks = picks })
first_goes_on size n m a b picks is le settled says labelled =
    let begun = labelled.begun (λ e. first_not_either (sym is ∙ e)) in
    subst (λ p. IsLabelled size m (record { first = a; second = b; picks = p })) (sym is)
    (first_labelled size m a b (omega (arith, begun, le)) (says_exactly size m (λ k. m ≤ k) a settled says (omega arith))
    (λ bytes among. let below = labelled.second_left is bytes among in omega (arith, below, le)))

pub second_goes_on : (size n m : ℕ) (b a : State) (picks : Picks) → picks ≡ Second → n ≤ m → IsSettled b → generation (seen b size) ≡ m
    → IsLabelled size n (record { first = a; second = b; picks = picks }) → IsLabelled size m (record { first = a; second = b; picks = picks })
second_goes_on size n m b a picks is le settled says labelled =
    let begun = labelled.begun (λ e. second_not_either (sym is ∙ e)) in
    subst (λ p. IsLabelled size m (record { first = a; second = b; picks = p })) (sym is)
    (second_labelled size m a b (omega (arith, begun, le))
    (λ bytes among. let below = labelled.first_left is bytes among in omega (arith, below, le))
    (says_exactly size m (λ k. m ≤ k) b settled says (omega arith)))

-- once the second leg is like the first, either may be picked
pub first_told_either : (size n : ℕ) (P : Image → Type 0) (a b : State) (picks : Picks) → picks ≡ First
    → IsSettled a → IsSettled b → generation (seen a size) ≡ n → ((k : ℕ) → k < size → seen a k ≡ seen b k)
    → IsMoment size n P (record { first = a; second = b; picks = picks }) → IsMoment size n P (record { first = a; second = b; picks = Either })
first_told_either size n P a b picks is one other says alike moment = record {
  leaves = λ image left. moment.leaves image (subst (λ p. IsImage (state_of size (record { first = a; second = b; picks = p })) image) (sym is) (either_first_left size a b other alike image left));
  labelled = either_labelled size n (record { first = a; second = b; picks = Either }) refl (says_exactly size n (λ m. m ≤ n) a one says (omega arith)) (moment.labelled.second_left is);
}

pub second_told_either : (size n : ℕ) (P : Image → Type 0) (b a : State) (picks : Picks) → picks ≡ Second
    → IsSettled b → IsSettled a → generation (seen b size) ≡ n → ((k : ℕ) → k < size → seen a k ≡ seen b k)
    → IsMoment size n P (record { first = a; second = b; picks = picks }) → IsMoment size n P (record { first = a; second = b; picks = Either })
second_told_either size n P b a picks is other one says alike moment = record {
  leaves = λ image left. moment.leaves image (subst (λ p. IsImage (state_of size (record { first = a; second = b; picks = p })) image) (sym is) (either_second_left size a b one alike image left));
  labelled = either_labelled size n (record { first = a; second = b; picks = Either }) refl
      (λ bytes among. let below = moment.labelled.first_left is bytes among in omega (arith, below))
      (says_exactly size n (λ m. m ≤ n) b other says (omega arith));
}
