-- What a mirror may have in one sector, by what its legs may have there.
use Rattle.std.proofs.Common.{◌≡◌, ◌⊎◌, inl, inr, ⊎_elim, ◌≤◌, ◌<◌, ◌+◌, ◌-◌, ℕ, List, length, refl, sym, ◌∙◌, ap, subst, arith}
use Rattle.std.specs.Prelude.{if◌then◌else◌, nat_lt}
use Rattle.std.proofs.lemmas.Bool.{cases_eq, cases_lt, lt-ltb, le-ltb}
use Rattle.ufs_base.specs.Images.{Image}
use Rattle.ufs_disk.specs.Disk.{Cell, State, IsAmong, IsImage, IsMixedFrom, Leaves, possible, put, put_all, seen}
use Rattle.ufs_disk.proofs.Images.{put_all_above, put_all_below, put_all_within, put_other, put_same, seen_is_image}
use Rattle.ufs_mirror.specs.Pairs.{Pair, cell_of, nothing, state_of}
use Rattle.ufs_mirror.specs.Whole.{has_joint, joint_has}
use Rattle.ufs_mirror.specs.declared.legs.Picks.{Picks}
use Rattle.ufs_mirror.specs.declared.legs.Picks.TheVariants.{Either, First, Second}

-- the pieces give the sector this content, whatever stood there
abbrev pub Puts : ℕ → List (List ℕ) → ℕ → List ℕ → Type 0
Puts s ps k bytes = (image : Image) → bytes ≡ put_all s ps image k

-- with that content in one sector and what a read gives elsewhere
pub image_with : (state : State) (k : ℕ) (bytes : List ℕ) → IsAmong (possible (state k)) bytes → IsImage state (put k bytes (seen state))
image_with state k bytes among j = elim (cases_eq j k) [
  | inl is ↦ subst (IsAmong (possible (state j))) (sym (ap (put k bytes (seen state)) is ∙ put_same k bytes (seen state))) (subst (λ n. IsAmong (possible (state n)) bytes) (sym is) among)
  | inr ne ↦ subst (IsAmong (possible (state j))) (sym (put_other k j bytes (seen state) ne)) (seen_is_image state j)
]

-- whichever image they are put in, unless they leave the sector as it was
put_cases : (s k : ℕ) (ps : List (List ℕ)) (d : Image) → (put_all s ps d k ≡ d k) ⊎ ((e : Image) → put_all s ps d k ≡ put_all s ps e k)
put_cases s k ps d = elim (cases_lt k s) [
  | inl lt ↦ inl (put_all_below ps s k d lt)
  | inr ge ↦ elim (cases_lt k (s + length ps)) [
    | inl within ↦ inr (λ e. inside e (k - s) (omega arith) (omega arith))
    | inr above ↦ inl (put_all_above ps s k d (omega arith))
  ]
]
  where
    inside : (e : Image) (i : ℕ) → k ≡ s + i → i < length ps → put_all s ps d k ≡ put_all s ps e k
    inside e i is lt = ap (put_all s ps d) is ∙ put_all_within ps s i d lt ∙ sym (ap (put_all s ps e) is ∙ put_all_within ps s i e lt)

-- after a write
pub point_mixed : (s : ℕ) (ps : List (List ℕ)) (old new : State) → Leaves (IsMixedFrom s ps old) new
    → (k : ℕ) (bytes : List ℕ) → IsAmong (possible (new k)) bytes → IsAmong (possible (old k)) bytes ⊎ Puts s ps k bytes
point_mixed s ps old new leaves k bytes among =
    let from = leaves (put k bytes (seen new)) (image_with new k bytes among) in
    let here : put k bytes (seen new) k ≡ bytes = put_same k bytes (seen new) in
    elim (from.mixed k) [
      | inl is ↦ inl (subst (IsAmong (possible (old k))) (sym is ∙ here) (from.left k))
      | inr is ↦ elim (put_cases s k ps from.before) [
        | inl same ↦ inl (subst (IsAmong (possible (old k))) (sym same ∙ sym is ∙ here) (from.left k))
        | inr every ↦ inr (λ e. sym here ∙ is ∙ every e)
      ]
    ]

-- after a read or a barrier
pub point_left : (old new : State) → Leaves (IsImage old) new → (k : ℕ) (bytes : List ℕ) → IsAmong (possible (new k)) bytes → IsAmong (possible (old k)) bytes
point_left old new leaves k bytes among =
    subst (IsAmong (possible (old k))) (put_same k bytes (seen new)) (leaves (put k bytes (seen new)) (image_with new k bytes among) k)

-- each content from before, or put
pub mixed_points : (s : ℕ) (ps : List (List ℕ)) (old : State) (image : Image) → ((k : ℕ) → IsAmong (possible (old k)) (image k) ⊎ Puts s ps k (image k)) → IsMixedFrom s ps old image
mixed_points s ps old image each = record {
  before = before;
  left = λ k. left k (each k);
  mixed = λ k. mixed k (each k);
}
  where
    pick : (k : ℕ) → IsAmong (possible (old k)) (image k) ⊎ Puts s ps k (image k) → List ℕ
    pick k (inl among) = image k
    pick k (inr puts) = seen old k

    before : Image
    before k = pick k (each k)

    left : (k : ℕ) (c : IsAmong (possible (old k)) (image k) ⊎ Puts s ps k (image k)) → IsAmong (possible (old k)) (pick k c)
    left k (inl among) = among
    left k (inr puts) = seen_is_image old k

    mixed : (k : ℕ) (c : IsAmong (possible (old k)) (image k) ⊎ Puts s ps k (image k)) → (image k ≡ pick k c) ⊎ (image k ≡ put_all s ps before k)
    mixed k (inl among) = inl refl
    mixed k (inr puts) = inr (puts before)

-- whatever the legs that may be picked have, the mirror may have
module _ (Q : List ℕ → Type 0) where
  cell_each : (picks : Picks) (a b c d : Cell)
      → ((bytes : List ℕ) → IsAmong (possible c) bytes → IsAmong (possible a) bytes ⊎ Q bytes)
      → ((bytes : List ℕ) → IsAmong (possible d) bytes → IsAmong (possible b) bytes ⊎ Q bytes)
      → (bytes : List ℕ) → IsAmong (possible (cell_of picks c d)) bytes → IsAmong (possible (cell_of picks a b)) bytes ⊎ Q bytes
  cell_each Either a b c d first second bytes among = ⊎_elim
      (λ one. ⊎_elim (λ old. inl (joint_has a b bytes (inl old))) (λ put. inr put) (first bytes one))
      (λ other. ⊎_elim (λ old. inl (joint_has a b bytes (inr old))) (λ put. inr put) (second bytes other))
      (has_joint c d bytes among)
  cell_each First a b c d first second bytes among = first bytes among
  cell_each Second a b c d first second bytes among = second bytes among

in_if : (size k : ℕ) (cell : Cell) → k < size → (if nat_lt k size then cell else nothing) ≡ cell
in_if size k cell lt = ap (λ b. if b then cell else nothing) (lt-ltb k size lt)

out_if : (size k : ℕ) (cell : Cell) → size ≤ k → (if nat_lt k size then cell else nothing) ≡ nothing
out_if size k cell le = ap (λ b. if b then cell else nothing) (le-ltb k size le)

pub inside_is : (size : ℕ) (pair : Pair) (k : ℕ) → k < size → state_of size pair k ≡ cell_of pair.picks (pair.first k) (pair.second k)
inside_is size pair k lt = in_if size k _ lt

pub outside_is : (size : ℕ) (pair : Pair) (k : ℕ) → size ≤ k → state_of size pair k ≡ nothing
outside_is size pair k le = out_if size k _ le

-- sector by sector
pub state_each : (size : ℕ) (Q : ℕ → List ℕ → Type 0) (picks : Picks) (a b c d : State)
    → ((k : ℕ) → k < size → (bytes : List ℕ) → IsAmong (possible (c k)) bytes → IsAmong (possible (a k)) bytes ⊎ Q k bytes)
    → ((k : ℕ) → k < size → (bytes : List ℕ) → IsAmong (possible (d k)) bytes → IsAmong (possible (b k)) bytes ⊎ Q k bytes)
    → (k : ℕ) (bytes : List ℕ) → IsAmong (possible (state_of size (record { first = c; second = d; picks = picks }) k)) bytes
    → IsAmong (possible (state_of size (record { first = a; second = b; picks = picks }) k)) bytes ⊎ Q k bytes
state_each size Q picks a b c d first second k bytes among =
    let old : Pair = record { first = a; second = b; picks = picks } in
    let new : Pair = record { first = c; second = d; picks = picks } in
    elim (cases_lt k size) [
      | inl lt ↦ subst (λ cell. IsAmong (possible cell) bytes ⊎ Q k bytes) (sym (inside_is size old k lt))
          (cell_each (Q k) picks (a k) (b k) (c k) (d k) (first k lt) (second k lt) bytes
          (subst (λ cell. IsAmong (possible cell) bytes) (inside_is size new k lt) among))
      | inr ge ↦ inl (subst (λ cell. IsAmong (possible cell) bytes) (outside_is size new k (omega arith) ∙ sym (outside_is size old k (omega arith))) among)
    ]

-- a write of the data, of either leg or both
pub state_mixed : (size s : ℕ) (ps : List (List ℕ)) (picks : Picks) (a b c d : State) → Leaves (IsMixedFrom s ps a) c → Leaves (IsMixedFrom s ps b) d
    → Leaves (IsMixedFrom s ps (state_of size (record { first = a; second = b; picks = picks }))) (state_of size (record { first = c; second = d; picks = picks }))
state_mixed size s ps picks a b c d first second image left =
    mixed_points s ps (state_of size (record { first = a; second = b; picks = picks })) image
    (λ k. state_each size (Puts s ps) picks a b c d (λ j lt. point_mixed s ps a c first j) (λ j lt. point_mixed s ps b d second j) k (image k) (left k))

-- what leaves no more in the data
abbrev pub NoMore : ℕ → State → State → Type 0
NoMore size old new = (k : ℕ) → k < size → (bytes : List ℕ) → IsAmong (possible (new k)) bytes → IsAmong (possible (old k)) bytes

pub state_left : (size : ℕ) (picks : Picks) (a b c d : State) → NoMore size a c → NoMore size b d
    → Leaves (IsImage (state_of size (record { first = a; second = b; picks = picks }))) (state_of size (record { first = c; second = d; picks = picks }))
state_left size picks a b c d first second image left k =
    ⊎_elim (λ among. among) (λ none. absurd none)
    (state_each size (λ j bytes. ⊥) picks a b c d (λ j lt bytes among. inl (first j lt bytes among)) (λ j lt bytes among. inl (second j lt bytes among)) k (image k) (left k))

pub no_more_left : (size : ℕ) (old new : State) → Leaves (IsImage old) new → NoMore size old new
no_more_left size old new leaves k lt = point_left old new leaves k

-- a write leaves the sectors that it isn't about
pub point_outside : (s : ℕ) (ps : List (List ℕ)) (old new : State) (k : ℕ) → ((d : Image) → put_all s ps d k ≡ d k) → Leaves (IsMixedFrom s ps old) new
    → (bytes : List ℕ) → IsAmong (possible (new k)) bytes → IsAmong (possible (old k)) bytes
point_outside s ps old new k stays leaves bytes among =
    let from = leaves (put k bytes (seen new)) (image_with new k bytes among) in
    let here : put k bytes (seen new) k ≡ bytes = put_same k bytes (seen new) in
    elim (from.mixed k) [
      | inl is ↦ subst (IsAmong (possible (old k))) (sym is ∙ here) (from.left k)
      | inr is ↦ subst (IsAmong (possible (old k))) (sym (stays from.before) ∙ sym is ∙ here) (from.left k)
    ]

-- a label's write leaves the data
pub no_more_label : (size : ℕ) (ps : List (List ℕ)) (old new : State) → Leaves (IsMixedFrom size ps old) new → NoMore size old new
no_more_label size ps old new leaves k lt = point_outside size ps old new k (λ d. put_all_below ps size k d lt) leaves

pub no_more_same : (size : ℕ) (state : State) → NoMore size state state
no_more_same size state k lt bytes among = among

-- of two legs that either may be picked, one alone
pub state_first : (size : ℕ) (old : State) (a b : State) → Leaves (IsImage old) (state_of size (record { first = a; second = b; picks = Either }))
    → Leaves (IsImage old) (state_of size (record { first = a; second = b; picks = First }))
state_first size old a b leaves image left = leaves image (λ k. at k (cases_lt k size))
  where
    at : (k : ℕ) → (k < size) ⊎ (size ≤ k) → IsAmong (possible (state_of size (record { first = a; second = b; picks = Either }) k)) (image k)
    at k (inl lt) = subst (λ cell. IsAmong (possible cell) (image k)) (sym (inside_is size (record { first = a; second = b; picks = Either }) k lt))
        (joint_has (a k) (b k) (image k) (inl (subst (λ cell. IsAmong (possible cell) (image k)) (inside_is size (record { first = a; second = b; picks = First }) k lt) (left k))))
    at k (inr ge) = subst (λ cell. IsAmong (possible cell) (image k))
        (outside_is size (record { first = a; second = b; picks = First }) k ge ∙ sym (outside_is size (record { first = a; second = b; picks = Either }) k ge)) (left k)

pub state_second : (size : ℕ) (old : State) (a b : State) → Leaves (IsImage old) (state_of size (record { first = a; second = b; picks = Either }))
    → Leaves (IsImage old) (state_of size (record { first = a; second = b; picks = Second }))
state_second size old a b leaves image left = leaves image (λ k. at k (cases_lt k size))
  where
    at : (k : ℕ) → (k < size) ⊎ (size ≤ k) → IsAmong (possible (state_of size (record { first = a; second = b; picks = Either }) k)) (image k)
    at k (inl lt) = subst (λ cell. IsAmong (possible cell) (image k)) (sym (inside_is size (record { first = a; second = b; picks = Either }) k lt))
        (joint_has (a k) (b k) (image k) (inr (subst (λ cell. IsAmong (possible cell) (image k)) (inside_is size (record { first = a; second = b; picks = Second }) k lt) (left k))))
    at k (inr ge) = subst (λ cell. IsAmong (possible cell) (image k))
        (outside_is size (record { first = a; second = b; picks = Second }) k ge ∙ sym (outside_is size (record { first = a; second = b; picks = Either }) k ge)) (left k)
