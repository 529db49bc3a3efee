-- What a mirror reads, by what its legs read.
use Rattle.std.proofs.Common.{◌≡◌, ◌⊎◌, inl, inr, ⊎_elim, ◌≤◌, ◌<◌, ◌+◌, ◌/◌, ℕ, Bool, true, false, List, [], ◌∷◌, ◌++◌, length, zero, suc, refl, sym, ◌∙◌, ap, subst, arith}
use Rattle.std.specs.Prelude.{if◌then◌else◌}
use Rattle.std.proofs.lemmas.Bool.{cases_lt, lt-ltb, le-ltb}
use Rattle.ufs_base.specs.Images.{Image}
use Rattle.ufs_disk.specs.Disk.{Cell, State, IsAmong, IsSettled, Mixes, bytes_from, possible, put, sectors_of, seen, overwritten}
use Rattle.ufs_disk.proofs.Images.{put_all_above, put_all_same, put_same}
use Rattle.ufs_disk.proofs.Flat.{length-pieces}
use Rattle.ufs_mirror.specs.Opens.{unlabelled}
use Rattle.ufs_mirror.specs.Pairs.{Pair, state_of, cell_of}
use Rattle.ufs_mirror.specs.declared.legs.Picks.{Picks}
use Rattle.ufs_mirror.specs.declared.legs.Picks.TheVariants.{Either, First, Second}
use Rattle.ufs_mirror.proofs.Points.{image_with, inside_is, outside_is}
use Rattle.ufs_mirror.specs.Whole.{has_joint}

pub fits_in : (size s : ℕ) (bytes : List ℕ) → s + length bytes / 512 ≤ size → s + length (sectors_of bytes) ≤ size
fits_in size s bytes le = subst (λ n. s + n ≤ size) (sym (length-pieces (length bytes / 512) bytes)) le

pub in_data : (size : ℕ) (image : Image) (k : ℕ) → k < size → unlabelled size image k ≡ image k
in_data size image k lt = ap (λ b. if b then image k else []) (lt-ltb k size lt)

pub past_data : (size : ℕ) (image : Image) (k : ℕ) → size ≤ k → unlabelled size image k ≡ []
past_data size image k le = ap (λ b. if b then image k else []) (le-ltb k size le)

-- which leg is read
abbrev pub shown : Picks → Image → Image → Image
shown Either first second = first
shown First first second = first
shown Second first second = second

seen_cell : (picks : Picks) (a b : State) (k : ℕ) → (cell_of picks (a k) (b k)).seen ≡ shown picks (seen a) (seen b) k
seen_cell Either a b k = refl
seen_cell First a b k = refl
seen_cell Second a b k = refl

pub seen_is : (size : ℕ) (pair : Pair) → seen (state_of size pair) ≡ unlabelled size (shown pair.picks (seen pair.first) (seen pair.second))
seen_is size pair = λ i k. at k i
  where
    at : (k : ℕ) → seen (state_of size pair) k ≡ unlabelled size (shown pair.picks (seen pair.first) (seen pair.second)) k
    at k = elim (cases_lt k size) [
      | inl lt ↦ ap (λ (c : Cell). c.seen) (inside_is size pair k lt) ∙ seen_cell pair.picks pair.first pair.second k ∙ sym (in_data size (shown pair.picks (seen pair.first) (seen pair.second)) k lt)
      | inr ge ↦ ap (λ (c : Cell). c.seen) (outside_is size pair k (omega arith)) ∙ sym (past_data size (shown pair.picks (seen pair.first) (seen pair.second)) k (omega arith))
    ]

-- the data alike
pub view_same : (size : ℕ) (one other : Image) → ((k : ℕ) → k < size → one k ≡ other k) → unlabelled size one ≡ unlabelled size other
view_same size one other same = λ i k. at k i
  where
    at : (k : ℕ) → unlabelled size one k ≡ unlabelled size other k
    at k = elim (cases_lt k size) [
      | inl lt ↦ in_data size one k lt ∙ same k lt ∙ sym (in_data size other k lt)
      | inr ge ↦ past_data size one k (omega arith) ∙ sym (past_data size other k (omega arith))
    ]

module _ (size s : ℕ) (bytes : List ℕ) (fits : s + length (sectors_of bytes) ≤ size) (old : Image) where
  over_in : (k : ℕ) → k < size → overwritten s bytes (unlabelled size old) k ≡ overwritten s bytes old k
  over_in k lt = put_all_same (sectors_of bytes) s k (unlabelled size old) old (in_data size old k lt)

  over_past : (k : ℕ) → size ≤ k → overwritten s bytes (unlabelled size old) k ≡ []
  over_past k ge = put_all_above (sectors_of bytes) s k (unlabelled size old) (omega (arith, fits, ge)) ∙ past_data size old k ge

  pub view_written : (new : Image) → ((k : ℕ) → k < size → new k ≡ overwritten s bytes old k) → unlabelled size new ≡ overwritten s bytes (unlabelled size old)
  view_written new is = λ i k. at k i
    where
      at : (k : ℕ) → unlabelled size new k ≡ overwritten s bytes (unlabelled size old) k
      at k = elim (cases_lt k size) [
        | inl lt ↦ in_data size new k lt ∙ is k lt ∙ sym (over_in k lt)
        | inr ge ↦ past_data size new k (omega arith) ∙ sym (over_past k (omega arith))
      ]

  pub view_mixed : (new : Image) → ((k : ℕ) → k < size → (new k ≡ old k) ⊎ (new k ≡ overwritten s bytes old k)) → Mixes (unlabelled size old) (overwritten s bytes (unlabelled size old)) (unlabelled size new)
  view_mixed new is k = elim (cases_lt k size) [
    | inl lt ↦ elim (is k lt) [
      | inl same ↦ inl (in_data size new k lt ∙ same ∙ sym (in_data size old k lt))
      | inr put ↦ inr (in_data size new k lt ∙ put ∙ sym (over_in k lt))
    ]
    | inr ge ↦ inl (past_data size new k (omega arith) ∙ sym (past_data size old k (omega arith)))
  ]

-- a read inside the data
pub view_read : (size : ℕ) (image : Image) (s n : ℕ) → s + n ≤ size → bytes_from image s n ≡ bytes_from (unlabelled size image) s n
view_read size image s zero fits = refl
view_read size image s (suc n) fits =
    let here : s < size = omega (arith, fits) in
    λ i. sym (in_data size image s here) i ++ view_read size image (s + 1) n (omega (arith, fits)) i

-- which leg may be picked
pub by_picks : {X : Type 0} (picks : Picks) → (picks ≡ Either → X) → (picks ≡ First → X) → (picks ≡ Second → X) → X
by_picks Either one two three = one refl
by_picks First one two three = two refl
by_picks Second one two three = three refl

pub mixes_of : (size s : ℕ) (bytes : List ℕ) (fits : s + length (sectors_of bytes) ≤ size) (old new : Pair) (one other : Image)
    → shown old.picks (seen old.first) (seen old.second) ≡ one → shown new.picks (seen new.first) (seen new.second) ≡ other
    → ((k : ℕ) → k < size → (other k ≡ one k) ⊎ (other k ≡ overwritten s bytes one k))
    → Mixes (seen (state_of size old)) (overwritten s bytes (seen (state_of size old))) (seen (state_of size new))
mixes_of size s bytes fits old new one other one_is other_is mixed =
    subst (λ d. Mixes d (overwritten s bytes d) (seen (state_of size new))) (sym (seen_is size old ∙ ap (unlabelled size) one_is))
    (subst (Mixes (unlabelled size one) (overwritten s bytes (unlabelled size one))) (sym (seen_is size new ∙ ap (unlabelled size) other_is)) (view_mixed size s bytes fits one other mixed))

pub written_of : (size s : ℕ) (bytes : List ℕ) (fits : s + length (sectors_of bytes) ≤ size) (old new : Pair) (one other : Image)
    → shown old.picks (seen old.first) (seen old.second) ≡ one → shown new.picks (seen new.first) (seen new.second) ≡ other
    → ((k : ℕ) → k < size → other k ≡ overwritten s bytes one k)
    → seen (state_of size new) ≡ overwritten s bytes (seen (state_of size old))
written_of size s bytes fits old new one other one_is other_is written =
    seen_is size new ∙ ap (unlabelled size) other_is ∙ view_written size s bytes fits one other written ∙ ap (overwritten s bytes) (sym (seen_is size old ∙ ap (unlabelled size) one_is))

pub same_of : (size : ℕ) (old new : Pair) (one other : Image)
    → shown old.picks (seen old.first) (seen old.second) ≡ one → shown new.picks (seen new.first) (seen new.second) ≡ other
    → ((k : ℕ) → k < size → other k ≡ one k) → seen (state_of size new) ≡ seen (state_of size old)
same_of size old new one other one_is other_is same =
    seen_is size new ∙ ap (unlabelled size) other_is ∙ view_same size other one same ∙ sym (seen_is size old ∙ ap (unlabelled size) one_is)

pub by_bool : {X : Type 0} (b : Bool) → (b ≡ true → X) → (b ≡ false → X) → X
by_bool true one other = one refl
by_bool false one other = other refl

pub over_same : (s : ℕ) (bytes : List ℕ) (k : ℕ) (one other : Image) → one k ≡ other k → overwritten s bytes one k ≡ overwritten s bytes other k
over_same s bytes k one other same = put_all_same (sectors_of bytes) s k one other same

pub point_settled : (state : State) → IsSettled state → (k : ℕ) (bytes : List ℕ) → IsAmong (possible (state k)) bytes → bytes ≡ seen state k
point_settled state settled k bytes among =
    sym (put_same k bytes (seen state)) ∙ ap (λ (d : Image). d k) (settled (put k bytes (seen state)) (image_with state k bytes among))

settled_points : (size : ℕ) (pair : Pair)
    → ((k : ℕ) → k < size → (bytes : List ℕ) → IsAmong (possible (cell_of pair.picks (pair.first k) (pair.second k))) bytes → bytes ≡ (cell_of pair.picks (pair.first k) (pair.second k)).seen)
    → IsSettled (state_of size pair)
settled_points size pair each image left = λ i k. at k i
  where
    at : (k : ℕ) → image k ≡ seen (state_of size pair) k
    at k = elim (cases_lt k size) [
      | inl lt ↦ each k lt (image k) (subst (λ c. IsAmong (possible c) (image k)) (inside_is size pair k lt) (left k)) ∙ sym (ap (λ (c : Cell). c.seen) (inside_is size pair k lt))
      | inr ge ↦ none k (subst (λ c. IsAmong (possible c) (image k)) (outside_is size pair k (omega arith)) (left k)) ∙ sym (ap (λ (c : Cell). c.seen) (outside_is size pair k (omega arith)))
    ]
      where
        none : (k : ℕ) → IsAmong ([] ∷ []) (image k) → image k ≡ []
        none k among = ⊎_elim (λ is. is) (λ no_. absurd no_) among

pub settled_first : (size : ℕ) (a b : State) (picks : Picks) → picks ≡ First → IsSettled a → IsSettled (state_of size (record { first = a; second = b; picks = picks }))
settled_first size a b picks is settled =
    subst (λ p. IsSettled (state_of size (record { first = a; second = b; picks = p }))) (sym is)
    (settled_points size (record { first = a; second = b; picks = First }) (λ k lt bytes among. point_settled a settled k bytes among))

pub settled_second : (size : ℕ) (a b : State) (picks : Picks) → picks ≡ Second → IsSettled b → IsSettled (state_of size (record { first = a; second = b; picks = picks }))
settled_second size a b picks is settled =
    subst (λ p. IsSettled (state_of size (record { first = a; second = b; picks = p }))) (sym is)
    (settled_points size (record { first = a; second = b; picks = Second }) (λ k lt bytes among. point_settled b settled k bytes among))

pub settled_either : (size : ℕ) (a b : State) (picks : Picks) → picks ≡ Either → IsSettled a → IsSettled b → ((k : ℕ) → k < size → seen a k ≡ seen b k)
    → IsSettled (state_of size (record { first = a; second = b; picks = picks }))
settled_either size a b picks is one other alike =
    subst (λ p. IsSettled (state_of size (record { first = a; second = b; picks = p }))) (sym is)
    (settled_points size (record { first = a; second = b; picks = Either }) (λ k lt bytes among. ⊎_elim
    (λ left. point_settled a one k bytes left)
    (λ right. point_settled b other k bytes right ∙ sym (alike k lt))
    (has_joint (a k) (b k) bytes among)))

pub read_of : (size : ℕ) (pair : Pair) (one : Image) (s n : ℕ) → (shown pair.picks (seen pair.first) (seen pair.second) ≡ one) → s + n ≤ size
    → bytes_from one s n ≡ bytes_from (seen (state_of size pair)) s n
read_of size pair one s n is fits =
    view_read size one s n fits ∙ ap (λ d. bytes_from d s n) (sym (seen_is size pair ∙ ap (unlabelled size) is))

pub read_alike : (size : ℕ) (one other : Image) (s n : ℕ) → ((k : ℕ) → k < size → one k ≡ other k) → s + n ≤ size → bytes_from one s n ≡ bytes_from other s n
read_alike size one other s zero same fits = refl
read_alike size one other s (suc n) same fits =
    let here : s < size = omega (arith, fits) in
    λ i. same s here i ++ read_alike size one other (s + 1) n same (omega (arith, fits)) i
