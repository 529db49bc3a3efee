-- The state by what a read gives and what is covered.
use Rattle.std.proofs.Common.{◌≡◌, ◌⊎◌, inl, inr, ⊎_elim, ℕ, ◌+◌, ◌-◌, ◌*◌, ◌/◌, ◌≤◌, ◌<◌, List, [], ◌∷◌, ◌++◌, length, take, drop, sym, ◌∙◌, ap, arith, append_assoc, length-take-le, length-drop}
use Rattle.std.specs.Prelude.{if◌then◌else◌, nat_lt, ◌&&◌}
use Rattle.std.proofs.lemmas.Bool.{cases_lt, le-leb, lt-leb, lt-ltb, le-ltb}
use Rattle.std.proofs.lemmas.List.{append-nil, drop-drop, drop-take, take-take}
use Rattle.ufs_disk.specs.Disk.{State, pieces}
use Rattle.ufs_disk.specs.Moments.{Moments}
use Rattle.ufs_disk.specs.Bytes.{image_of}
use Rattle.ufs_disk.specs.Calls.{written}
use Rattle.ufs_disk.specs.Pending.{covered_by, covered_in, held_state}
use Rattle.ufs_disk.specs.declared.medium.Covered.{Covered}
use Rattle.ufs_disk.proofs.Flat.{below, within, above, length-pieces, pieces_at}
use Rattle.ufs_disk.proofs.Written.{given, written_below, written_within, written_above}

pub covered_push : (k : ℕ) (xs : List Covered) (x : Covered) → covered_in k (xs ++ x ∷ []) ≡ covered_in k xs ++ covered_by k x
covered_push k [] x = append-nil (covered_by k x)
covered_push k (y ∷ xs) x = ap (λ (l : List (List ℕ)). covered_by k y ++ l) (covered_push k xs x) ∙ sym (append_assoc (covered_by k y) (covered_in k xs) (covered_by k x))

-- in front of what a write covered, behind it, and in it
covered_below : (k : ℕ) (c : Covered) → k < c.sector → covered_by k c ≡ []
covered_below k c lt = ap
    (λ b. if b && nat_lt (k - c.sector) (length c.bytes.items / 512) then take 512 (drop (512 * (k - c.sector)) c.bytes.items) ∷ [] else [])
    (lt-leb c.sector k lt)

covered_above : (k : ℕ) (c : Covered) → c.sector ≤ k → length c.bytes.items / 512 ≤ k - c.sector → covered_by k c ≡ []
covered_above k c low high = λ i. if le-leb c.sector k low i && le-ltb (k - c.sector) (length c.bytes.items / 512) high i then take 512 (drop (512 * (k - c.sector)) c.bytes.items) ∷ [] else []

pub covered_outside : (k : ℕ) (c : Covered) → (k < c.sector) ⊎ (length c.bytes.items / 512 ≤ k - c.sector) → covered_by k c ≡ []
covered_outside k c out = elim (cases_lt k c.sector) [
  | inl lt ↦ covered_below k c lt
  | inr ge ↦ ⊎_elim (λ lt. covered_below k c lt) (λ high. covered_above k c (omega arith) high) out
]

pub covered_within : (k : ℕ) (c : Covered) → c.sector ≤ k → k - c.sector < length c.bytes.items / 512 → covered_by k c ≡ take 512 (drop (512 * (k - c.sector)) c.bytes.items) ∷ []
covered_within k c low high = λ i. if le-leb c.sector k low i && lt-ltb (k - c.sector) (length c.bytes.items / 512) high i then take 512 (drop (512 * (k - c.sector)) c.bytes.items) ∷ [] else []

-- one sector of a copy of some sectors
copied_sector : (now : List ℕ) (s i len : ℕ) → 512 * (i + 1) ≤ len → take 512 (drop (512 * i) (take len (drop (512 * s) now))) ≡ image_of now (s + i)
copied_sector now s i len fits =
    let split : len ≡ 512 * i + (len - 512 * i) = omega arith in
    let at : 512 * s + 512 * i ≡ 512 * (s + i) = omega arith in
    ap (λ n. take 512 (drop (512 * i) (take n (drop (512 * s) now)))) split
    ∙ ap (take 512) (drop-take (512 * i) (len - 512 * i) (drop (512 * s) now))
    ∙ take-take 512 (len - 512 * i) (drop (512 * i) (drop (512 * s) now)) (omega arith)
    ∙ ap (take 512) (drop-drop (512 * i) (512 * s) now ∙ ap (λ n. drop n now) at)

-- a write covers what stood in its sectors, and puts its own
module _ (now bytes : List ℕ) (covered : List Covered) (c : Covered) (n : ℕ) (m : Moments) (size : length bytes ≡ 512 * n)
    (fits : 512 * c.sector + length bytes ≤ length now) (was : c.bytes.items ≡ take (length bytes) (drop (512 * c.sector) now)) (held : held_state now covered ≡ m.state) where
  abbrev new : List ℕ
  new = take (512 * c.sector) now ++ (bytes ++ drop (512 * c.sector + length bytes) now)

  abbrev LeavesCell : ℕ → Type 0
  LeavesCell k = held_state new (covered ++ c ∷ []) k ≡ (written c.sector (pieces n bytes) m).state k

  front : length (take (512 * c.sector) now) ≡ 512 * c.sector
  front = length-take-le (512 * c.sector) now (omega arith)

  wide : length c.bytes.items ≡ 512 * n
  wide = ap length was ∙ length-take-le (length bytes) (drop (512 * c.sector) now) (omega (arith, length-drop (512 * c.sector) now)) ∙ size

  -- outside of the range
  held_outside : (k : ℕ) → (k < c.sector) ⊎ (length c.bytes.items / 512 ≤ k - c.sector) → image_of new k ≡ image_of now k
      → (written c.sector (pieces n bytes) m).state k ≡ m.state k → LeavesCell k
  held_outside k out same rest =
      let older : covered_in k (covered ++ c ∷ []) ≡ covered_in k covered =
      covered_push k covered c ∙ ap (λ (l : List (List ℕ)). covered_in k covered ++ l) (covered_outside k c out) ∙ append-nil (covered_in k covered) in
      let cell : held_state new (covered ++ c ∷ []) k ≡ held_state now covered k = λ i. record { older = older i; seen = same i } in
      cell ∙ ap (λ (st : State). st k) held ∙ sym rest

  -- in it
  held_within : (k : ℕ) → c.sector ≤ k → k < c.sector + n → LeavesCell k
  held_within k low high =
      let i = k - c.sector in
      let is : k ≡ c.sector + i = omega arith in
      let piece : List ℕ = take 512 (drop (512 * i) bytes) in
      let is_covered : covered_by k c ≡ image_of now k ∷ [] =
      covered_within k c low (omega (arith, wide)) ∙ ap (λ (b : List ℕ). take 512 (drop (512 * i) b) ∷ []) was
      ∙ ap (λ (b : List ℕ). b ∷ []) (copied_sector now c.sector i (length bytes) (omega arith) ∙ ap (image_of now) (sym is)) in
      let older : covered_in k (covered ++ c ∷ []) ≡ covered_in k covered ++ image_of now k ∷ [] =
      covered_push k covered c ∙ ap (λ (l : List (List ℕ)). covered_in k covered ++ l) is_covered in
      let new_seen : image_of new k ≡ piece = ap (image_of new) is ∙ within (take (512 * c.sector) now) bytes (drop (512 * c.sector + length bytes) now) c.sector i front (omega arith) in
      let cell : held_state new (covered ++ c ∷ []) k ≡ given piece (held_state now covered k) = λ j. record { older = older j; seen = new_seen j } in
      cell ∙ ap (λ (st : State). given piece (st k)) held
      ∙ sym (written_within (pieces n bytes) c.sector i k m is (omega (arith, length-pieces n bytes)) ∙ ap (λ (b : List ℕ). given b (m.state k)) (pieces_at n i bytes (omega arith)))

  held_at : (k : ℕ) → LeavesCell k
  held_at k = elim (cases_lt k c.sector) [
    | inl lt ↦ held_outside k (inl lt) (below now (bytes ++ drop (512 * c.sector + length bytes) now) c.sector k lt (omega arith)) (written_below (pieces n bytes) c.sector k m lt)
    | inr ge ↦ elim (cases_lt k (c.sector + n)) [
      | inl inside ↦ held_within k (omega arith) inside
      | inr behind ↦ held_outside k (inr (omega (arith, wide)))
          (above (take (512 * c.sector) now) bytes now (512 * c.sector + length bytes) k (omega (arith, front)) (omega arith))
          (written_above (pieces n bytes) c.sector k m (omega (arith, length-pieces n bytes)))
    ]
  ]

  pub held_written : held_state new (covered ++ c ∷ []) ≡ (written c.sector (pieces n bytes) m).state
  held_written = λ i k. held_at k i
