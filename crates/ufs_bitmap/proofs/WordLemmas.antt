-- Words of 64 bits as the set of the blocks whose bit is 1.
use Rattle.std.proofs.Common.{◌≡◌, ◌≢◌, ℕ, zero, suc, ◌+◌, ◌*◌, ◌/◌, ◌%◌, ◌^◌, ◌<◌, ◌≤◌, eqb, leb, Bool, true, false, not, ◌&&◌, ◌||◌, cond, List, ◌∷◌, length, get_or, set as put, refl, sym, ap, ◌∙◌, arith, ⊎_elim, eq-eqb}
use Rattle.std.specs.Prelude.{filter, bit_or, bit_and, replicate}
use Rattle.std.specs.Int.{bit_at, bit_not, w64, trailing_zeros}
use Rattle.std.specs.Ordering.{nat_cmp}
use Rattle.std.specs.FinSet as set
use Rattle.std.proofs.lemmas.Bool.{true≢false, ne_eqb}
use Rattle.std.proofs.lemmas.Bool.Decides.{eqb_tells, leb_tells}
use Rattle.std.proofs.lemmas.Nat.Bits.{bit_at_set_same, bit_at_set_other, bit_at_clear_same, bit_at_clear_other, bit_at-zero, bit_at-trailing_zeros}
use Rattle.std.proofs.lemmas.List.{get_or-set_same, get_or-set_other, get_or_past, get_or-replicate}
use Rattle.std.proofs.lemmas.List.Sums.{length-filter, count_by-le-length}
use Rattle.ufs_extent.proofs.RunLemmas.{length-blocks_from}
use Rattle.ufs_extent.specs.Runs.{blocks_from}
use Rattle.ufs_bitmap.specs.Blocks.{BlockSet}
use Rattle.ufs_bitmap.specs.Words.{is_set, members_of, Members}
use Rattle.ufs_bitmap.proofs.SetLemmas.{same_blocks, has-insert, has-remove, has-empty, between, between_none, between_first, between_not, and-true, and-false, len-from_list, empty_from_none}

-- ---- a filtered stretch of blocks
abbrev picked : (ℕ → Bool) → List ℕ → BlockSet
picked p bs = set.from_list (filter p bs)

or_with : (x y z : Bool) → x ≡ y → (x || z) ≡ (y || z)
or_with x y z e = ap (λ (b : Bool). b || z) e

filter_more : (p : ℕ → Bool) (a : ℕ) (rest : List ℕ) (q : ℕ) (b : Bool) → p a ≡ b → set.contains (picked p (a ∷ rest)) q ≡ ((eqb q a && b) || set.contains (picked p rest) q)
filter_more p a rest q true e =
    ap (λ (b : Bool). set.contains (set.from_list {R = nat_cmp} (cond b (a ∷ filter p rest) (filter p rest))) q) e
    ∙ has-insert (picked p rest) a q
    ∙ or_with (eqb q a) (eqb q a && true) (set.contains (picked p rest) q) (and-true (eqb q a))
filter_more p a rest q false e =
    ap (λ (b : Bool). set.contains (set.from_list {R = nat_cmp} (cond b (a ∷ filter p rest) (filter p rest))) q) e
    ∙ or_with false (eqb q a && false) (set.contains (picked p rest) q) (and-false (eqb q a))

-- a test at a number equal to another is the test there
at_same : (p : ℕ → Bool) (a q : ℕ) → (eqb q a && p a) ≡ (eqb q a && p q)
at_same p a q = ⊎_elim same other (eqb_tells q a) where
  same : (eqb q a ≡ true) × (q ≡ a) → (eqb q a && p a) ≡ (eqb q a && p q)
  same h = ap (λ (n : ℕ). eqb q a && p n) (sym h.1)

  other : (eqb q a ≡ false) × (q ≢ a) → (eqb q a && p a) ≡ (eqb q a && p q)
  other h = ap (λ (b : Bool). b && p a) h.0 ∙ sym (ap (λ (b : Bool). b && p q) h.0)

gather : (x y z : Bool) → ((x && y) || (y && z)) ≡ (y && (x || z))
gather true true z = refl
gather true false z = refl
gather false true z = refl
gather false false z = refl

has-filter : (p : ℕ → Bool) (a n q : ℕ) → set.contains (picked p (blocks_from a n)) q ≡ (p q && between a (a + n) q)
has-filter p a zero q = has-empty q ∙ and-false (p q) ∙ ap (λ (b : Bool). p q && b) (between_none a q)
has-filter p a (suc n) q =
    filter_more p a (blocks_from (a + 1) n) q (p a) refl
    ∙ ap (λ (b : Bool). (eqb q a && p a) || b) (has-filter p (a + 1) n q)
    ∙ ap (λ (b : Bool). b || (p q && between (a + 1) (a + 1 + n) q)) (at_same p a q)
    ∙ gather (eqb q a) (p q) (between (a + 1) (a + 1 + n) q)
    ∙ ap (λ (b : Bool). p q && b) (between_first a n q)

-- ---- the set of words
pub past_end : (ws : List ℕ) (q : ℕ) → 64 * length ws ≤ q → is_set ws q ≡ false
past_end ws q h =
    let k : length ws ≤ q / 64 = omega arith in
    ap (λ (w : ℕ). eqb (bit_at w (q % 64)) 1) (get_or_past ws (q / 64) 0 k) ∙ ap (λ (b : ℕ). eqb b 1) (bit_at-zero (q % 64))

and_within : (x y : Bool) → (y ≡ false → x ≡ false) → (x && y) ≡ x
and_within true true h = refl
and_within true false h = sym (h refl)
and_within false y h = refl

pub has-members : (ws : List ℕ) (q : ℕ) → set.contains (members_of ws) q ≡ is_set ws q
unfolding members_of
has-members ws q =
    has-filter (is_set ws) 0 (64 * length ws) q
    ∙ and_within (is_set ws q) (between 0 (0 + 64 * length ws) q) (λ out. past_end ws q (between_not (64 * length ws) q out))

pub len-members : (ws : List ℕ) → set.len (members_of ws) ≤ 64 * length ws
unfolding members_of
len-members ws =
    omega (arith, len-from_list (filter (is_set ws) (blocks_from 0 (64 * length ws))), length-filter (is_set ws) (blocks_from 0 (64 * length ws)), count_by-le-length (is_set ws) (blocks_from 0 (64 * length ws)), length-blocks_from 0 (64 * length ws))

pub members-limit : (ws : List ℕ) (q : ℕ) → set.contains (members_of ws) q ≡ true → q < 64 * length ws
members-limit ws q h =
    ⊎_elim (λ (e : (leb (64 * length ws) q ≡ true) × (64 * length ws ≤ q)). absurd (true≢false (sym h ∙ has-members ws q ∙ past_end ws q e.1)))
    (λ (e : (leb (64 * length ws) q ≡ false) × (q < 64 * length ws)). e.1)
    (leb_tells (64 * length ws) q)

-- ---- one bit set, one bit cleared
module _ (ws : List ℕ) (b : ℕ) (inside : b < 64 * length ws) where
  here : b / 64 < length ws
  here = omega (arith, inside)

  abbrev word : ℕ
  word = get_or ws (b / 64) 0

  -- a change of the one word changes the bits of that word alone
  elsewhere : (v q : ℕ) → q / 64 ≢ b / 64 → is_set (put ws (b / 64) v) q ≡ is_set ws q
  elsewhere v q ne = ap (λ (w : ℕ). eqb (bit_at w (q % 64)) 1) (get_or-set_other ws (b / 64) (q / 64) v 0 ne)

  in_word : (v q : ℕ) → q / 64 ≡ b / 64 → is_set (put ws (b / 64) v) q ≡ eqb (bit_at v (q % 64)) 1
  in_word v q e =
      ap (λ (k : ℕ). eqb (bit_at (get_or (put ws (b / 64) v) k 0) (q % 64)) 1) e
      ∙ ap (λ (w : ℕ). eqb (bit_at w (q % 64)) 1) (get_or-set_same ws (b / 64) v 0 here)

  beside : (v q : ℕ) → q / 64 ≡ b / 64 → bit_at v (q % 64) ≡ bit_at word (q % 64) → is_set (put ws (b / 64) v) q ≡ is_set ws q
  beside v q e same =
      in_word v q e
      ∙ ap (λ (d : ℕ). eqb d 1) same
      ∙ ap (λ (k : ℕ). eqb (bit_at (get_or ws k 0) (q % 64)) 1) (sym e)

  at_it : (v q d : ℕ) → q ≡ b → bit_at v (b % 64) ≡ d → is_set (put ws (b / 64) v) q ≡ eqb d 1
  at_it v q d e bit =
      ap (λ (n : ℕ). is_set (put ws (b / 64) v) n) e ∙ in_word v b refl ∙ ap (λ (n : ℕ). eqb n 1) bit

  -- what holds for the bit itself, for the others of its word and for other words holds for each
  by_place : (v q : ℕ) (A : Type 0) → (q ≡ b → A) → (q ≢ b → q / 64 ≡ b / 64 → q % 64 ≢ b % 64 → A) → (q ≢ b → q / 64 ≢ b / 64 → A) → A
  by_place v q A itself near far =
      ⊎_elim (λ (e : (eqb q b ≡ true) × (q ≡ b)). itself e.1)
      (λ (n : (eqb q b ≡ false) × (q ≢ b)).
      ⊎_elim (λ (e : (eqb (q / 64) (b / 64) ≡ true) × (q / 64 ≡ b / 64)). near n.1 e.1 (λ m. n.1 (omega (arith, e.1, m))))
      (λ (e : (eqb (q / 64) (b / 64) ≡ false) × (q / 64 ≢ b / 64)). far n.1 e.1)
      (eqb_tells (q / 64) (b / 64)))
      (eqb_tells q b)

  abbrev pub with_bit : List ℕ
  with_bit = put ws (b / 64) (bit_or word (1 * 2 ^ (b % 64) % 2 ^ 64))

  abbrev pub without_bit : List ℕ
  without_bit = put ws (b / 64) (bit_and word (bit_not w64 (1 * 2 ^ (b % 64) % 2 ^ 64)))

  below : b % 64 < 64
  below = omega arith

  is_set-with_bit : (q : ℕ) → is_set with_bit q ≡ (eqb q b || is_set ws q)
  is_set-with_bit q =
      let v : ℕ = bit_or word (1 * 2 ^ (b % 64) % 2 ^ 64) in
      by_place v q (is_set with_bit q ≡ (eqb q b || is_set ws q))
      (λ e. at_it v q 1 e (bit_at_set_same w64 word (b % 64) below) ∙ sym (ap (λ (t : Bool). t || is_set ws q) (eq-eqb q b e)))
      (λ n e m. beside v q e (bit_at_set_other w64 word (b % 64) below (q % 64) m) ∙ sym (ap (λ (t : Bool). t || is_set ws q) (ne_eqb q b n)))
      (λ n e. elsewhere v q e ∙ sym (ap (λ (t : Bool). t || is_set ws q) (ne_eqb q b n)))

  is_set-without_bit : (q : ℕ) → is_set without_bit q ≡ (not (eqb q b) && is_set ws q)
  is_set-without_bit q =
      let v : ℕ = bit_and word (bit_not w64 (1 * 2 ^ (b % 64) % 2 ^ 64)) in
      let small : q % 64 < 64 = omega arith in
      by_place v q (is_set without_bit q ≡ (not (eqb q b) && is_set ws q))
      (λ e. at_it v q 0 e (bit_at_clear_same w64 word (b % 64) below) ∙ sym (ap (λ (t : Bool). not t && is_set ws q) (eq-eqb q b e)))
      (λ n e m. beside v q e (bit_at_clear_other w64 word (b % 64) below (q % 64) small m) ∙ sym (ap (λ (t : Bool). not t && is_set ws q) (ne_eqb q b n)))
      (λ n e. elsewhere v q e ∙ sym (ap (λ (t : Bool). not t && is_set ws q) (ne_eqb q b n)))

  pub members-with_bit : members_of with_bit ≡ set.insert (members_of ws) b
  members-with_bit = same_blocks _ _ (λ q.
      has-members with_bit q ∙ is_set-with_bit q ∙ ap (λ (t : Bool). eqb q b || t) (sym (has-members ws q)) ∙ sym (has-insert (members_of ws) b q))

  pub members-without_bit : members_of without_bit ≡ set.remove (members_of ws) b
  members-without_bit = same_blocks _ _ (λ q.
      has-members without_bit q ∙ is_set-without_bit q ∙ ap (λ (t : Bool). not (eqb q b) && t) (sym (has-members ws q)) ∙ sym (has-remove (members_of ws) b q))

-- ---- the lowest bit
no_bit : (ws : List ℕ) (q : ℕ) → get_or ws (q / 64) 0 ≡ 0 → is_set ws q ≡ false
no_bit ws q z = ap (λ (w : ℕ). eqb (bit_at w (q % 64)) 1) z ∙ ap (λ (d : ℕ). eqb d 1) (bit_at-zero (q % 64))

pub members-zeros : (ws : List ℕ) → ((i : ℕ) → i < length ws → get_or ws i 0 ≡ 0) → members_of ws ≡ set.empty
members-zeros ws zeros = empty_from_none _ (λ q.
    ⊎_elim (λ (e : (leb (length ws) (q / 64) ≡ true) × (length ws ≤ q / 64)). has-members ws q ∙ no_bit ws q (get_or_past ws (q / 64) 0 e.1))
    (λ (e : (leb (length ws) (q / 64) ≡ false) × (q / 64 < length ws)). has-members ws q ∙ no_bit ws q (zeros (q / 64) e.1))
    (leb_tells (length ws) (q / 64)))

module _ (ws : List ℕ) (low : ℕ) (fits : get_or ws low 0 < 2 ^ 64) (some : get_or ws low 0 ≢ 0) (zeros : (i : ℕ) → i < low → get_or ws i 0 ≡ 0) where
  abbrev pub lowest_bit : ℕ
  lowest_bit = 64 * low + trailing_zeros w64 (get_or ws low 0)

  bits_of : (trailing_zeros w64 (get_or ws low 0) < 64) × (bit_at (get_or ws low 0) (trailing_zeros w64 (get_or ws low 0)) ≡ 1) × ((i : ℕ) → i < trailing_zeros w64 (get_or ws low 0) → bit_at (get_or ws low 0) i ≡ 0)
  bits_of = bit_at-trailing_zeros w64 (get_or ws low 0) (omega (arith, some)) fits

  pub has-lowest_bit : set.contains (members_of ws) lowest_bit ≡ true
  has-lowest_bit =
      let small = bits_of.0 in
      let quotient : lowest_bit / 64 ≡ low = omega (arith, small) in
      let rest : lowest_bit % 64 ≡ trailing_zeros w64 (get_or ws low 0) = omega (arith, small) in
      has-members ws lowest_bit
      ∙ ap (λ (k : ℕ). eqb (bit_at (get_or ws k 0) (lowest_bit % 64)) 1) quotient
      ∙ ap (λ (k : ℕ). eqb (bit_at (get_or ws low 0) k) 1) rest
      ∙ ap (λ (d : ℕ). eqb d 1) bits_of.1

  pub none_below : (q : ℕ) → q < lowest_bit → set.contains (members_of ws) q ≡ false
  none_below q h =
      ⊎_elim
      (λ (e : (leb low (q / 64) ≡ true) × (low ≤ q / 64)).
      let small = bits_of.0 in
      let same : q / 64 ≡ low = omega (arith, e.1, h, small) in
      let less : q % 64 < trailing_zeros w64 (get_or ws low 0) = omega (arith, e.1, h, small) in
      has-members ws q
      ∙ ap (λ (k : ℕ). eqb (bit_at (get_or ws k 0) (q % 64)) 1) same
      ∙ ap (λ (d : ℕ). eqb d 1) (bits_of.2 (q % 64) less))
      (λ (e : (leb low (q / 64) ≡ false) × (q / 64 < low)). has-members ws q ∙ no_bit ws q (zeros (q / 64) e.1))
      (leb_tells low (q / 64))

pub zeros_below : (ws : List ℕ) (low high : ℕ) → ((i : ℕ) → i < low → get_or ws i 0 ≡ 0) → ((i : ℕ) → low ≤ i → i < high → get_or ws i 0 ≡ 0) → (i : ℕ) → i < high → get_or ws i 0 ≡ 0
zeros_below ws low high first then i h =
    ⊎_elim (λ (e : (leb low i ≡ true) × (low ≤ i)). then i e.1 h) (λ (e : (leb low i ≡ false) × (i < low)). first i e.1) (leb_tells low i)

pub same_members : (m n : ℕ) (s t : BlockSet) → m ≡ n → s ≡ t → (let a : Members = record { limit = m; blocks = s } in let b : Members = record { limit = n; blocks = t } in a ≡ b)
same_members m n s t e f = λ i. record { limit = e i; blocks = f i }

-- a block of the set lies in no word that is known to be 0
pub low_le : (ws : List ℕ) (low b : ℕ) → ((i : ℕ) → i < low → get_or ws i 0 ≡ 0) → set.contains (members_of ws) b ≡ true → low ≤ b / 64
low_le ws low b zeros there =
    ⊎_elim (λ (e : (leb low (b / 64) ≡ true) × (low ≤ b / 64)). e.1)
    (λ (e : (leb low (b / 64) ≡ false) × (b / 64 < low)). absurd (true≢false (sym there ∙ has-members ws b ∙ no_bit ws b (zeros (b / 64) e.1))))
    (leb_tells low (b / 64))

pub get_or-zeros : (n i : ℕ) → i < n → get_or (replicate {A = ℕ} n 0) i 0 ≡ 0
get_or-zeros n i h = get_or-replicate n i 0 0 h
