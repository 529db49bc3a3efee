use Rattle.std.proofs.Common.{◌≡◌, ◌≢◌, ℕ, ◌+◌, ◌<◌, ◌≤◌, leb, true, false, Bool, cond, ap, sym, ◌∙◌, arith, ⊎_elim}
use Rattle.std.specs.Int.{bit_at, w8}
use Rattle.std.proofs.lemmas.Bool.Decides.{leb_tells}
use Rattle.std.proofs.lemmas.Nat.Bits.{bit_at_set_same, bit_at_set_other}
use Rattle.ufs_recovery.specs.Marks.{bit_of}
use Rattle.ufs_recovery.proofs.bitmap.used_byte.Goals as goal
use Rattle.ufs_recovery.proofs.bitmap.used_byte.Goals.{then-is_taken, else-is_taken}

-- the bit of this turn is as it is to be
this_bit : (c : goal.Joined-is_taken) → bit_at c.if-is_taken.byte c.loop-bit.bit ≡ bit_of c.args.taken.now (c.args.first + c.loop-bit.bit)
this_bit c =
    let b : ℕ = c.loop-bit.bit in
    elim c.if-is_taken.branch [
      | then-is_taken w ↦
          ap (λ (v : ℕ). bit_at v b) w.byte-is
          ∙ bit_at_set_same w8 c.loop-bit.byte b c.loop-bit-test.true
          ∙ ap (λ (t : Bool). cond t 1 0) (sym w.if-is_taken.true ∙ c.is_taken.ensures)
      | else-is_taken w ↦
          ap (λ (v : ℕ). bit_at v b) w.byte-is
          ∙ c.loop-bit.invariant.open_still b (omega arith)
          ∙ ap (λ (t : Bool). cond t 1 0) (sym w.if-is_taken.false ∙ c.is_taken.ensures)
    ]

-- the others are as they were
other_bits : (c : goal.Joined-is_taken) (i : ℕ) → i ≢ c.loop-bit.bit → bit_at c.if-is_taken.byte i ≡ bit_at c.loop-bit.byte i
other_bits c i ne =
    elim c.if-is_taken.branch [
      | then-is_taken w ↦ ap (λ (v : ℕ). bit_at v i) w.byte-is ∙ bit_at_set_other w8 c.loop-bit.byte c.loop-bit.bit c.loop-bit-test.true i ne
      | else-is_taken w ↦ ap (λ (v : ℕ). bit_at v i) w.byte-is
    ]

pub loop-bit-preserved : goal.loop-bit-preserved
loop-bit-preserved c =
    let b : ℕ = c.loop-bit.bit in
    record {
      done = λ i h.
          ⊎_elim
          (λ (e : (leb b i ≡ true) × (b ≤ i)).
          let same : i ≡ b = omega (arith, e.1, h) in
          ap (λ (k : ℕ). bit_at c.if-is_taken.byte k) same ∙ this_bit c ∙ ap (λ (k : ℕ). bit_of c.args.taken.now (c.args.first + k)) (sym same))
          (λ (e : (leb b i ≡ false) × (i < b)). other_bits c i (omega (arith, e.1)) ∙ c.loop-bit.invariant.done i e.1)
          (leb_tells b i);
      open_still = λ i h. other_bits c i (omega (arith, h)) ∙ c.loop-bit.invariant.open_still i (omega (arith, h));
    }
