-- The blocks that a write touches are in memory where those that it cuts are, and those that it covers have been made.
use Rattle.std.proofs.Common.{◌≡◌, ℕ, ◌+◌, ◌-◌, ◌/◌, ◌≤◌, ◌<◌, ◌⊎◌, inl, inr, eqb, ltb, Bool, true, false, cond, Some, List, ◌++◌, length, min, replicate, refl, sym, ap, ◌∙◌, subst, arith, length-append}
use Rattle.std.specs.Prelude.{slice_get}
use Rattle.std.proofs.lemmas.Bool.{cases_lt, cond-false, ltb-false, ne_eqb}
use Rattle.std.proofs.lemmas.List.{length-replicate}
use Rattle.ufs_file.specs.Lists.{over}
use Rattle.ufs_file.specs.Content.{AreThere, Content, block_count, covered, grown, written_over}
use Rattle.ufs_file.specs.Hand.{HasForWrite, IsCutBy, end_within, lengthened, write_from}
use Rattle.ufs_file.proofs.CoverLemmas.{length-marked, marked_append, marked_kept, marked_there, marked_twice}
use Rattle.ufs_file.proofs.ThereLemmas.{there_append}

-- a block that a write cuts
pub cut_there : (c : Content) (at count : ℕ) → 0 < count → HasForWrite c at count → (place : ℕ) → min at (length c.bytes) / 4096 ≤ place → place < block_count (min (at + count) (length c.bytes))
    → IsCutBy (length c.bytes) at count place → slice_get c.there place ≡ Some true
cut_there c at count some needed place low less = needed place low (subst (λ (n : ℕ). place < n)
    (sym (cond-false (eqb count 0) (write_from (length c.bytes) at) (end_within (length c.bytes) at count) (ne_eqb count 0 (λ e. omega (arith, e, some))))) less)

-- a file that is long enough has the blocks
pub long_there : (c : Content) (size : ℕ) → length c.there ≡ block_count (length c.bytes) → block_count size ≤ length (lengthened c size).there
long_there c size count = by (ltb (length c.bytes) size) refl
  where
    by : (b : Bool) → ltb (length c.bytes) size ≡ b → block_count size ≤ length (cond {A = Content} b (grown c size) c).there
    by true e =
        omega (arith, length-append c.there (replicate {A = Bool} (block_count size - length c.there) true), length-replicate {A = Bool} (block_count size - length c.there) true)
    by false e = (let le = ltb-false (length c.bytes) size e in omega (arith, le, count))

-- Those in which bytes are written are made, as far as the file has them.
module _ (c : Content) (at count to : ℕ) (some : 0 < count) (counted : length c.there ≡ block_count (length c.bytes)) (to_is : to ≡ min (block_count (at + count)) (length c.there)) where
  inside : to ≤ length c.there
  inside = omega (arith, to_is)

  long : length (over c.there (at / 4096) (replicate (to - at / 4096) true)) ≡ length c.there
  long = length-marked c.there (at / 4096) to inside

  pub there_put : AreThere (lengthened (covered c (at / 4096) to) (at + count)).there (at / 4096) (block_count (at + count))
  there_put place low less = by (ltb (length c.bytes) (at + count)) refl
    where
      ms : List Bool
      ms = over c.there (at / 4096) (replicate (to - at / 4096) true)

      by : (b : Bool) → ltb (length c.bytes) (at + count) ≡ b → slice_get (cond {A = Content} b (grown (covered c (at / 4096) to) (at + count)) (covered c (at / 4096) to)).there place ≡ Some true
      by true e =
          there_append ms (block_count (at + count) - length ms) place (omega (arith, less))
          (λ front. marked_there c.there (at / 4096) to inside place low (omega (arith, front, less, to_is, long)))
      by false e =
          (let le = ltb-false (length c.bytes) (at + count) e in marked_there c.there (at / 4096) to inside place low (omega (arith, le, less, to_is, counted)))

  -- a write behind the end needs the block in which the file ends
  pub there_end : length c.bytes < at + count → HasForWrite c at count → AreThere (covered c (at / 4096) to).there (length c.bytes / 4096) (block_count (length c.bytes))
  there_end longer needed place low less = by (cases_lt place (at / 4096))
    where
      by : (place < at / 4096) ⊎ (at / 4096 ≤ place) → slice_get (over c.there (at / 4096) (replicate (to - at / 4096) true)) place ≡ Some true
      by (inl below) = marked_kept c.there (at / 4096) to inside place
          (cut_there c at count some needed place (omega (arith, low)) (omega (arith, less, longer)) (inl (omega (arith, below, less))))
      by (inr from) = marked_there c.there (at / 4096) to inside place from (omega (arith, less, longer, to_is, counted))

  -- what is made beforehand is made by the write too
  pub covered_put : (fresh : List ℕ) → count ≡ length fresh → written_over (lengthened (covered c (at / 4096) to) (at + length fresh)) at fresh ≡ written_over (lengthened c (at + length fresh)) at fresh
  covered_put fresh is = by (ltb (length c.bytes) (at + length fresh)) refl
    where
      from : ℕ
      from = at / 4096

      end : ℕ
      end = block_count (at + length fresh)

      most : to ≤ block_count (at + length fresh)
      most = omega (arith, to_is, is)

      by : (b : Bool) → ltb (length c.bytes) (at + length fresh) ≡ b
          → written_over (cond b (grown (covered c (at / 4096) to) (at + length fresh)) (covered c (at / 4096) to)) at fresh ≡ written_over (cond b (grown c (at + length fresh)) c) at fresh
      by true e =
          (let more : List Bool = replicate (end - length c.there) true in
          let enough : end ≤ length (c.there ++ more) = omega (arith, length-append c.there more, length-replicate {A = Bool} (end - length c.there) true) in
          ap (λ (l : List Bool). record (written_over (grown c (at + length fresh)) at fresh) { there = over l from (replicate (end - from) true) })
          (ap (λ (n : ℕ). over c.there from (replicate (to - from) true) ++ replicate (end - n) true) long ∙ sym (marked_append c.there more from to inside))
          ∙ ap (λ (l : List Bool). record (written_over (grown c (at + length fresh)) at fresh) { there = l }) (marked_twice (c.there ++ more) from to end most enough))
      by false e =
          (let le = ltb-false (length c.bytes) (at + length fresh) e in
          ap (λ (l : List Bool). record (written_over c at fresh) { there = l }) (marked_twice c.there from to end most (omega (arith, le, counted))))
