-- Which bytes a file may have of which not all blocks are in memory, and what a read of one tells.
use Rattle.std.proofs.Common.{◌≡◌, ℕ, ◌+◌, ◌-◌, ◌*◌, ◌/◌, ◌≤◌, ◌<◌, ◌⊎◌, inl, inr, true, false, Some, List, [], ◌∷◌, length, take, drop, get_or, min, refl, sym, ap, ◌∙◌, arith, subst}
use Rattle.std.specs.Prelude.{slice_get}
use Rattle.std.proofs.lemmas.Bool.{cases_lt}
use Rattle.std.proofs.lemmas.List.{ext_get_or, length-take}
use Rattle.std.proofs.lemmas.Option.{get_or_from_slice_get, slice_get_within}
use Rattle.ufs_model.specs.FileBytes.{resized}
use Rattle.ufs_file.specs.Lists.{over}
use Rattle.ufs_file.specs.Content.{AreThere, Content, IsContentOf, block_bytes, block_count, loaded}
use Rattle.ufs_file.proofs.ByteLemmas.{block_agrees, block_byte, byte_resized, length-resized, past_end}
use Rattle.ufs_file.proofs.FilledLemmas.{byte_there}
use Rattle.ufs_file.proofs.OverLemmas.{length-over}
use Rattle.ufs_file.proofs.SpanLemmas.{mark_there, over-before, over-inside, over-past}

-- the bytes that stand in memory may be the file's
pub content_itself : (c : Content) → IsContentOf c c.bytes
content_itself c = record { long = refl; same = λ place is. refl }

-- where all blocks are in memory, no others may
pub content_whole : (c : Content) (bytes : List ℕ) → AreThere c.there 0 (block_count (length c.bytes)) → IsContentOf c bytes → bytes ≡ c.bytes
content_whole c bytes all h = ext_get_or 0 bytes c.bytes h.long (λ k less. byte_there c bytes h k (all (k / 4096) (omega arith) (omega (arith, less, h.long))))

-- One block is read. The bytes that may be the file's then are those that might before, and that have in this block what was
-- read, up to the file's end.
module _ (c : Content) (place : ℕ) (block : List ℕ) (absent : slice_get c.there place ≡ Some false) (count : length c.there ≡ block_count (length c.bytes)) (whole : length block ≡ 4096) where
  read : List ℕ
  read = take (length c.bytes - 4096 * place) block

  under : place < block_count (length c.bytes)
  under = omega (arith, count, slice_get_within c.there place false absent)

  begins : 4096 * place < length c.bytes
  begins = (let low = under in omega (arith, low))

  read_length : length (take (length c.bytes - 4096 * place) block) ≡ min (length c.bytes - 4096 * place) 4096
  read_length = length-take (length c.bytes - 4096 * place) block ∙ ap (min (length c.bytes - 4096 * place)) whole

  fits : 4096 * place + length (take (length c.bytes - 4096 * place) block) ≤ length c.bytes
  fits = omega (arith, read_length, begins)

  long : length (loaded c place block).bytes ≡ length c.bytes
  long = length-over c.bytes (4096 * place) (take (length c.bytes - 4096 * place) block) fits

  marks_fit : place + length (true ∷ []) ≤ length c.there
  marks_fit = (let low = under in omega (arith, low, count))

  -- in the block
  read_is : block_bytes (loaded c place block).bytes place ≡ resized (take (length c.bytes - 4096 * place) block) 4096
  read_is = ext_get_or 0 (block_bytes new place) (resized rs 4096) (length-resized (drop (4096 * place) new) 4096 ∙ sym (length-resized rs 4096)) (λ i less.
      let low : i < 4096 = omega (arith, less, length-resized (drop (4096 * place) new) 4096) in
      block_byte new place i low ∙ each i low (cases_lt i (length rs)) ∙ sym (byte_resized rs 4096 i low))
    where
      rs : List ℕ
      rs = take (length c.bytes - 4096 * place) block

      new : List ℕ
      new = (loaded c place block).bytes

      each : (i : ℕ) → i < 4096 → (i < length (take (length c.bytes - 4096 * place) block)) ⊎ (length (take (length c.bytes - 4096 * place) block) ≤ i)
          → get_or (over c.bytes (4096 * place) (take (length c.bytes - 4096 * place) block)) (4096 * place + i) 0 ≡ get_or (take (length c.bytes - 4096 * place) block) i 0
      each i low (inl less) =
          let e : 4096 * place + i - 4096 * place ≡ i = omega arith in
          over-inside c.bytes (take (length c.bytes - 4096 * place) block) (4096 * place) (4096 * place + i) 0 fits (omega arith) (omega (arith, less))
          ∙ ap (λ j. get_or (take (length c.bytes - 4096 * place) block) j 0) e
      each i low (inr past) =
          past_end (over c.bytes (4096 * place) (take (length c.bytes - 4096 * place) block)) (4096 * place + i) 0 (omega (arith, past, read_length, low, long))
          ∙ sym (past_end (take (length c.bytes - 4096 * place) block) i 0 past)

  -- in the others
  others_stay : (p : ℕ) → (p ≡ place → ⊥) → block_bytes (loaded c place block).bytes p ≡ block_bytes c.bytes p
  others_stay p not = block_agrees (over c.bytes (4096 * place) (take (length c.bytes - 4096 * place) block)) c.bytes p (λ k low high. at k low high (cases_lt p place))
    where
      at : (k : ℕ) → 4096 * p ≤ k → k < 4096 * p + 4096 → (p < place) ⊎ (place ≤ p) → get_or (over c.bytes (4096 * place) (take (length c.bytes - 4096 * place) block)) k 0 ≡ get_or c.bytes k 0
      at k low high (inl less) = over-before c.bytes (take (length c.bytes - 4096 * place) block) (4096 * place) k 0 fits (omega (arith, less, high))
      at k low high (inr from) =
          let apart : place + 1 ≤ p = omega (arith, from, not) in
          over-past c.bytes (take (length c.bytes - 4096 * place) block) (4096 * place) k 0 fits (omega (arith, apart, read_length, low))

  marks_stay : (p : ℕ) → (p ≡ place → ⊥) → get_or (loaded c place block).there p false ≡ get_or c.there p false
  marks_stay p not = at (cases_lt p place)
    where
      at : (p < place) ⊎ (place ≤ p) → get_or (over c.there place (true ∷ [])) p false ≡ get_or c.there p false
      at (inl less) = over-before c.there (true ∷ []) place p false marks_fit less
      at (inr from) = over-past c.there (true ∷ []) place p false marks_fit (omega (arith, from, not))

  pub loaded_may : (bytes : List ℕ) → IsContentOf c bytes → block_bytes bytes place ≡ resized (take (length c.bytes - 4096 * place) block) 4096 → IsContentOf (loaded c place block) bytes
  loaded_may bytes h is = record {
    long = h.long ∙ sym long;
    same = λ p there. by p there (cases_lt p place) (cases_lt place p);
  }
    where
      other : (p : ℕ) → slice_get (loaded c place block).there p ≡ Some true → (p ≡ place → ⊥) → block_bytes bytes p ≡ block_bytes (loaded c place block).bytes p
      other p there not =
          h.same p (mark_there c.there p (sym (marks_stay p not) ∙ get_or_from_slice_get (loaded c place block).there p true false there)) ∙ sym (others_stay p not)

      by : (p : ℕ) → slice_get (loaded c place block).there p ≡ Some true → (p < place) ⊎ (place ≤ p) → (place < p) ⊎ (p ≤ place) → block_bytes bytes p ≡ block_bytes (loaded c place block).bytes p
      by p there (inl less) _ = other p there (λ e. omega (arith, e, less))
      by p there (inr from) (inl more) = other p there (λ e. omega (arith, e, more))
      by p there (inr from) (inr to) =
          let e : place ≡ p = omega (arith, from, to) in
          subst (λ (q : ℕ). block_bytes bytes q ≡ block_bytes (loaded c place block).bytes q) e (is ∙ sym read_is)

  pub loaded_might : (bytes : List ℕ) → IsContentOf (loaded c place block) bytes → IsContentOf c bytes
  loaded_might bytes h = record { long = h.long ∙ long; same = each }
    where
      each : (p : ℕ) → slice_get c.there p ≡ Some true → block_bytes bytes p ≡ block_bytes c.bytes p
      each p there =
          let not : p ≡ place → ⊥ = λ e. (let both : Some true ≡ Some false = sym there ∙ ap (slice_get c.there) e ∙ absent in cc) in
          h.same p (mark_there (loaded c place block).there p (marks_stay p not ∙ get_or_from_slice_get c.there p true false there)) ∙ others_stay p not

  pub loaded_block : (bytes : List ℕ) → IsContentOf (loaded c place block) bytes → block_bytes bytes place ≡ resized (take (length c.bytes - 4096 * place) block) 4096
  loaded_block bytes h =
      let e : 0 ≡ place - place = omega arith in
      h.same place (mark_there (loaded c place block).there place
      (over-inside c.there (true ∷ []) place place false marks_fit (omega arith) (omega arith) ∙ ap (λ (i : ℕ). get_or (true ∷ []) i false) (sym e)))
      ∙ read_is
