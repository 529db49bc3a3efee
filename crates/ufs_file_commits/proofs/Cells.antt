-- What the cells of a file's blocks have behind the writes of its dirty ones.
use Rattle.std.proofs.Common.{◌≡◌, ℕ, zero, suc, ◌+◌, ◌-◌, ◌<◌, ◌≤◌, ◌⊎◌, inl, inr, List, [], ◌∷◌, ◌++◌, Bool, true, false, Some, Option, length, replicate, get_or, unwrap_or, ap, sym, refl, ◌∙◌, subst, arith, length-append}
use Rattle.std.specs.Prelude.{◌==◌, ◌*◌, drop, flat_map, nat_eq, if◌then◌else◌}
use Rattle.std.specs.List.{AllByRecursion, IsDistinct, range_with_len, slice_get}
use Rattle.std.proofs.lemmas.Bool.{cases_lt}
use Rattle.std.proofs.lemmas.Bool.Decides.{nat_tests}
use Rattle.std.proofs.lemmas.List.{length-replicate, length-take-le}
use Rattle.std.proofs.lemmas.Map.Keys.{apart_from_distinct}
use Rattle.ufs_disk.specs.Disk.{Cell, possible}
use Rattle.ufs_disk.proofs.Runs.{all_append}
use Rattle.ufs_extent.specs.Runs.{blocks_of}
use Rattle.ufs_file.specs.Content.{block_bytes}
use Rattle.ufs_file.specs.Hand.{FileState}
use Rattle.ufs_ledger.specs.Changes.{written}
use Rattle.ufs_ledger.specs.Ledger.{Ledger}
use Rattle.ufs_file_commits.specs.Writes.{BlockWrite, with_writes, write_at, write_of, writes_before, writes_of}
use Rattle.ufs_file_commits.proofs.Behind.{writes_append}
use Rattle.ufs_file_commits.proofs.Places.{writes_behind, writes_split}

-- ---- places of a list

pub got : (xs : List ℕ) (i b : ℕ) → slice_get xs i ≡ Some b → (i < length xs) × (get_or xs i 0 ≡ b)
got [] i b e = let no = e in absurd cc
got (x ∷ xs) zero b e = (omega arith, (let h = e in cc))
got (x ∷ xs) (suc i) b e = let h = got xs i b e in (omega (arith, h.0), h.1)

pub got_back : {X : Type 0} (xs : List X) (d : X) (i : ℕ) → i < length xs → slice_get xs i ≡ Some (get_or xs i d)
got_back [] d i less = absurd (omega (arith, less))
got_back (x ∷ xs) d zero less = refl
got_back (x ∷ xs) d (suc i) less = got_back xs d i (omega (arith, less))

pub one_place : (xs : List ℕ) → IsDistinct nat_eq xs → (p q b : ℕ) → slice_get xs p ≡ Some b → slice_get xs q ≡ Some b → p ≡ q
one_place xs once p q b here there = by (cases_lt p q) (cases_lt q p)
  where
    same : get_or xs p 0 ≡ get_or xs q 0
    same = (got xs p b here).1 ∙ sym (got xs q b there).1

    by : (p < q) ⊎ (q ≤ p) → (q < p) ⊎ (p ≤ q) → p ≡ q
    by (inl less) more = let no = apart_from_distinct nat_eq xs p q 0 once less (got xs q b there).0 in absurd (grind (arith, nat_tests, no, same))
    by (inr least) (inl less) = let no = apart_from_distinct nat_eq xs q p 0 once less (got xs p b here).0 in absurd (grind (arith, nat_tests, no, same))
    by (inr least) (inr most) = omega (arith, least, most)

pub length_block : (bytes : List ℕ) (place : ℕ) → length (block_bytes bytes place) ≡ 4096
length_block bytes place =
    let xs = drop (4096 * place) bytes in
    length-take-le 4096 (xs ++ replicate (4096 - length xs) 0) (omega (arith, length-append xs (replicate (4096 - length xs) 0), length-replicate {A = ℕ} (4096 - length xs) 0))

-- ---- writes elsewhere

abbrev pub IsElsewhere : ℕ → BlockWrite → Type 0
IsElsewhere k w = (k == w.block) ≡ false

pub untouched : (ws : List BlockWrite) (l : Ledger) (k : ℕ) → AllByRecursion (IsElsewhere k) ws → (with_writes ws l).blocks k ≡ l.blocks k
untouched [] l k off = refl
untouched (w ∷ ws) l k off =
    untouched ws (written w.block w.bytes l) k off.1 ∙ ap (λ (b : Bool). if b then record { older = possible (l.blocks k); seen = w.bytes } else l.blocks k) off.0

module _ (f : FileState) (once : IsDistinct nat_eq (blocks_of f.extents)) (marks : length f.content.dirty ≡ length (blocks_of f.extents)) where
  -- the block that is written for a place
  block_is : (place k : ℕ) → slice_get (blocks_of f.extents) place ≡ Some k → (write_of f place).block ≡ k
  block_is place k at = ap (λ (o : Option ℕ). unwrap_or o 0) at

  off_at : (p k j : ℕ) → slice_get (blocks_of f.extents) p ≡ Some k → j < length (blocks_of f.extents) → (j ≡ p → ⊥) → AllByRecursion (IsElsewhere k) (write_at f j)
  off_at p k j at inside apart = by (unwrap_or (slice_get f.content.dirty j) false)
    where
      there : slice_get (blocks_of f.extents) j ≡ Some (get_or (blocks_of f.extents) j 0)
      there = got_back (blocks_of f.extents) 0 j inside

      off : (b : Bool) → (k == (write_of f j).block) ≡ b → (k == (write_of f j).block) ≡ false
      off false e = e
      off true e =
          let same : k ≡ (write_of f j).block = grind (arith, nat_tests, e) in
          let here : slice_get (blocks_of f.extents) j ≡ Some k = there ∙ ap Some (sym (block_is j (get_or (blocks_of f.extents) j 0) there) ∙ sym same) in
          absurd (apart (one_place (blocks_of f.extents) once j p k here at))

      by : (b : Bool) → AllByRecursion (IsElsewhere k) (if b then write_of f j ∷ [] else [])
      by true = (off (k == (write_of f j).block) refl, tt)
      by false = tt

  off_places : (p k from n : ℕ) → slice_get (blocks_of f.extents) p ≡ Some k → from + n ≤ length (blocks_of f.extents) → (p < from) ⊎ (from + n ≤ p) → AllByRecursion (IsElsewhere k) (flat_map (write_at f) (range_with_len from n))
  off_places p k from zero at inside apart = tt
  off_places p k from (suc n) at inside apart =
      all_append (IsElsewhere k) (write_at f from) (flat_map (write_at f) (range_with_len (from + 1) n))
      (off_at p k from at (omega (arith, inside)) (λ e. no e apart))
      (off_places p k (from + 1) n at (omega (arith, inside)) (next apart))
    where
      no : from ≡ p → (p < from) ⊎ (from + suc n ≤ p) → ⊥
      no e (inl low) = omega (arith, e, low)
      no e (inr high) = omega (arith, e, high)

      next : (p < from) ⊎ (from + suc n ≤ p) → (p < from + 1) ⊎ (from + 1 + n ≤ p)
      next (inl low) = inl (omega (arith, low))
      next (inr high) = inr (omega (arith, high))

  module _ (p k : ℕ) (at : slice_get (blocks_of f.extents) p ≡ Some k) (l : Ledger) where
    inside : p < length (blocks_of f.extents)
    inside = (got (blocks_of f.extents) p k at).0

    before : AllByRecursion (IsElsewhere k) (writes_before f p)
    before = off_places p k 0 p at (let low = inside in omega (arith, low)) (inr (omega arith))

    behind : AllByRecursion (IsElsewhere k) (writes_behind f p (length f.content.dirty))
    behind = off_places p k (p + 1) (length f.content.dirty - (p + 1)) at (let low = inside in omega (arith, low, marks)) (inl (omega arith))

    parts : with_writes (writes_of f) l ≡ with_writes (writes_behind f p (length f.content.dirty)) (with_writes (write_at f p) (with_writes (writes_before f p) l))
    parts =
        ap (λ ws. with_writes ws l) (writes_split f p (length f.content.dirty) (let low = inside in omega (arith, low, marks)))
        ∙ writes_append (writes_before f p) (write_at f p ++ writes_behind f p (length f.content.dirty)) l
        ∙ writes_append (write_at f p) (writes_behind f p (length f.content.dirty)) (with_writes (writes_before f p) l)

    middle : (with_writes (writes_of f) l).blocks k ≡ (with_writes (write_at f p) (with_writes (writes_before f p) l)).blocks k
    middle = ap (λ (m : Ledger). m.blocks k) parts ∙ untouched (writes_behind f p (length f.content.dirty)) (with_writes (write_at f p) (with_writes (writes_before f p) l)) k behind

    -- no block that isn't dirty is written: it is as before
    pub clean_elsewhere : slice_get f.content.dirty p ≡ Some false → AllByRecursion (IsElsewhere k) (writes_of f)
    clean_elsewhere is =
        subst (AllByRecursion (IsElsewhere k)) (sym (writes_split f p (length f.content.dirty) (let low = inside in omega (arith, low, marks))))
        (all_append (IsElsewhere k) (writes_before f p) (write_at f p ++ writes_behind f p (length f.content.dirty)) before (all_append (IsElsewhere k) (write_at f p) (writes_behind f p (length f.content.dirty)) none behind))
      where
        none : AllByRecursion (IsElsewhere k) (write_at f p)
        none = subst (λ (o : Option Bool). AllByRecursion (IsElsewhere k) (if unwrap_or o false then write_of f p ∷ [] else [])) (sym is) tt

    pub clean_cell : slice_get f.content.dirty p ≡ Some false → (with_writes (writes_of f) l).blocks k ≡ l.blocks k
    clean_cell is = untouched (writes_of f) l k (clean_elsewhere is)

    -- a dirty one reads as what was written
    pub dirty_cell : slice_get f.content.dirty p ≡ Some true → ((with_writes (writes_of f) l).blocks k).seen ≡ block_bytes f.content.bytes p
    dirty_cell is =
        let self : (k == (write_of f p).block) ≡ true = (let same = block_is p k at in grind (arith, nat_tests, same)) in
        ap (λ (c : Cell). c.seen) (middle ∙ ap (λ (o : Option Bool). (with_writes (if unwrap_or o false then write_of f p ∷ [] else []) (with_writes (writes_before f p) l)).blocks k) is)
        ∙ ap (λ (b : Bool). (if b then record { older = possible ((with_writes (writes_before f p) l).blocks k); seen = block_bytes f.content.bytes p } else (with_writes (writes_before f p) l).blocks k).seen) self
