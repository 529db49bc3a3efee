-- The writes of a file's dirty blocks, place by place.
use Rattle.std.proofs.Common.{◌≡◌, ℕ, zero, suc, ◌+◌, ◌-◌, ◌≤◌, ◌<◌, List, [], ◌∷◌, ◌++◌, ap, sym, refl, ◌∙◌, arith, append_assoc}
use Rattle.std.specs.Prelude.{flat_map, length, Bool, true, false, Option, Some, None, if◌then◌else◌, unwrap_or}
use Rattle.std.specs.List.{range_with_len, slice_get}
use Rattle.std.proofs.lemmas.List.{append-nil}
use Rattle.std.proofs.lemmas.List.Concat.{flat_map-append}
use Rattle.ufs_file.specs.Hand.{FileState}
use Rattle.ufs_file_commits.specs.Writes.{BlockWrite, write_at, write_of, writes_before, writes_of}

pub range_split : (a k m : ℕ) → range_with_len a (k + m) ≡ range_with_len a k ++ range_with_len (a + k) m
range_split a zero m =
    let e : zero + m ≡ m = omega arith in
    let f : a ≡ a + zero = omega arith in
    ap (range_with_len a) e ∙ ap (λ j. range_with_len j m) f
range_split a (suc k) m =
    let e : suc k + m ≡ suc (k + m) = omega arith in
    let f : a + 1 + k ≡ a + suc k = omega arith in
    ap (range_with_len a) e ∙ ap (λ l. a ∷ l) (range_split (a + 1) k m ∙ ap (λ j. range_with_len (a + 1) k ++ range_with_len j m) f)

-- one place more
pub before_next : (f : FileState) (k : ℕ) → writes_before f (k + 1) ≡ writes_before f k ++ write_at f k
before_next f k =
    let e : 0 + k ≡ k = omega arith in
    ap (flat_map (write_at f)) (range_split 0 k 1) ∙ flat_map-append (write_at f) (range_with_len 0 k) (range_with_len (0 + k) 1)
    ∙ ap (λ l. writes_before f k ++ l) (ap (λ j. write_at f j ++ []) e ∙ append-nil (write_at f k))

-- those behind a place
abbrev pub writes_behind : FileState → ℕ → ℕ → List BlockWrite
writes_behind f k n = flat_map (write_at f) (range_with_len (k + 1) (n - (k + 1)))

pub writes_split : (f : FileState) (k n : ℕ) → k < n → writes_before f n ≡ writes_before f k ++ (write_at f k ++ writes_behind f k n)
writes_split f k n less =
    let m = n - (k + 1) in
    let e : n ≡ k + 1 + m = omega (arith, less) in
    let z : 0 + (k + 1) ≡ k + 1 = omega arith in
    ap (writes_before f) e ∙ ap (flat_map (write_at f)) (range_split 0 (k + 1) m) ∙ flat_map-append (write_at f) (range_with_len 0 (k + 1)) (range_with_len (0 + (k + 1)) m)
    ∙ ap (λ j. writes_before f (k + 1) ++ flat_map (write_at f) (range_with_len j m)) z
    ∙ ap (λ l. l ++ writes_behind f k n) (before_next f k) ∙ append_assoc (writes_before f k) (write_at f k) (writes_behind f k n)

-- places with no dirty block
clean_run : (f : FileState) (a m : ℕ) → ((place : ℕ) → a ≤ place → place < a + m → write_at f place ≡ []) → writes_before f (a + m) ≡ writes_before f a
clean_run f a zero none =
    let e : a + zero ≡ a = omega arith in
    ap (writes_before f) e
clean_run f a (suc m) none =
    let e : a + suc m ≡ a + m + 1 = omega arith in
    ap (writes_before f) e ∙ before_next f (a + m) ∙ ap (λ l. writes_before f (a + m) ++ l) (none (a + m) (omega arith) (omega arith)) ∙ append-nil (writes_before f (a + m))
    ∙ clean_run f a m (λ place from less. none place from (omega (arith, less)))

-- A file's writes are those of a span that has all its dirty places.
module _ (f : FileState) (from to : ℕ) (dirty : (place : ℕ) → slice_get f.content.dirty place ≡ Some true → (from ≤ place) × (place < to)) where
  outside : (place : ℕ) → ((from ≤ place) × (place < to) → ⊥) → write_at f place ≡ []
  outside place out = by (slice_get f.content.dirty place) refl
    where
      by : (mark : Option Bool) → slice_get f.content.dirty place ≡ mark → (if unwrap_or mark false then write_of f place ∷ [] else []) ≡ []
      by None is = refl
      by (Some false) is = refl
      by (Some true) is = absurd (out (dirty place is))

  pub none_before : writes_before f from ≡ []
  none_before =
      let e : from ≡ 0 + from = omega arith in
      ap (writes_before f) e ∙ clean_run f 0 from (λ place _ less. outside place (λ h. omega (arith, h.0, less)))

  pub all_by_end : to ≤ length f.content.dirty → writes_before f to ≡ writes_of f
  all_by_end there =
      let m = length f.content.dirty - to in
      let e : to + m ≡ length f.content.dirty = omega (arith, there) in
      sym (clean_run f to m (λ place past _. outside place (λ h. omega (arith, h.1, past)))) ∙ ap (writes_before f) e
