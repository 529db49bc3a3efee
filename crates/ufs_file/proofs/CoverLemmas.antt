-- Blocks of zeros for those that aren't in memory.
use Rattle.std.proofs.Common.{◌≡◌, ℕ, suc, ◌+◌, ◌-◌, ◌*◌, ◌≤◌, ◌<◌, ◌⊎◌, inl, inr, List, [], ◌∷◌, ◌++◌, Bool, true, false, cond, Some, length, take, drop, replicate, get_or, ap, sym, ◌∙◌, arith, append_assoc}
use Rattle.std.specs.Prelude.{All, slice_get}
use Rattle.std.proofs.lemmas.Bool.{cases_lt, cond-false}
use Rattle.std.proofs.lemmas.List.{drop-drop, drop_more, ext_get_or, get_or-map, get_or-replicate, length-replicate, take-append-drop, take_all}
use Rattle.std.proofs.lemmas.Option.{get_or_from_slice_get, slice_get_within}
use Rattle.ufs_file.specs.Lists.{over}
use Rattle.ufs_file.specs.Content.{AreThere}
use Rattle.ufs_file.specs.Table.{IsWhole, absent, absent_within, bytes_in, shown, there_of}
use Rattle.ufs_file.specs.declared.blocks.Block.{Block}
use Rattle.ufs_file.proofs.OverLemmas.{length-over, over-within, over_none, over_one}
use Rattle.ufs_file.proofs.SpanLemmas.{mark_there, over-before, over-inside, over-past}
use Rattle.ufs_file.proofs.TableLemmas.{length-shown, length-there, part_of_block}

-- ---- marks on the places from one on, below another

abbrev marked : List Bool → ℕ → ℕ → List Bool
marked ms from to = over ms from (replicate (to - from) true)

none_marked : (ms : List Bool) (from to : ℕ) → to ≤ from → over ms from (replicate (to - from) true) ≡ ms
none_marked ms from to le = (let e : to - from ≡ 0 = omega (arith, le) in ap (λ (n : ℕ). over ms from (replicate n true)) e ∙ over_none ms from)

module _ (ms : List Bool) (from to : ℕ) (inside : to ≤ length ms) where
  fits : from ≤ to → from + length (replicate {A = Bool} (to - from) true) ≤ length ms
  fits le = omega (arith, le, inside, length-replicate {A = Bool} (to - from) true)

  pub length-marked : length (over ms from (replicate (to - from) true)) ≡ length ms
  length-marked = by (cases_lt to from)
    where
      by : (to < from) ⊎ (from ≤ to) → length (over ms from (replicate (to - from) true)) ≡ length ms
      by (inl less) = ap length (none_marked ms from to (omega (arith, less)))
      by (inr le) = length-over ms from (replicate (to - from) true) (fits le)

  marked_in : (k : ℕ) (d : Bool) → from ≤ k → k < to → get_or (over ms from (replicate (to - from) true)) k d ≡ true
  marked_in k d low less =
      over-inside ms (replicate (to - from) true) from k d (fits (omega (arith, low, less))) low (omega (arith, low, less, length-replicate {A = Bool} (to - from) true))
      ∙ get_or-replicate (to - from) (k - from) true d (omega (arith, low, less))

  pub marked_out : (k : ℕ) (d : Bool) → (k < from) ⊎ (to ≤ k) → get_or (over ms from (replicate (to - from) true)) k d ≡ get_or ms k d
  marked_out k d side = by side (cases_lt to from)
    where
      by : (k < from) ⊎ (to ≤ k) → (to < from) ⊎ (from ≤ to) → get_or (over ms from (replicate (to - from) true)) k d ≡ get_or ms k d
      by _ (inl less) = ap (λ (l : List Bool). get_or l k d) (none_marked ms from to (omega (arith, less)))
      by (inl below) (inr le) = over-before ms (replicate (to - from) true) from k d (fits le) below
      by (inr past) (inr le) = over-past ms (replicate (to - from) true) from k d (fits le) (omega (arith, past, le, length-replicate {A = Bool} (to - from) true))

  pub marked_there : AreThere (over ms from (replicate (to - from) true)) from to
  marked_there k low less = mark_there (over ms from (replicate (to - from) true)) k (marked_in k false low less)

  pub marked_kept : (k : ℕ) → slice_get ms k ≡ Some true → slice_get (over ms from (replicate (to - from) true)) k ≡ Some true
  marked_kept k is = mark_there (over ms from (replicate (to - from) true)) k (by (cases_lt k from) (cases_lt k to))
    where
      old : get_or ms k false ≡ true
      old = get_or_from_slice_get ms k true false is

      by : (k < from) ⊎ (from ≤ k) → (k < to) ⊎ (to ≤ k) → get_or (over ms from (replicate (to - from) true)) k false ≡ true
      by (inl less) _ = marked_out k false (inl less) ∙ old
      by (inr low) (inl less) = marked_in k false low less
      by (inr low) (inr past) = marked_out k false (inr past) ∙ old

  -- where those are marked already
  pub marked_same : AreThere ms from to → over ms from (replicate (to - from) true) ≡ ms
  marked_same there = ext_get_or false (over ms from (replicate (to - from) true)) ms length-marked (λ k less. by k (cases_lt k from) (cases_lt k to))
    where
      by : (k : ℕ) → (k < from) ⊎ (from ≤ k) → (k < to) ⊎ (to ≤ k) → get_or (over ms from (replicate (to - from) true)) k false ≡ get_or ms k false
      by k (inl less) _ = marked_out k false (inl less)
      by k (inr low) (inl less) = marked_in k false low less ∙ sym (get_or_from_slice_get ms k true false (there k low less))
      by k (inr low) (inr past) = marked_out k false (inr past)

-- lists that agree beside those places
marked_agrees : (xs ys : List Bool) (from to : ℕ) → to ≤ length xs → length xs ≡ length ys → ((k : ℕ) → (k < from) ⊎ (to ≤ k) → get_or xs k false ≡ get_or ys k false)
    → over xs from (replicate (to - from) true) ≡ over ys from (replicate (to - from) true)
marked_agrees xs ys from to inside same agrees = ext_get_or false (marked xs from to) (marked ys from to) (length-marked xs from to inside ∙ same ∙ sym (length-marked ys from to within)) (λ k less. by k (cases_lt k from) (cases_lt k to))
  where
    within : to ≤ length ys
    within = omega (arith, inside, same)

    out : (k : ℕ) → (k < from) ⊎ (to ≤ k) → get_or (over xs from (replicate (to - from) true)) k false ≡ get_or (over ys from (replicate (to - from) true)) k false
    out k side = marked_out xs from to inside k false side ∙ agrees k side ∙ sym (marked_out ys from to within k false side)

    by : (k : ℕ) → (k < from) ⊎ (from ≤ k) → (k < to) ⊎ (to ≤ k) → get_or (over xs from (replicate (to - from) true)) k false ≡ get_or (over ys from (replicate (to - from) true)) k false
    by k (inl less) _ = out k (inl less)
    by k (inr low) (inl less) = marked_in xs from to inside k false low less ∙ sym (marked_in ys from to within k false low less)
    by k (inr low) (inr past) = out k (inr past)

-- marked again, and some more
pub marked_twice : (ms : List Bool) (from to' to : ℕ) → to' ≤ to → to ≤ length ms → over (over ms from (replicate (to' - from) true)) from (replicate (to - from) true) ≡ over ms from (replicate (to - from) true)
marked_twice ms from to' to less inside =
    let within : to' ≤ length ms = omega (arith, less, inside) in
    let long = length-marked ms from to' within in
    marked_agrees (marked ms from to') ms from to (omega (arith, long, inside)) long (λ k side. marked_out ms from to' within k false (sooner k side))
  where
    sooner : (k : ℕ) → (k < from) ⊎ (to ≤ k) → (k < from) ⊎ (to' ≤ k)
    sooner k (inl below) = inl below
    sooner k (inr past) = inr (omega (arith, past, less))

-- with more behind them
pub marked_append : (ms ns : List Bool) (from to : ℕ) → to ≤ length ms → over (ms ++ ns) from (replicate (to - from) true) ≡ over ms from (replicate (to - from) true) ++ ns
marked_append ms ns from to inside = by (cases_lt to from)
  where
    by : (to < from) ⊎ (from ≤ to) → over (ms ++ ns) from (replicate (to - from) true) ≡ over ms from (replicate (to - from) true) ++ ns
    by (inl less) = none_marked (ms ++ ns) from to (omega (arith, less)) ∙ ap (λ (l : List Bool). l ++ ns) (sym (none_marked ms from to (omega (arith, less))))
    by (inr le) = over-within ms ns from (replicate (to - from) true) (fits ms from to inside le)

-- ---- how many aren't in memory

absent_done : (ms : List Bool) (k to : ℕ) → to ≤ k → absent_within ms k to ≡ 0
absent_done ms k to le = (let e : to - k ≡ 0 = omega (arith, le) in ap (λ (n : ℕ). absent (take n (drop k ms))) e)

absent_step : (ms : List Bool) (k to : ℕ) → k < to → to ≤ length ms → absent_within ms k to ≡ cond (get_or ms k true) (absent_within ms (k + 1) to) (suc (absent_within ms (k + 1) to))
absent_step ms k to less inside =
    let e : to - k ≡ suc (to - (k + 1)) = omega (arith, less) in
    ap (λ (n : ℕ). absent (take n (drop k ms))) e ∙ ap (λ (l : List Bool). absent (take (suc (to - (k + 1))) l)) (drop_more ms k true (omega (arith, less, inside)))

-- ---- the bytes

absent_at : (bs : List Block) (k : ℕ) (d : Block) → slice_get (there_of bs) k ≡ Some false → (get_or bs k d).there ≡ false
absent_at bs k d is =
    sym (get_or-map (λ (b : Block). b.there) bs k d true (omega (arith, slice_get_within (there_of bs) k false is, length-there bs)))
    ∙ get_or_from_slice_get (there_of bs) k false true is

shown_absent : (b : Block) → b.there ≡ false → shown b ≡ replicate 4096 0
shown_absent b e = cond-false b.there b.bytes.items (replicate 4096 0) e

-- a part over itself
over_itself : {X : Type 0} (xs part : List X) (at : ℕ) → part ≡ take (length part) (drop at xs) → over xs at part ≡ xs
over_itself xs part at is =
    append_assoc (take at xs) part (drop (at + length part) xs)
    ∙ ap (λ (l : List _). take at xs ++ l) ((λ i. is i ++ sym (drop-drop (length part) at xs) i) ∙ take-append-drop (length part) (drop at xs)) ∙ take-append-drop at xs

-- a whole block over itself
block_itself : (bs : List Block) (k : ℕ) (d : Block) (bytes : List ℕ) → All IsWhole bs → k < length bs → bytes ≡ shown (get_or bs k d) → over (bytes_in bs) (4096 * k) bytes ≡ bytes_in bs
block_itself bs k d bytes whole there is =
    let size : length bytes ≡ 4096 = ap length is ∙ length-shown (get_or bs k d) (whole k d there) in
    let at : 4096 * k + 0 ≡ 4096 * k = omega arith in
    let past : length (shown (get_or bs k d)) ≤ 4096 = omega (arith, length-shown (get_or bs k d) (whole k d there)) in
    over_itself (bytes_in bs) bytes (4096 * k)
    (is ∙ sym (take_all 4096 (shown (get_or bs k d)) past) ∙ part_of_block bs k 0 4096 d whole there (omega arith)
    ∙ (λ i. take (sym size i) (drop (at i) (bytes_in bs))))

-- zeros over a block that isn't in memory
pub zeros_itself : (bs : List Block) (k : ℕ) (bytes : List ℕ) → All IsWhole bs → slice_get (there_of bs) k ≡ Some false → bytes ≡ replicate 4096 0 → over (bytes_in bs) (4096 * k) bytes ≡ bytes_in bs
zeros_itself [] k bytes whole is zeros = absurd (let none = slice_get_within {A = Bool} [] k false is in omega (arith, none))
zeros_itself (b ∷ bs) k bytes whole is zeros =
    block_itself (b ∷ bs) k b bytes whole (omega (arith, slice_get_within (there_of (b ∷ bs)) k false is, length-there (b ∷ bs))) (zeros ∙ sym (shown_absent (get_or (b ∷ bs) k b) (absent_at (b ∷ bs) k b is)))

-- ---- a block of the table

mark_at : (bs : List Block) (k : ℕ) (d : Block) (mark : Bool) → k < length bs → (get_or bs k d).there ≡ mark → get_or (there_of bs) k true ≡ mark
mark_at bs k d mark less is = get_or-map (λ (b : Block). b.there) bs k d true less ∙ is

pub absent_more : (bs : List Block) (k to : ℕ) (d : Block) → k < to → to ≤ length bs → (get_or bs k d).there ≡ false → absent_within (there_of bs) k to ≡ suc (absent_within (there_of bs) (k + 1) to)
absent_more bs k to d less inside is =
    absent_step (there_of bs) k to less (omega (arith, inside, length-there bs))
    ∙ ap (λ (b : Bool). cond b (absent_within (there_of bs) (k + 1) to) (suc (absent_within (there_of bs) (k + 1) to))) (mark_at bs k d false (omega (arith, less, inside)) is)

pub absent_same : (bs : List Block) (k to : ℕ) (d : Block) → k < to → to ≤ length bs → (get_or bs k d).there ≡ true → absent_within (there_of bs) k to ≡ absent_within (there_of bs) (k + 1) to
absent_same bs k to d less inside is =
    absent_step (there_of bs) k to less (omega (arith, inside, length-there bs))
    ∙ ap (λ (b : Bool). cond b (absent_within (there_of bs) (k + 1) to) (suc (absent_within (there_of bs) (k + 1) to))) (mark_at bs k d true (omega (arith, less, inside)) is)

-- The blocks below place k are covered already.
module _ (bs now : List Block) (from k to : ℕ) (d : Block) (low : from ≤ k) (less : k < to) (inside : to ≤ length bs) (long : length now ≡ length bs)
    (there : there_of now ≡ over (there_of bs) from (replicate (k - from) true)) where
  within : k < length (there_of bs)
  within = omega (arith, less, inside, length-there bs)

  was : get_or (there_of bs) k true ≡ (get_or now k d).there
  was =
      sym (marked_out (there_of bs) from k (omega (arith, within)) k true (inr (omega arith))) ∙ ap (λ (l : List Bool). get_or l k true) (sym there)
      ∙ get_or-map (λ (b : Block). b.there) now k d true (omega (arith, less, inside, long))

  step : (mark : Bool) → (get_or now k d).there ≡ mark → absent_within (there_of bs) k to ≡ cond mark (absent_within (there_of bs) (k + 1) to) (suc (absent_within (there_of bs) (k + 1) to))
  step mark is =
      absent_step (there_of bs) k to less (omega (arith, inside, length-there bs))
      ∙ ap (λ (b : Bool). cond b (absent_within (there_of bs) (k + 1) to) (suc (absent_within (there_of bs) (k + 1) to))) (was ∙ is)

  -- one that isn't in memory
  pub next_absent : (get_or now k d).there ≡ false → absent_within (there_of bs) k to ≡ suc (absent_within (there_of bs) (k + 1) to)
  next_absent is = step false is

  pub next_marks : (new : List Block) → there_of new ≡ over (there_of now) k (true ∷ []) → there_of new ≡ over (there_of bs) from (replicate (k + 1 - from) true)
  next_marks new is = is ∙ ap (λ (l : List Bool). over l k (true ∷ [])) there ∙ over_one (there_of bs) from k true low within

  -- one that is
  pub next_there : (get_or now k d).there ≡ true → absent_within (there_of bs) k to ≡ absent_within (there_of bs) (k + 1) to
  next_there is = step true is

  pub same_marks : (get_or now k d).there ≡ true → there_of now ≡ over (there_of bs) from (replicate (k + 1 - from) true)
  same_marks is =
      let mark : slice_get (there_of now) k ≡ Some true = mark_there (there_of now) k (get_or-map (λ (b : Block). b.there) now k d false (omega (arith, less, inside, long)) ∙ is) in
      let one : k + 1 - k ≡ 1 = omega arith in
      let over_same : over (there_of now) k (replicate (k + 1 - k) true) ≡ there_of now =
      marked_same (there_of now) k (k + 1) (omega (arith, less, inside, long, length-there now)) (λ j from_k below. (let e : k ≡ j = omega (arith, from_k, below) in ap (slice_get (there_of now)) (sym e) ∙ mark)) in
      next_marks now (sym over_same ∙ ap (λ (n : ℕ). over (there_of now) k (replicate n true)) one)
