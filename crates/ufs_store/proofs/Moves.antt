-- Blocks that go from one set to another by runs.
use Rattle.std.proofs.Common.{◌≡◌, ◌∙◌, ◌⊎◌, inl, inr, ◌+◌, ◌-◌, ◌<◌, ◌≤◌, ℕ, Bool, true, false, ap, refl, sym, arith}
use Rattle.std.specs.Prelude.{◌&&◌, ◌||◌, not, min, nat_lt}
use Rattle.std.specs.Ordering.{nat_cmp}
use Rattle.std.specs.FinSet as set
use Rattle.ufs_extent.specs.declared.Run.{Run}
use Rattle.ufs_extent.specs.Runs.{IsRun, end_of}
use Rattle.ufs_bitmap.specs.Blocks.{BlockSet, HoldsNone, IsLowestRun, run_set}
use Rattle.ufs_bitmap.specs.Space.{Space, IsInside}
use Rattle.ufs_bitmap.proofs.SetLemmas.{same_blocks, has-union, has-difference, has-empty, has-blocks_from, has-run_set, between_in, difference_from, len-difference_run}
use Rattle.ufs_store.specs.Blocks.{AreApart, AreInside, MovesLowest}

pub in_run_set : (r : Run) (q : ℕ) → r.start ≤ q → q < end_of r → set.contains (run_set r) q ≡ true
in_run_set r q from under = has-blocks_from r.start r.length q ∙ between_in r.start (end_of r) q from under

-- a block of the run is in each set that has the run
pub held_there : (s : BlockSet) (want : ℕ) (r : Run) → IsLowestRun s want r → (q : ℕ) → set.contains (run_set r) q ≡ true → set.contains s q ≡ true
held_there s want r low q its = let at = has-run_set r q its in low.held q at.0 at.1

-- a block that was taken out, or wasn't there
pub taken_or_not : (a b : Bool) → (a && not b) ≡ false → (a ≡ false) ⊎ (b ≡ true)
taken_or_not false b e = inl refl
taken_or_not true true e = inr refl
taken_or_not true false e = let off = e in cc

still : (a b : Bool) → (a && not b) ≡ true → (a ≡ true) × (b ≡ false)
still true false e = (refl, refl)
still true true e = let off = e in cc
still false b e = let off = e in cc

-- ---- the lowest ones

-- So many are still wanted.
pub record IsMoving (want left : ℕ) (from kept to gained : BlockSet) : Type 0 where
  pub at_most : left ≤ want
  pub counted : set.len from + left ≡ set.len kept + want
  pub within : (b : ℕ) → set.contains kept b ≡ true → set.contains from b ≡ true
  pub lowest : (b c : ℕ) → set.contains from b ≡ true → set.contains kept b ≡ false → set.contains kept c ≡ true → b < c
  pub given : gained ≡ set.union to (set.difference from kept)

none_given : (t f : Bool) → t ≡ (t || (f && not f))
none_given true f = refl
none_given false true = refl
none_given false false = refl

pub starts_moving : (want : ℕ) (from to : BlockSet) → IsMoving want want from from to to
starts_moving want from to = record {
  at_most = omega arith;
  counted = refl;
  within = λ b is. is;
  lowest = λ b c is off _. let both = sym is ∙ off in cc;
  given = same_blocks to (set.union to (set.difference from from)) (λ q.
      none_given (set.contains to q) (set.contains from q) ∙ ap (λ b. set.contains to q || b) (sym (has-difference from from q)) ∙ sym (has-union to (set.difference from from) q));
}

one_more : (t f k r : Bool) → (r ≡ true → k ≡ true) → (k ≡ true → f ≡ true) → ((t || (f && not k)) || r) ≡ (t || (f && not (k && not r)))
one_more true f k r held there = refl
one_more false true false false held there = refl
one_more false true false true held there = let off = held refl in cc
one_more false true true true held there = refl
one_more false true true false held there = refl
one_more false false false false held there = refl
one_more false false false true held there = let off = held refl in cc
one_more false false true r held there = let off = there refl in cc

module _ (want left : ℕ) (from kept to gained : BlockSet) (r : Run) (moving : IsMoving want left from kept to gained) (run : IsRun r) (low : IsLowestRun kept left r) where
  pub goes_on_moving : IsMoving want (left - r.length) from (set.difference kept (run_set r)) to (set.union gained (run_set r))
  goes_on_moving = record {
    at_most = let most = moving.at_most in omega (arith, most);
    counted = let was = moving.counted in let fewer = len-difference_run kept r low.held in let most = low.at_most in omega (arith, was, fewer, most);
    within = λ b is. moving.within b (difference_from kept (run_set r) b is);
    lowest = λ b c is off there. before b c is (taken_or_not (set.contains kept b) (set.contains (run_set r) b) (sym (has-difference kept (run_set r) b) ∙ off)) (still (set.contains kept c) (set.contains (run_set r) c) (sym (has-difference kept (run_set r) c) ∙ there));
    given = same_blocks (set.union gained (run_set r)) (set.union to (set.difference from (set.difference kept (run_set r)))) (λ q.
        has-union gained (run_set r) q
        ∙ ap (λ b. b || set.contains (run_set r) q) (ap (λ (s : BlockSet). set.contains s q) moving.given ∙ has-union to (set.difference from kept) q ∙ ap (λ b. set.contains to q || b) (has-difference from kept q))
        ∙ one_more (set.contains to q) (set.contains from q) (set.contains kept q) (set.contains (run_set r) q) (held_there kept left r low q) (moving.within q)
        ∙ ap (λ b. set.contains to q || (set.contains from q && not b)) (sym (has-difference kept (run_set r) q))
        ∙ ap (λ b. set.contains to q || b) (sym (has-difference from (set.difference kept (run_set r)) q))
        ∙ sym (has-union to (set.difference from (set.difference kept (run_set r))) q));
  }
    where
      -- behind the run, since the run has each block up to its end
      behind : (c : ℕ) → set.contains kept c ≡ true → set.contains (run_set r) c ≡ false → end_of r ≤ c
      behind c is off = by (nat_lt c r.start) refl (nat_lt c (end_of r)) refl
        where
          by : (a : Bool) → nat_lt c r.start ≡ a → (b : Bool) → nat_lt c (end_of r) ≡ b → end_of r ≤ c
          by true e b f = let none = low.lowest c (grind (arith, e)) in let both = sym is ∙ none in absurd cc
          by false e true f = let from' : r.start ≤ c = grind (arith, e) in let under : c < end_of r = grind (arith, f) in let its = in_run_set r c from' under in let both = sym its ∙ off in absurd cc
          by false e false f = grind (arith, f)

      before : (b c : ℕ) → set.contains from b ≡ true → (set.contains kept b ≡ false) ⊎ (set.contains (run_set r) b ≡ true) → (set.contains kept c ≡ true) × (set.contains (run_set r) c ≡ false) → b < c
      before b c is (inl gone) there = moving.lowest b c is gone there.0
      before b c is (inr its) there = let at = has-run_set r b its in let high = at.1 in let far = behind c there.0 there.1 in omega (arith, high, far)

  pub none_gained : AreApart to from → HoldsNone gained r
  none_gained apart b from' under =
      let here = low.held b from' under in
      let off : set.contains to b ≡ false = by (set.contains to b) refl (moving.within b here) in
      ap (λ (s : BlockSet). set.contains s b) moving.given ∙ has-union to (set.difference from kept) b
      ∙ (λ i. off i || has-difference from kept b i) ∙ none (set.contains from b) (set.contains kept b) here
    where
      by : (t : Bool) → set.contains to b ≡ t → set.contains from b ≡ true → t ≡ false
      by false e is = refl
      by true e is = let off = apart b e in let both = sym is ∙ off in cc

      none : (f k : Bool) → k ≡ true → (false || (f && not k)) ≡ false
      none true true e = refl
      none false true e = refl
      none f false e = let off = e in cc

pub ends_moving : (want left : ℕ) (from kept to gained : BlockSet) → IsMoving want left from kept to gained → (left ≡ 0) ⊎ (kept ≡ set.empty) → MovesLowest want from kept to gained
ends_moving want left from kept to gained moving done = record {
  counted = by done;
  within = moving.within;
  lowest = moving.lowest;
  given = moving.given;
}
  where
    by : (left ≡ 0) ⊎ (kept ≡ set.empty) → set.len from ≡ set.len kept + min want (set.len from)
    by (inl none) = let was = moving.counted in omega (arith, was, none)
    by (inr none) = let was = moving.counted in let empty : set.len kept ≡ 0 = ap (λ (s : BlockSet). set.len s) none ∙ set.len-empty nat_cmp in let most = moving.at_most in omega (arith, was, empty, most)

-- ---- all of them

pub record IsReturning (free pool back left : BlockSet) : Type 0 where
  pub together : set.union back left ≡ set.union free pool
  pub apart : AreApart left back

either_way : (f p r : Bool) → (r ≡ true → p ≡ true) → ((f || r) || (p && not r)) ≡ (f || p)
either_way true p r held = refl
either_way false true true held = refl
either_way false true false held = refl
either_way false false false held = refl
either_way false false true held = let off = held refl in cc

module _ (free pool back left : BlockSet) (want : ℕ) (r : Run) (returning : IsReturning free pool back left) (low : IsLowestRun left want r) where
  pub goes_on_returning : IsReturning free pool (set.union back (run_set r)) (set.difference left (run_set r))
  goes_on_returning = record {
    together = same_blocks (set.union (set.union back (run_set r)) (set.difference left (run_set r))) (set.union free pool) (λ q.
        has-union (set.union back (run_set r)) (set.difference left (run_set r)) q
        ∙ (λ i. has-union back (run_set r) q i || has-difference left (run_set r) q i)
        ∙ either_way (set.contains back q) (set.contains left q) (set.contains (run_set r) q) (held_there left want r low q)
        ∙ sym (has-union back left q) ∙ ap (λ (s : BlockSet). set.contains s q) returning.together);
    apart = λ q is.
        let there = still (set.contains left q) (set.contains (run_set r) q) (sym (has-difference left (run_set r) q) ∙ is) in
        let off = returning.apart q there.0 in
        let out = there.1 in
        has-union back (run_set r) q ∙ (λ i. off i || out i);
  }

  pub none_back : HoldsNone back r
  none_back b from under = returning.apart b (low.held b from under)

pub ends_returning : (free pool back left : BlockSet) → IsReturning free pool back left → left ≡ set.empty → back ≡ set.union free pool
ends_returning free pool back left returning none =
    same_blocks back (set.union back left) (λ q. or_none (set.contains back q) ∙ ap (λ b. set.contains back q || b) (sym (ap (λ (s : BlockSet). set.contains s q) none ∙ has-empty q)) ∙ sym (has-union back left q)) ∙ returning.together
  where
    or_none : (b : Bool) → b ≡ (b || false)
    or_none true = refl
    or_none false = refl

-- a run of blocks of the range lies in the range
pub run_inside : (s : Space) (blocks : BlockSet) (want : ℕ) (r : Run) → AreInside s blocks → IsRun r → IsLowestRun blocks want r → IsInside s r
run_inside s blocks want r inside run low =
    let some = run.0 in
    let first = (inside r.start (low.held r.start (omega arith) (omega (arith, some)))).0 in
    let last = (inside (end_of r - 1) (low.held (end_of r - 1) (omega (arith, some)) (omega (arith, some)))).1 in
    (first, omega (arith, last, some))

-- ---- the range that they are of

pub ranged : (old to new : Space) (free : BlockSet) → to ≡ record old { free = to.free } → new ≡ record to { free = free } → new ≡ record old { free = new.free }
ranged old to new free range gives =
    gives ∙ (λ i. record { first = (range i).first; blocks = (range i).blocks; free = free }) ∙ (λ i. record { first = old.first; blocks = old.blocks; free = (sym gives i).free })
