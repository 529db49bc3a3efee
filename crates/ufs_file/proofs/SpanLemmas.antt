-- Spans that have each mark of a list, as it is written over, grows and is cut.
use Rattle.std.proofs.Common.{◌≡◌, ℕ, ◌+◌, ◌-◌, ◌/◌, ◌%◌, ◌≤◌, ◌<◌, ◌⊎◌, inl, inr, List, [], ◌∷◌, ◌++◌, Bool, true, false, eqb, Some, length, take, drop, replicate, get_or, ap, sym, ◌∙◌, refl, subst, arith, length-append}
use Rattle.std.specs.Prelude.{slice_get, if◌then◌else◌}
use Rattle.std.proofs.lemmas.Bool.{cases_lt}
use Rattle.std.proofs.lemmas.List.{ext_get_or, get_or_append_left, get_or-append_right, get_or-drop, get_or_past, get_or-replicate, get_or-take, length-replicate, length-take-le}
use Rattle.std.proofs.lemmas.Option.{get_or_from_slice_get, slice_get-get_or, slice_get_within}
use Rattle.ufs_file.specs.Lists.{over}
use Rattle.ufs_file.specs.Content.{marks_cut}
use Rattle.ufs_file.specs.Span.{AreWithin, HasBelow, HasBoth, HasSome, IsIn}
use Rattle.ufs_file.specs.declared.span.Span.{Span}
use Rattle.ufs_file.proofs.OverLemmas.{length-over}

-- ---- marks

pub mark_there : (ms : List Bool) (k : ℕ) → get_or ms k false ≡ true → slice_get ms k ≡ Some true
mark_there ms k is = by (cases_lt k (length ms))
  where
    by : (k < length ms) ⊎ (length ms ≤ k) → slice_get ms k ≡ Some true
    by (inl less) = slice_get-get_or ms k false less ∙ ap Some is
    by (inr past) = (let none : get_or ms k false ≡ false = get_or_past ms k false past in absurd cc)

-- a mark of another list that agrees there
pub moved : (xs ys : List Bool) (k : ℕ) → get_or xs k false ≡ get_or ys k false → slice_get xs k ≡ Some true → slice_get ys k ≡ Some true
moved xs ys k same is = mark_there ys k (sym same ∙ get_or_from_slice_get xs k true false is)

pub over-before : {X : Type 0} (old new : List X) (at k : ℕ) (d : X) → at + length new ≤ length old → k < at → get_or (over old at new) k d ≡ get_or old k d
over-before old new at k d fits less =
    let front : length (take at old) ≡ at = length-take-le at old (omega arith) in
    get_or_append_left (take at old ++ new) (drop (at + length new) old) d k (omega (arith, length-append (take at old) new))
    ∙ get_or_append_left (take at old) new d k (omega arith) ∙ get_or-take at old k d less

pub over-past : {X : Type 0} (old new : List X) (at k : ℕ) (d : X) → at + length new ≤ length old → at + length new ≤ k → get_or (over old at new) k d ≡ get_or old k d
over-past old new at k d fits past =
    let n = at + length new in
    let front : length (take at old ++ new) ≡ n = length-append (take at old) new ∙ ap (λ j. j + length new) (length-take-le at old (omega arith)) in
    let e : n + (k - n) ≡ k = omega arith in
    get_or-append_right (take at old ++ new) (drop n old) n k d front past ∙ get_or-drop n old (k - n) d ∙ ap (λ j. get_or old j d) e

pub over-inside : {X : Type 0} (old new : List X) (at k : ℕ) (d : X) → at + length new ≤ length old → at ≤ k → k < at + length new → get_or (over old at new) k d ≡ get_or new (k - at) d
over-inside old new at k d fits from less =
    let front : length (take at old) ≡ at = length-take-le at old (omega arith) in
    get_or_append_left (take at old ++ new) (drop (at + length new) old) d k (omega (arith, length-append (take at old) new))
    ∙ get_or-append_right (take at old) new at k d front from

-- a mark is one that was there, or lies where the list was written over
over_mark : (old new : List Bool) (at to k : ℕ) → at + length new ≤ length old → to ≡ at + length new → slice_get (over old at new) k ≡ Some true → (slice_get old k ≡ Some true) ⊎ ((at ≤ k) × (k < to))
over_mark old new at to k fits end is = by (cases_lt k at) (cases_lt k to)
  where
    by : (k < at) ⊎ (at ≤ k) → (k < to) ⊎ (to ≤ k) → (slice_get old k ≡ Some true) ⊎ ((at ≤ k) × (k < to))
    by (inl less) _ = inl (moved (over old at new) old k (over-before old new at k false fits less) is)
    by (inr from) (inl less) = inr (from, less)
    by (inr from) (inr past) = inl (moved (over old at new) old k (over-past old new at k false fits (omega (arith, past, end))) is)

-- a mark of what is longer from a place on is one that was there, or lies behind that place
longer_mark : (old more : List Bool) (from to k : ℕ) → from ≤ length old → to ≡ from + length more → slice_get (take from old ++ more) k ≡ Some true → (slice_get old k ≡ Some true) ⊎ ((from ≤ k) × (k < to))
longer_mark old more from to k inside end is = by (cases_lt k from)
  where
    front : length (take from old) ≡ from
    front = length-take-le from old inside

    by : (k < from) ⊎ (from ≤ k) → (slice_get old k ≡ Some true) ⊎ ((from ≤ k) × (k < to))
    by (inl less) = inl (moved (take from old ++ more) old k (get_or_append_left (take from old) more false k (omega (arith, less, front)) ∙ get_or-take from old k false less) is)
    by (inr here) = inr (here, omega (arith, slice_get_within (take from old ++ more) k true is, length-append (take from old) more, front, end))

-- a mark of what a cut leaves is one that was there, or that of the block that it goes through
cut_mark : (ms : List Bool) (size n k : ℕ) → n ≡ size / 4096 → n ≤ length ms → slice_get (marks_cut ms size) k ≡ Some true → k < length (marks_cut ms size)
    → ((k < length (marks_cut ms size)) × (slice_get ms k ≡ Some true)) ⊎ ((n ≤ k) × (k < length (marks_cut ms size)))
cut_mark ms size n k floor there is within = by (cases_lt k n)
  where
    same : (b : Bool) → k < n → get_or (if b then take (size / 4096) ms else take (size / 4096) ms ++ true ∷ []) k false ≡ get_or ms k false
    same true less = get_or-take (size / 4096) ms k false (omega (arith, less, floor))
    same false less =
        let front : length (take (size / 4096) ms) ≡ size / 4096 = length-take-le (size / 4096) ms (omega (arith, there, floor)) in
        get_or_append_left (take (size / 4096) ms) (true ∷ []) false k (omega (arith, less, floor, front)) ∙ get_or-take (size / 4096) ms k false (omega (arith, less, floor))

    by : (k < n) ⊎ (n ≤ k) → ((k < length (marks_cut ms size)) × (slice_get ms k ≡ Some true)) ⊎ ((n ≤ k) × (k < length (marks_cut ms size)))
    by (inl less) = inl (within, moved (marks_cut ms size) ms k (same (eqb (size % 4096) 0) less) is)
    by (inr past) = inr (past, within)

-- ---- marks that stay

over_stays : (old : List Bool) (n at k : ℕ) → at + n ≤ length old → slice_get old k ≡ Some true → slice_get (over old at (replicate n true)) k ≡ Some true
over_stays old n at k fits is = by (cases_lt k at) (cases_lt k (at + n))
  where
    long : length (replicate n true) ≡ n
    long = length-replicate {A = Bool} n true

    room : at + length (replicate n true) ≤ length old
    room = omega (arith, long, fits)

    by : (k < at) ⊎ (at ≤ k) → (k < at + n) ⊎ (at + n ≤ k) → slice_get (over old at (replicate n true)) k ≡ Some true
    by (inl less) _ = mark_there (over old at (replicate n true)) k (over-before old (replicate n true) at k false room less ∙ get_or_from_slice_get old k true false is)
    by (inr from) (inl less) =
        mark_there (over old at (replicate n true)) k (over-inside old (replicate n true) at k false room from (omega (arith, less, long)) ∙ get_or-replicate n (k - at) true false (omega (arith, from, less)))
    by (inr from) (inr past) =
        mark_there (over old at (replicate n true)) k (over-past old (replicate n true) at k false room (omega (arith, past, long)) ∙ get_or_from_slice_get old k true false is)

over_begins : (old : List Bool) (n at : ℕ) → at + n ≤ length old → 0 < n → slice_get (over old at (replicate n true)) at ≡ Some true
over_begins old n at fits some =
    let long : length (replicate n true) ≡ n = length-replicate {A = Bool} n true in
    mark_there (over old at (replicate n true)) at
    (over-inside old (replicate n true) at at false (omega (arith, long, fits)) (omega arith) (omega (arith, long, some)) ∙ get_or-replicate n (at - at) true false (omega (arith, some)))

longer_inside : (old : List Bool) (n from k : ℕ) → from ≤ length old → from ≤ k → k < from + n → slice_get (take from old ++ replicate n true) k ≡ Some true
longer_inside old n from k inside low high =
    mark_there (take from old ++ replicate n true) k
    (get_or-append_right (take from old) (replicate n true) from k false (length-take-le from old inside) low ∙ get_or-replicate n (k - from) true false (omega (arith, low, high)))

longer_stays : (old : List Bool) (n from k : ℕ) → from ≤ length old → length old ≤ from + n → slice_get old k ≡ Some true → slice_get (take from old ++ replicate n true) k ≡ Some true
longer_stays old n from k inside end is = by (cases_lt k from)
  where
    front : length (take from old) ≡ from
    front = length-take-le from old inside

    by : (k < from) ⊎ (from ≤ k) → slice_get (take from old ++ replicate n true) k ≡ Some true
    by (inl less) = moved old (take from old ++ replicate n true) k (sym (get_or_append_left (take from old) (replicate n true) false k (omega (arith, less, front)) ∙ get_or-take from old k false less)) is
    by (inr low) = longer_inside old n from k inside low (omega (arith, slice_get_within old k true is, end))

-- the mark of the block that a cut goes through
cut_inside : (ms : List Bool) (size n k : ℕ) → n ≡ size / 4096 → n ≤ length ms → n ≤ k → k < length (marks_cut ms size) → slice_get (marks_cut ms size) k ≡ Some true
cut_inside ms size n k floor there low = by (eqb (size % 4096) 0)
  where
    front : length (take (size / 4096) ms) ≡ size / 4096
    front = length-take-le (size / 4096) ms (omega (arith, there, floor))

    by : (b : Bool) → k < length (if b then take (size / 4096) ms else take (size / 4096) ms ++ true ∷ []) → slice_get (if b then take (size / 4096) ms else take (size / 4096) ms ++ true ∷ []) k ≡ Some true
    by true less = absurd (omega (arith, less, front, low, floor))
    by false less =
        let end : length (take (size / 4096) ms ++ true ∷ []) ≡ size / 4096 + 1 = length-append (take (size / 4096) ms) (true ∷ []) ∙ ap (λ j. j + 1) front in
        let e : k - size / 4096 ≡ 0 = omega (arith, less, end) in
        mark_there (take (size / 4096) ms ++ true ∷ []) k
        (get_or-append_right (take (size / 4096) ms) (true ∷ []) (size / 4096) k false front (omega (arith, low, floor)) ∙ ap (λ j. get_or (true ∷ []) j false) e)

cut_stays : (ms : List Bool) (size n k : ℕ) → n ≡ size / 4096 → n ≤ length ms → k < length (marks_cut ms size) → slice_get ms k ≡ Some true → slice_get (marks_cut ms size) k ≡ Some true
cut_stays ms size n k floor there within is = by (cases_lt k n)
  where
    same : (b : Bool) → k < n → get_or ms k false ≡ get_or (if b then take (size / 4096) ms else take (size / 4096) ms ++ true ∷ []) k false
    same true less = sym (get_or-take (size / 4096) ms k false (omega (arith, less, floor)))
    same false less =
        let front : length (take (size / 4096) ms) ≡ size / 4096 = length-take-le (size / 4096) ms (omega (arith, there, floor)) in
        sym (get_or_append_left (take (size / 4096) ms) (true ∷ []) false k (omega (arith, less, floor, front)) ∙ get_or-take (size / 4096) ms k false (omega (arith, less, floor)))

    by : (k < n) ⊎ (n ≤ k) → slice_get (marks_cut ms size) k ≡ Some true
    by (inl less) = moved ms (marks_cut ms size) k (same (eqb (size % 4096) 0) less) is
    by (inr low) = cut_inside ms size n k floor there low within

-- ---- spans

module _ (s t : Span) (from to : ℕ) (old new : List Bool) (were : AreWithin s old) (both : HasBoth s from to t) (longer : length old ≤ length new) (there : to ≤ length new)
    (marks : (k : ℕ) → slice_get new k ≡ Some true → (slice_get old k ≡ Some true) ⊎ ((from ≤ k) × (k < to)))
    (stay : (k : ℕ) → slice_get old k ≡ Some true → slice_get new k ≡ Some true) (begun : from < to → slice_get new from ≡ Some true) where
  begins_at : (HasSome s × (t.from ≡ s.from)) ⊎ ((from < to) × (t.from ≡ from)) → slice_get new t.from ≡ Some true
  begins_at (inl old) = ap (slice_get new) old.1 ∙ stay s.from (were.first old.0)
  begins_at (inr added) = ap (slice_get new) added.1 ∙ begun added.0

  lies_in : (k : ℕ) → (slice_get old k ≡ Some true) ⊎ ((from ≤ k) × (k < to)) → IsIn t k
  lies_in k (inl is) = both.kept k (were.marked k is)
  lies_in k (inr lies) = both.added k lies.0 lies.1

  more_within : AreWithin t new
  more_within = record {
    marked = λ k is. lies_in k (marks k is);
    first = λ some. begins_at (both.first some);
    ordered = both.ordered;
    there = omega (arith, both.end, were.there, longer, there);
  }

-- written over
pub over_within : (s t : Span) (old new : List Bool) (count at to : ℕ) → AreWithin s old → new ≡ over old at (replicate count true) → at + count ≤ length old → to ≡ at + count → HasBoth s at to t → AreWithin t new
over_within s t old new count at to were is fits end both =
    let fresh : List Bool = replicate count true in
    let long : length fresh ≡ count = length-replicate {A = Bool} count true in
    let room : at + length fresh ≤ length old = omega (arith, long, fits) in
    let same : length (over old at fresh) ≡ length old = length-over old at fresh room in
    subst (AreWithin t) (sym is)
    (more_within s t at to old (over old at fresh) were both (omega (arith, same)) (omega (arith, same, end, fits)) (λ k is. over_mark old fresh at to k room (omega (arith, end, long)) is)
    (λ k is. over_stays old count at k fits is) (λ some. over_begins old count at fits (omega (arith, some, end))))

-- longer, from a place on
pub longer_within : (s t : Span) (old new : List Bool) (count from to : ℕ) → AreWithin s old → new ≡ take from old ++ replicate count true → from ≤ length old → to ≡ from + count → length old ≤ to → HasBoth s from to t
    → AreWithin t new
longer_within s t old new count from to were is inside end longer both =
    let more : List Bool = replicate count true in
    let long : length more ≡ count = length-replicate {A = Bool} count true in
    let size : length (take from old ++ more) ≡ from + length more = length-append (take from old) more ∙ ap (λ n. n + length more) (length-take-le from old inside) in
    subst (AreWithin t) (sym is)
    (more_within s t from to old (take from old ++ more) were both (omega (arith, size, long, end, longer)) (omega (arith, size, long, end)) (λ k is. longer_mark old more from to k inside (omega (arith, end, long)) is)
    (λ k is. longer_stays old count from k inside (omega (arith, longer, end)) is) (λ some. longer_inside old count from from inside (omega arith) (omega (arith, some, end))))

-- cut
pub cut_within : (s u t : Span) (ms new : List Bool) (size n count : ℕ) → AreWithin s ms → new ≡ marks_cut ms size → n ≡ size / 4096 → n ≤ length ms → length new ≡ count
    → HasBelow s count u → HasBoth u n count t → AreWithin t new
cut_within s u t ms new size n count were is floor there counted below both = subst (AreWithin t) (sym is) (record {
  marked = λ k is. at k (cut_mark ms size n k floor there is (slice_get_within (marks_cut ms size) k true is));
  first = λ some. begins some (both.first some);
  ordered = both.ordered;
  there = omega (arith, both.end, below.there, long);
})
  where
    long : length (marks_cut ms size) ≡ count
    long = ap length (sym is) ∙ counted

    at : (k : ℕ) → ((k < length (marks_cut ms size)) × (slice_get ms k ≡ Some true)) ⊎ ((n ≤ k) × (k < length (marks_cut ms size))) → IsIn t k
    at k (inl was) = both.kept k (below.kept k (omega (arith, was.0, long)) (were.marked k was.1))
    at k (inr lies) = both.added k lies.0 (omega (arith, lies.1, long))

    begins : HasSome t → (HasSome u × (t.from ≡ u.from)) ⊎ ((n < count) × (t.from ≡ n)) → slice_get (marks_cut ms size) t.from ≡ Some true
    begins some (inl kept) =
        let was = below.first kept.0 in
        let within : s.from < length (marks_cut ms size) = omega (arith, kept.0, was.1, below.there, long) in
        ap (slice_get (marks_cut ms size)) (kept.1 ∙ was.1) ∙ cut_stays ms size n s.from floor there within (were.first was.0)
    begins some (inr cut) = ap (slice_get (marks_cut ms size)) cut.1 ∙ cut_inside ms size n n floor there (omega arith) (omega (arith, cut.0, long))

-- not marked any more
pub cleaned_is : (s : Span) (ms : List Bool) → AreWithin s ms → over ms s.from (replicate (s.to - s.from) false) ≡ replicate (length ms) false
cleaned_is s ms were = ext_get_or false (over ms s.from gone) (replicate (length ms) false) (same ∙ sym (length-replicate (length ms) false)) each
  where
    gone : List Bool
    gone = replicate (s.to - s.from) false

    end : s.from + length gone ≡ s.to
    end = omega (arith, were.ordered, length-replicate {A = Bool} (s.to - s.from) false)

    fits : s.from + length gone ≤ length ms
    fits = omega (arith, were.there, end)

    same : length (over ms s.from gone) ≡ length ms
    same = length-over ms s.from gone fits

    unmarked : (k : ℕ) → (IsIn s k → ⊥) → (b : Bool) → get_or ms k false ≡ b → b ≡ false
    unmarked k out false is = refl
    unmarked k out true is = absurd (out (were.marked k (mark_there ms k is)))

    by : (k : ℕ) → (k < s.from) ⊎ (s.from ≤ k) → (k < s.to) ⊎ (s.to ≤ k) → get_or (over ms s.from gone) k false ≡ false
    by k (inl less) _ = over-before ms gone s.from k false fits less ∙ unmarked k (λ h. omega (arith, h.0, less)) (get_or ms k false) refl
    by k (inr from) (inl less) =
        over-inside ms gone s.from k false fits from (omega (arith, less, end))
        ∙ get_or-replicate (s.to - s.from) (k - s.from) false false (omega (arith, from, less))
    by k (inr from) (inr past) = over-past ms gone s.from k false fits (omega (arith, past, end)) ∙ unmarked k (λ h. omega (arith, h.1, past)) (get_or ms k false) refl

    each : (k : ℕ) → k < length (over ms s.from gone) → get_or (over ms s.from gone) k false ≡ get_or (replicate (length ms) false) k false
    each k less = by k (cases_lt k s.from) (cases_lt k s.to) ∙ sym (get_or-replicate (length ms) k false false (omega (arith, less, same)))

-- where nothing is marked
pub clean_within : (n : ℕ) (new : List Bool) → new ≡ replicate n false → AreWithin (record { from = 0; to = 0 }) new
clean_within n new is = record { marked = none; first = λ some. absurd (omega (arith, some)); ordered = omega arith; there = omega arith }
  where
    none : (k : ℕ) → slice_get new k ≡ Some true → IsIn (record { from = 0; to = 0 }) k
    none k here =
        let there : slice_get (replicate n false) k ≡ Some true = ap (λ (ms : List Bool). slice_get ms k) (sym is) ∙ here in
        let within : k < n = omega (arith, slice_get_within (replicate n false) k true there, length-replicate {A = Bool} n false) in
        let e : true ≡ false = sym (get_or_from_slice_get (replicate n false) k true false there) ∙ get_or-replicate n k false false within in
        absurd cc
