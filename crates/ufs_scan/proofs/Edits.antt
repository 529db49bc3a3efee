-- What edits come to, one after the other.
use Rattle.std.proofs.Common.{◌≡◌, inl, inr, ℕ, zero, suc, ◌+◌, ◌-◌, ◌<◌, ◌≤◌, List, [], ◌∷◌, ◌++◌, Bool, true, false, length, take, drop, get_or, drop-cons, add-one, refl, ap, sym, ◌∙◌, arith, append_assoc}
use Rattle.std.specs.Prelude.{if◌then◌else◌, nat_lt, min, map, flat_map}
use Rattle.std.specs.List.{All, filter}
use Rattle.std.specs.List.Sorted.{IsNonDecreasingBy}
use Rattle.std.proofs.lemmas.Bool.{cases_lt, lt-ltb}
use Rattle.ufs_found.proofs.Buckets.{filter_all}
use Rattle.std.proofs.lemmas.List.{length-append, length-map, map-append, take-append-le, take_all, take-map, get_or-take, get_or_default, length-take}
use Rattle.std.proofs.lemmas.List.Elements.{All-nil, All-cons, All-head, All-tail}
use Rattle.std.proofs.Math.ListN.{get_or-append}
use Rattle.std.proofs.Math.Seq.{get_or-append_seam}
use Rattle.ufs_scan.specs.Edits.{Effect, StepValue, IsNet, AreNets, effects, after, outkeeps, edited, outkept}

pub edited_append : (es fs : List Effect) (count : ℕ) → edited (es ++ fs) count ≡ edited fs (edited es count)
edited_append [] fs count = refl
edited_append (e ∷ es) fs count = edited_append es fs (after count e)

pub outkept_append : (es fs : List Effect) (count : ℕ) → outkept (es ++ fs) count ≡ outkept es count ++ outkept fs (edited es count)
outkept_append [] fs count = refl
outkept_append (e ∷ es) fs count =
    let here : List ℕ = if outkeeps count e then e.sector ∷ [] else [] in
    ap (λ (l : List ℕ). here ++ l) (outkept_append es fs (after count e)) ∙ sym (append_assoc here (outkept es (after count e)) (outkept fs (edited es (after count e))))

-- one more, behind what is known of those before
pub net_behind : (last : StepValue) (es : List Effect) (e : Effect) → IsNet last es → (k m a : ℕ) → k ≡ min (e.keep - last.gained) last.kept → m ≡ min e.keep last.gained → a ≡ e.added
    → (count : ℕ) → min k count + (m + a) ≡ edited (es ++ e ∷ []) count
net_behind last es e net k m a k_is m_is a_is count =
    let same : min k count + (m + a) ≡ min e.keep (min last.kept count + last.gained) + e.added = omega (arith, k_is, m_is, a_is) in
    same ∙ ap (λ n. min e.keep n + e.added) (net count) ∙ sym (edited_append es (e ∷ []) count)

pub flat_map_map : {X Y Z : Type 0} (now : X → Y) (F : Y → List Z) (xs : List X) → flat_map (λ x. F (now x)) xs ≡ flat_map F (map now xs)
flat_map_map now F [] = refl
flat_map_map {X} {Y} {Z} now F (x ∷ xs) = ap (λ (l : List Z). F (now x) ++ l) (flat_map_map now F xs)

pub filter_map_after : {X Y : Type 0} (f : X → Y) (p : Y → Bool) (xs : List X) → filter p (map f xs) ≡ map f (filter (λ x. p (f x)) xs)
filter_map_after f p [] = refl
filter_map_after {X} {Y} f p (x ∷ xs) = by (p (f x)) (filter_map_after f p xs)
  where
    by : (b : Bool) → filter p (map f xs) ≡ map f (filter (λ x. p (f x)) xs) → (if b then f x ∷ filter p (map f xs) else filter p (map f xs)) ≡ map f (if b then x ∷ filter (λ x. p (f x)) xs else filter (λ x. p (f x)) xs)
    by true rest = ap (λ (l : List Y). f x ∷ l) rest
    by false rest = rest

pub nets_more : (steps : List StepValue) (s : StepValue) → AreNets steps → IsNet s (effects steps ++ s.edit.does ∷ []) → AreNets (steps ++ s ∷ [])
nets_more steps s are is = λ i d lt count.
    let long : length (steps ++ s ∷ []) ≡ length steps + 1 = length-append steps (s ∷ []) in
    let all : effects (steps ++ s ∷ []) ≡ effects steps ++ s.edit.does ∷ [] = map-append (λ (t : StepValue). t.edit.does) steps (s ∷ []) in
    let same : length (effects steps) ≡ length steps = length-map steps (λ (t : StepValue). t.edit.does) in
    elim (cases_lt i (length steps)) [
      | inl less ↦ (λ j. min (get_or-append steps (s ∷ []) d i less j).kept count + (get_or-append steps (s ∷ []) d i less j).gained) ∙ are i d less count
          ∙ sym (ap (λ l. edited (take (i + 1) l) count) all ∙ ap (λ l. edited l count) (take-append-le (i + 1) (effects steps) (s.edit.does ∷ []) (omega (arith, less, same))))
      | inr le ↦ (let at : i ≡ length steps = omega (arith, lt, le, long) in
          (λ j. min (get_or (steps ++ s ∷ []) (at j) d).kept count + (get_or (steps ++ s ∷ []) (at j) d).gained)
          ∙ (λ j. min (get_or-append_seam steps s [] d j).kept count + (get_or-append_seam steps s [] d j).gained) ∙ is count
          ∙ sym (ap (λ l. edited (take (i + 1) l) count) all ∙ ap (λ l. edited l count) (take_all (i + 1) (effects steps ++ s.edit.does ∷ []) (omega (arith, at, same, length-append (effects steps) (s.edit.does ∷ []))))))
    ]

-- the last of them
pub net_last : (steps : List StepValue) (s : StepValue) → AreNets steps → 0 < length steps → s ≡ get_or steps (length steps - 1) s → IsNet s (effects steps)
net_last steps s are some is = λ count.
    (λ j. min (is j).kept count + (is j).gained) ∙ are (length steps - 1) s (omega (arith, some)) count
    ∙ ap (λ l. edited l count) (take_all (length steps - 1 + 1) (effects steps) (omega (arith, some, length-map steps (λ (t : StepValue). t.edit.does))))

take_within : {X : Type 0} (n m : ℕ) (xs : List X) → n ≤ m → take n (take m xs) ≡ take n xs
take_within zero m xs le = refl
take_within (suc n) zero xs le = absurd (omega (arith, le))
take_within (suc n) (suc m) [] le = refl
take_within (suc n) (suc m) (x ∷ xs) le = ap (λ l. x ∷ l) (take_within n m xs (omega (arith, le)))

-- so many of them
pub nets_take : (m : ℕ) (steps : List StepValue) → AreNets steps → AreNets (take m steps)
nets_take m steps are = λ i d lt count.
    let less : i < m = omega (arith, lt, length-take m steps) in
    let within : i < length steps = omega (arith, lt, length-take m steps) in
    (λ j. min (get_or-take m steps i d less j).kept count + (get_or-take m steps i d less j).gained) ∙ are i d within count
    ∙ sym (ap (λ l. edited (take (i + 1) l) count) (sym (take-map (λ (s : StepValue). s.edit.does) m steps)) ∙ ap (λ l. edited l count) (take_within (i + 1) m (effects steps) (omega (arith, less))))

-- the next one of a part
pub drop_taken : {X : Type 0} (xs : List X) (p to : ℕ) (x : X) → p < to → to ≤ length xs → x ≡ get_or xs p x → drop p (take to xs) ≡ x ∷ drop (p + 1) (take to xs)
drop_taken xs p to x less le is =
    drop-cons (take to xs) p x (omega (arith, less, le, length-take to xs))
    ∙ (λ j. (get_or-take to xs p x less ∙ sym is) j ∷ drop (sym (add-one p) j) (take to xs))

pub of_all : {X Y : Type 0} (now : X → Y) (P : Y → Type 0) (xs : List X) → All (λ x. P (now x)) xs → All P (map now xs)
of_all now P [] every = All-nil P
of_all now P (x ∷ xs) every = All-cons P (now x) (map now xs) (All-head (λ x. P (now x)) x xs every) (of_all now P xs (All-tail (λ x. P (now x)) x xs every))

-- where the last stands below an index, all do
pub all_below : (steps : List StepValue) (last : StepValue) (index : ℕ) → IsNonDecreasingBy (λ (s : StepValue). s.edit.index) steps → 0 < length steps → last ≡ get_or steps (length steps - 1) last → last.edit.index < index
    → steps ≡ filter (λ (s : StepValue). nat_lt s.edit.index index) steps
all_below steps last index up some is less =
    sym (filter_all (λ (s : StepValue). nat_lt s.edit.index index) steps (λ k d lt.
    let le = up k (length steps - 1) d (omega (arith, lt)) (omega (arith, some)) in
    let end : get_or steps (length steps - 1) d ≡ last = get_or_default steps (length steps - 1) d last (omega (arith, some)) ∙ sym is in
    lt-ltb _ index (omega (arith, le, less, ap (λ (s : StepValue). s.edit.index) end))))
