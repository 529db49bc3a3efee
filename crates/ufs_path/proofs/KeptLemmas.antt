-- The bytes of a whole path and the ends of its components.
use Rattle.std.proofs.Common.{◌≡◌, ℕ, zero, suc, ◌+◌, ◌-◌, ◌≤◌, ◌<◌, List, [], ◌∷◌, ◌++◌, None, Some, slice_get, length, filter, take, drop, get_or, max, ap, sym, refl, subst, ◌∙◌, arith, length-append, drop-cons, slice_range, add-zero}
use Rattle.std.proofs.lemmas.List.{take-append-drop, take_more, take_all, get_or_default}
use Rattle.std.proofs.lemmas.Option.{slice_get-get_or}
use Rattle.std.proofs.lemmas.List.Elements.{filter-append}
use Rattle.std.proofs.Math.Seq.{take-append_seam, drop-append-add}
use Rattle.std.specs.List.{AllByRecursion}
use Rattle.ufs_model.specs.Paths.{components, whole_path, text_refusal, IsWhole}
use Rattle.ufs_model.proofs.Facts.Allowed.{names_of_whole, whole_is}
use Rattle.ufs_model.proofs.Facts.Pieces.{is_some_name, components_of}
use Rattle.ufs_path.specs.Names.{IsName}
use Rattle.ufs_path.specs.Texts.{joined, ends_from, IsKept}
use Rattle.ufs_path.proofs.Facts.Joined.{whole_path-joined, joined-append}
use Rattle.ufs_path.proofs.NameLemmas.{components_may_stand, components_are_names, names_plain}

pub ends_from-append : (at : ℕ) (xs ys : List (List ℕ)) → ends_from at (xs ++ ys) ≡ ends_from at xs ++ ends_from (at + length (joined xs)) ys
ends_from-append at [] ys = ap (λ n. ends_from n ys) (sym (add-zero at))
ends_from-append at (x ∷ xs) ys =
    let place : at + 1 + length x + length (joined xs) ≡ at + length (joined (x ∷ xs)) = omega (arith, length-append x (joined xs)) in
    ap (λ rest. (at + 1 + length x) ∷ rest) (ends_from-append (at + 1 + length x) xs ys ∙ ap (λ n. ends_from (at + 1 + length x) xs ++ ends_from n ys) place)

pub length-ends_from : (at : ℕ) (names : List (List ℕ)) → length (ends_from at names) ≡ length names
length-ends_from at [] = refl
length-ends_from at (name ∷ names) = ap suc (length-ends_from (at + 1 + length name) names)

pub get_or-ends_from : (at : ℕ) (names : List (List ℕ)) (i : ℕ) → i < length names → get_or (ends_from at names) i 0 ≡ at + length (joined (take (suc i) names))
get_or-ends_from at [] i below = absurd (omega arith)
get_or-ends_from at (name ∷ names) zero below = omega (arith, length-append name [])
get_or-ends_from at (name ∷ names) (suc i) below =
    get_or-ends_from (at + 1 + length name) names i (omega arith) ∙ omega (arith, length-append name (joined (take (suc i) names)))

-- ---- the bytes that are kept

-- of a whole path that isn't the root's
pub kept_joined : (bytes : List ℕ) → IsWhole bytes → 0 < length (components bytes) → bytes ≡ joined (components bytes)
kept_joined bytes whole some = by (components bytes) whole.spelled some
  where
    by : (names : List (List ℕ)) → whole_path names ≡ bytes → 0 < length names → bytes ≡ joined names
    by [] e h = absurd (omega arith)
    by (name ∷ names) e h = sym e ∙ whole_path-joined name names

-- the names before a place, the one at it, and those after it
parted : (names : List (List ℕ)) (i : ℕ) (d : List ℕ) → i < length names → joined names ≡ joined (take i names) ++ (47 ∷ (get_or names i d ++ joined (drop (suc i) names)))
parted names i d below =
    ap joined (sym (take-append-drop i names)) ∙ joined-append (take i names) (drop i names)
    ∙ ap (λ rest. joined (take i names) ++ joined rest) (drop-cons names i d below)

length_parted : (names : List (List ℕ)) (i : ℕ) (d : List ℕ) → i < length names → length (joined (take (suc i) names)) ≡ length (joined (take i names)) + 1 + length (get_or names i d)
length_parted [] i d below = absurd (omega arith)
length_parted (name ∷ names) zero d below = omega (arith, length-append name [])
length_parted (name ∷ names) (suc i) d below =
    omega (arith, length_parted names i d (omega arith), length-append name (joined (take (suc i) names)), length-append name (joined (take i names)))

pub part-joined : (names : List (List ℕ)) (i : ℕ) (d : List ℕ) → i < length names → slice_range (joined names) (length (joined (take i names)) + 1) (length (joined (take (suc i) names))) ≡ get_or names i d
part-joined names i d below =
    let front = joined (take i names) in
    let name = get_or names i d in
    let rest = joined (drop (suc i) names) in
    let size : length (joined (take (suc i) names)) - (length front + 1) ≡ length name = omega (arith, length_parted names i d below) in
    ap (λ n. take n (drop (length front + 1) (joined names))) size
    ∙ ap (λ bytes. take (length name) (drop (length front + 1) bytes)) (parted names i d below)
    ∙ ap (take (length name)) (drop-append-add front (47 ∷ (name ++ rest)) 1)
    ∙ take-append_seam name rest

pub ends_within : (names : List (List ℕ)) (count : ℕ) → length (joined (take count names)) ≤ length (joined names)
ends_within names count =
    omega (arith, ap length (joined-append (take count names) (drop count names)), ap (λ ns. length (joined ns)) (take-append-drop count names), length-append (joined (take count names)) (joined (drop count names)))

pub front-joined : (names : List (List ℕ)) (count : ℕ) → take (length (joined (take count names))) (joined names) ≡ joined (take count names)
front-joined names count =
    ap (take (length (joined (take count names)))) (ap joined (sym (take-append-drop count names)) ∙ joined-append (take count names) (drop count names))
    ∙ take-append_seam (joined (take count names)) (joined (drop count names))

first_slash : (names : List (List ℕ)) → (1 ≤ length (whole_path names)) × (take 1 (whole_path names) ≡ 47 ∷ [])
first_slash [] = (omega arith, refl)
first_slash (name ∷ []) = (omega arith, refl)
first_slash (name ∷ next ∷ names) = (omega arith, refl)

some_joined : (names : List (List ℕ)) (count : ℕ) → suc count ≤ length names → 1 ≤ length (joined (take (suc count) names))
some_joined [] count within = absurd (omega arith)
some_joined (name ∷ names) count within = omega arith

whole_front : (names : List (List ℕ)) (count : ℕ) → suc count ≤ length names → joined (take (suc count) names) ≡ whole_path (take (suc count) names)
whole_front [] count within = absurd (omega arith)
whole_front (name ∷ names) count within = sym (whole_path-joined name (take count names))

-- ---- what is kept, for the names that it stands for

module _ (bytes ends : List ℕ) (names : List (List ℕ)) (kept : IsKept bytes ends) (are : components bytes ≡ names) where
  pub kept_length : length ends ≡ length names
  kept_length = ap length (kept.ends_are ∙ ap (ends_from 0) are) ∙ length-ends_from 0 names

  pub kept_end : (i d : ℕ) → i < length names → get_or ends i d ≡ length (joined (take (suc i) names))
  kept_end i d below =
      let zeroed : 0 + length (joined (take (suc i) names)) ≡ length (joined (take (suc i) names)) = omega arith in
      get_or_default ends i d 0 (omega (arith, kept_length)) ∙ ap (λ l. get_or l i 0) (kept.ends_are ∙ ap (ends_from 0) are) ∙ get_or-ends_from 0 names i below ∙ zeroed

  pub kept_whole : bytes ≡ whole_path names
  kept_whole = sym kept.whole.spelled ∙ ap whole_path are

  pub kept_bytes : 0 < length names → bytes ≡ joined names
  kept_bytes some = kept_joined bytes kept.whole (omega (arith, ap length are)) ∙ ap joined are

  pub kept_names : AllByRecursion IsName names
  kept_names = subst (AllByRecursion IsName) are (components_may_stand bytes kept.whole.allowed)

  pub kept_part : (i end start : ℕ) (d : List ℕ) → i < length names → end ≡ length (joined (take (suc i) names)) → start ≡ length (joined (take i names)) → slice_range bytes (start + 1) end ≡ get_or names i d
  kept_part i end start d below e s =
      ap (λ b. slice_range b (start + 1) end) (kept_bytes (omega arith))
      ∙ ap (λ n. slice_range (joined names) (n + 1) end) s
      ∙ ap (slice_range (joined names) (length (joined (take i names)) + 1)) e
      ∙ part-joined names i d below

  pub kept_range : (i : ℕ) (d : List ℕ) → i < length names → (length (joined (take i names)) + 1 ≤ length (joined (take (suc i) names))) × (length (joined (take (suc i) names)) ≤ length bytes)
  kept_range i d below = (
    omega (arith, length_parted names i d below),
    omega (arith, ends_within names (suc i), ap length (kept_bytes (omega arith))),
  )

  front_by : (count : ℕ) → count ≤ length names → (max (length (joined (take count names))) 1 ≤ length bytes) × (take (max (length (joined (take count names))) 1) bytes ≡ whole_path (take count names))
  front_by zero within = subst (λ b. (1 ≤ length b) × (take 1 b ≡ 47 ∷ [])) (sym kept_whole) (first_slash names)
  front_by (suc count) within =
      let front = joined (take (suc count) names) in
      let some : 1 ≤ length front = some_joined names count within in
      let size : max (length front) 1 ≡ length front = omega arith in
      let bytes_are = kept_bytes (omega arith) in (
        omega (arith, ends_within names (suc count), ap length bytes_are),
        ap (λ n. take n bytes) size ∙ ap (take (length front)) bytes_are ∙ front-joined names (suc count) ∙ whole_front names count within,
      )

  pub kept_front : (count end : ℕ) → count ≤ length names → end ≡ max (length (joined (take count names))) 1 → (end ≤ length bytes) × (take end bytes ≡ whole_path (take count names))
  kept_front count end within e = subst (λ n. (n ≤ length bytes) × (take n bytes ≡ whole_path (take count names))) (sym e) (front_by count within)

-- ---- to read a text piece by piece

pub joined-next : (ps : List (List ℕ)) (k : ℕ) (p : List ℕ) → k < length ps → p ≡ get_or ps k p → joined (filter is_some_name (take (k + 1) ps)) ≡ joined (filter is_some_name (take k ps)) ++ joined (filter is_some_name (p ∷ []))
joined-next ps k p below is =
    ap (λ qs. joined (filter is_some_name qs)) (take_more ps k p below)
    ∙ ap joined (filter-append is_some_name (take k ps) (get_or ps k p ∷ []))
    ∙ joined-append (filter is_some_name (take k ps)) (filter is_some_name (get_or ps k p ∷ []))
    ∙ ap (λ q. joined (filter is_some_name (take k ps)) ++ joined (filter is_some_name (q ∷ []))) (sym is)

pub ends-next : (ps : List (List ℕ)) (k : ℕ) (p : List ℕ) → k < length ps → p ≡ get_or ps k p → ends_from 0 (filter is_some_name (take (k + 1) ps)) ≡ ends_from 0 (filter is_some_name (take k ps)) ++ ends_from (length (joined (filter is_some_name (take k ps)))) (filter is_some_name (p ∷ []))
ends-next ps k p below is =
    let front = filter is_some_name (take k ps) in
    let zeroed : 0 + length (joined front) ≡ length (joined front) = omega arith in
    ap (λ qs. ends_from 0 (filter is_some_name qs)) (take_more ps k p below)
    ∙ ap (ends_from 0) (filter-append is_some_name (take k ps) (get_or ps k p ∷ []))
    ∙ ends_from-append 0 front (filter is_some_name (get_or ps k p ∷ []))
    ∙ ap (λ n. ends_from 0 front ++ ends_from n (filter is_some_name (get_or ps k p ∷ []))) zeroed
    ∙ ap (λ q. ends_from 0 front ++ ends_from (length (joined front)) (filter is_some_name (q ∷ []))) (sym is)

kept_by : (bytes ends : List ℕ) (names : List (List ℕ)) → AllByRecursion IsName names → IsWhole (whole_path names) → bytes ≡ whole_path names → ends ≡ ends_from 0 names → IsKept bytes ends
kept_by bytes ends names each whole e f = record {
  whole = subst IsWhole (sym e) whole;
  ends_are = f ∙ ap (ends_from 0) (sym (components_of names (names_plain names each)) ∙ ap components (sym e));
}

-- what was read of a text that isn't refused
pub kept_of_text : (path bytes ends : List ℕ) → text_refusal path ≡ None → bytes ≡ whole_path (components path) → ends ≡ ends_from 0 (components path) → IsKept bytes ends
kept_of_text path bytes ends e b f = kept_by bytes ends (components path) (components_are_names path e) (whole_is path e) b f

pub components_of_whole : (path bytes : List ℕ) → text_refusal path ≡ None → bytes ≡ whole_path (components path) → components bytes ≡ components path
components_of_whole path bytes e b = ap components b ∙ names_of_whole path

-- the root's path has one slash, and every other path is there as it is
pub whole_path-some : (bytes : List ℕ) (names : List (List ℕ)) → bytes ≡ joined names → (length bytes ≡ 0 → ⊥) → bytes ≡ whole_path names
whole_path-some bytes [] e some = absurd (some (ap length e))
whole_path-some bytes (name ∷ names) e some = e ∙ sym (whole_path-joined name names)

pub whole_path-none : (bytes : List ℕ) (names : List (List ℕ)) → bytes ≡ joined names → length bytes ≡ 0 → bytes ++ 47 ∷ [] ≡ whole_path names
whole_path-none bytes [] e none = ap (λ b. b ++ 47 ∷ []) e
whole_path-none bytes (name ∷ names) e none = absurd (let h : length bytes ≡ suc (length (name ++ joined names)) = ap length e in omega arith)

pub last_parted : (xs : List (List ℕ)) (n : ℕ) (x : List ℕ) → n ≡ length xs → 0 < length xs → slice_get xs (n - 1) ≡ Some x → xs ≡ take (length xs - 1) xs ++ x ∷ []
last_parted xs n x e some at =
    let below : n - 1 < length xs = omega arith in
    let whole : (length xs - 1) + 1 ≡ length xs = omega arith in
    let place : length xs - 1 ≡ n - 1 = omega arith in
    let is : get_or xs (n - 1) [] ≡ x = cc (slice_get-get_or xs (n - 1) [] below) in
    sym (take_all (length xs) xs (omega arith))
    ∙ ap (λ k. take k xs) (sym whole)
    ∙ take_more xs (length xs - 1) [] (omega arith)
    ∙ ap (λ y. take (length xs - 1) xs ++ y ∷ []) (ap (λ k. get_or xs k []) place ∙ is)

pub front_length : (n : ℕ) (xs : List ℕ) → n ≤ length xs → n ≡ length (take n xs)
front_length zero xs h = refl
front_length (suc n) [] h = absurd (omega arith)
front_length (suc n) (x ∷ xs) h = ap suc (front_length n xs (omega arith))
