-- Faults and the refusals of the model.
use Rattle.std.proofs.Common.{◌≡◌, ℕ, ◌≤◌, List, [], ◌∷◌, Bool, true, false, not, ◌&&◌, ◌-◌, ltb, eqb, length, filter, drop, get_or, suc, ◌+◌, ◌<◌, arith, Option, Some, None, IfSome, IsSome, ap, sym, subst, refl, ◌∙◌, option_and_then, drop-cons, add-one}
use Rattle.std.proofs.lemmas.Bool.{cond-true, eq-eqb, le-ltb, eqb-false}
use Rattle.std.specs.List.{list_all}
use Rattle.ufs_model.specs.declared.data.Errno.{Errno}
use Rattle.ufs_model.specs.declared.data.Errno.TheVariants.{Einval, Enametoolong}
use Rattle.ufs_base.specs.Choices.{first_of, refused_if}
use Rattle.ufs_model.specs.Paths.{components, component_refusal, components_refusal, text_refusal, in_range, is_dots, ends_in_slash, has_component}
use Rattle.ufs_path.specs.declared.fault.PathFault.{PathFault}
use Rattle.ufs_path.specs.declared.fault.PathFault.TheVariants.{NotAbsolute, TooLong, BadComponent, NameTooLong, TrailingSlash}
use Rattle.ufs_path.specs.Faults.{name_fault, names_fault, first_fault, errno_of}
use Rattle.ufs_model.proofs.Facts.Pieces.{is_some_name, pieces}
use Rattle.ufs_path.proofs.SplitLemmas.{some_bytes, has_component-components}

-- ---- what a client is told

of_name : (a d l : Bool) (next : Option PathFault) (after : Option Errno) → option_and_then errno_of next ≡ after
    → option_and_then errno_of (first_of (first_of (refused_if a BadComponent) (first_of (refused_if d BadComponent) (refused_if l NameTooLong))) next)
    ≡ first_of (first_of (refused_if a Einval) (first_of (refused_if d Einval) (refused_if l Enametoolong))) after
of_name true d l next after e = refl
of_name false true l next after e = refl
of_name false false true next after e = refl
of_name false false false next after e = e

reassociate : {X : Type 0} (a b c : Option X) → first_of (first_of a b) c ≡ first_of a (first_of b c)
reassociate None b c = refl
reassociate (Some f) b c = refl

of_names : (names : List (List ℕ)) (next : Option PathFault) → option_and_then errno_of (first_of (names_fault names) next) ≡ first_of (components_refusal names) (option_and_then errno_of next)
of_names [] next = refl
of_names (name ∷ names) next =
    ap (option_and_then errno_of) (reassociate (name_fault name) (names_fault names) next)
    ∙ of_name (not (list_all in_range name)) (is_dots name) (ltb 58 (length name)) _ _ (of_names names next)
    ∙ sym (reassociate (component_refusal name) (components_refusal names) (option_and_then errno_of next))

of_text : (a l s : Bool) (names : List (List ℕ))
    → option_and_then errno_of (first_of (refused_if a NotAbsolute) (first_of (refused_if l TooLong) (first_of (names_fault names) (refused_if s TrailingSlash))))
    ≡ first_of (refused_if a Einval) (first_of (refused_if l Enametoolong) (first_of (components_refusal names) (refused_if s Einval)))
of_text true l s names = refl
of_text false true s names = refl
of_text false false true names = of_names names (Some TrailingSlash)
of_text false false false names = of_names names None

pub errno_of-first_fault : (path : List ℕ) → option_and_then errno_of (first_fault path) ≡ text_refusal path
errno_of-first_fault [] = refl
errno_of-first_fault (b ∷ bs) = of_text (not (eqb b 47)) (ltb 1023 (length (b ∷ bs))) _ (components (b ∷ bs))

-- ---- pieces without bytes have no fault

pub names_fault-filter : (ps : List (List ℕ)) → names_fault (filter is_some_name ps) ≡ names_fault ps
names_fault-filter [] = refl
names_fault-filter ([] ∷ ps) = names_fault-filter ps
names_fault-filter ((b ∷ p) ∷ ps) = ap names_fault (cond-true (is_some_name (b ∷ p)) _ _ (some_bytes b p)) ∙ ap (first_of (name_fault (b ∷ p))) (names_fault-filter ps)

-- ---- a look at the pieces in turn

pub names_fault-components : (bs : List ℕ) → names_fault (components bs) ≡ names_fault (pieces bs)
names_fault-components bs = names_fault-filter (pieces bs)

pub names_fault-next : (ps : List (List ℕ)) (k : ℕ) (p : List ℕ) → k < length ps → p ≡ get_or ps k p → names_fault (drop k ps) ≡ first_of (name_fault p) (names_fault (drop (k + 1) ps))
names_fault-next ps k p below is =
    ap names_fault (drop-cons ps k p below)
    ∙ ap (λ q. first_of (name_fault q) (names_fault (drop (suc k) ps))) (sym is)
    ∙ ap (λ n. first_of (name_fault p) (names_fault (drop n ps))) (sym (add-one k))

pub found : (o : Option PathFault) (f : PathFault) (next : Option PathFault) → o ≡ Some f → first_of o next ≡ Some f
found o f next e = ap (λ o. first_of o next) e

pub passed : (o next : Option PathFault) → o ≡ None → first_of o next ≡ next
passed o next e = ap (λ o. first_of o next) e

-- ---- the end of a text

pub ends_in_slash-at : (text : List ℕ) → 1 ≤ length text → eqb (get_or text (length text - 1) 0) 47 ≡ ends_in_slash text
ends_in_slash-at [] some = absurd (omega arith)
ends_in_slash-at (b ∷ []) some = refl
ends_in_slash-at (b ∷ c ∷ bs) some =
    let place : length (b ∷ c ∷ bs) - 1 ≡ suc (length (c ∷ bs) - 1) = omega arith in
    ap (λ k. eqb (get_or (b ∷ c ∷ bs) k 0) 47) place ∙ ends_in_slash-at (c ∷ bs) (omega arith)

-- ---- the tests in turn

and_swapped : (a b : Bool) → (a && b) ≡ (b && a)
and_swapped true true = refl
and_swapped true false = refl
and_swapped false true = refl
and_swapped false false = refl

alone : (t : Bool) → false ≡ (t && not (t && true))
alone true = refl
alone false = refl

trailing : (b : ℕ) (bs : List ℕ) → (has_component (components (b ∷ bs)) && ends_in_slash bs) ≡ (ends_in_slash (b ∷ bs) && not (list_all (λ b. eqb b 47) (b ∷ bs)))
trailing b [] = and_swapped (has_component (components (b ∷ []))) false ∙ alone (eqb b 47)
trailing b (c ∷ bs) = and_swapped (has_component (components (b ∷ c ∷ bs))) (ends_in_slash (c ∷ bs)) ∙ ap (λ t. ends_in_slash (c ∷ bs) && t) (sym (has_component-components (b ∷ c ∷ bs)))

-- after the tests of the first byte and the length
pub first_fault-names : (path : List ℕ) → 1 ≤ length path → get_or path 0 0 ≡ 47 → length path ≤ 1023
    → first_fault path ≡ first_of (names_fault (components path)) (refused_if (ends_in_slash path && not (list_all (λ b. eqb b 47) path)) TrailingSlash)
first_fault-names [] some first short = absurd (omega arith)
first_fault-names (b ∷ bs) some first short =
    ap (λ a. first_of (refused_if (not a) NotAbsolute) (first_of (refused_if (ltb 1023 (length (b ∷ bs))) TooLong) (first_of (names_fault (components (b ∷ bs))) (refused_if (has_component (components (b ∷ bs)) && ends_in_slash bs) TrailingSlash)))) (eq-eqb b 47 first)
    ∙ ap (λ l. first_of (refused_if l TooLong) (first_of (names_fault (components (b ∷ bs))) (refused_if (has_component (components (b ∷ bs)) && ends_in_slash bs) TrailingSlash))) (le-ltb 1023 (length (b ∷ bs)) short)
    ∙ ap (λ s. first_of (names_fault (components (b ∷ bs))) (refused_if s TrailingSlash)) (trailing b bs)

pub not_empty : (path : List ℕ) (t : Bool) → t ≡ eqb (length path) 0 → t ≡ false → 1 ≤ length path
not_empty path t is isnt = let h : length path ≡ 0 → ⊥ = eqb-false (length path) 0 (sym is ∙ isnt) in omega arith

-- ---- every fault of a text has an errno

abbrev IsTold : Option PathFault → Type 0
IsTold o = IfSome o (λ fault. IsSome (errno_of fault))

told_first : (a b : Option PathFault) → IsTold a → IsTold b → IsTold (first_of a b)
told_first None b p q = q
told_first (Some f) b p q = p

told_name : (a d l : Bool) → IsTold (first_of (refused_if a BadComponent) (first_of (refused_if d BadComponent) (refused_if l NameTooLong)))
told_name true d l = refl
told_name false true l = refl
told_name false false true = refl
told_name false false false = tt

pub told_names : (names : List (List ℕ)) → IsTold (names_fault names)
told_names [] = tt
told_names (name ∷ names) = told_first (name_fault name) (names_fault names) (told_name (not (list_all in_range name)) (is_dots name) (ltb 58 (length name))) (told_names names)

pub told_along : (o : Option PathFault) (fault : PathFault) → IsTold o → o ≡ Some fault → IsSome (errno_of fault)
told_along o fault told e = subst IsTold e told
