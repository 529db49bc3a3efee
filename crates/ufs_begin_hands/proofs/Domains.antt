-- Two maps with a value at the same keys have these keys in the same order.
use Rattle.std.proofs.Common.{◌≡◌, ℕ, Bool, true, false, cond, ◌&&◌, T, List, [], ◌∷◌, map, Option, Some, None, is_some, ap, sym, refl, ◌∙◌, subst}
use Rattle.std.specs.Cmp.{nat_cmp_total}
use Rattle.std.specs.Ordering.{eq_by_cmp, is_lt, nat_cmp}
use Rattle.std.specs.FinMap as fin
use Rattle.std.specs.FinMap.{get-entries, nat_cmp-IsAntisymmetric}
use Rattle.std.specs.FinMap.Entries.{below_all, same_entries}
use Rattle.ufs_file.specs.Hand.{FileState}
use Rattle.ufs_model.specs.PosixTree.{PosixTree}
use Rattle.ufs_model.proofs.Facts.Rising.{entries-rise}
use Rattle.ufs_promise_laws.specs.Parts.{Parts}
use Rattle.ufs_promise_laws.specs.Stored.{ArePartsOf}

-- the keys alone
abbrev bare : {X : Type 0} → List (ℕ × X) → List (ℕ × Unit {0})
bare [] = []
bare (e ∷ es) = (e.0, tt) ∷ bare es

abbrev marked : {X : Type 0} → Option X → Option (Unit {0})
marked None = None
marked (Some x) = Some tt

module _ {X : Type 0} where
  keys_bare : (es : List (ℕ × X)) → map (λ e. e.0) (bare es) ≡ map (λ e. e.0) es
  keys_bare [] = refl
  keys_bare (e ∷ es) = ap (λ rest. e.0 ∷ rest) (keys_bare es)

  below_bare : (k : ℕ) (es : List (ℕ × X)) → below_all nat_cmp k (bare es) ≡ below_all nat_cmp k es
  below_bare k [] = refl
  below_bare k (e ∷ es) = ap (λ b. is_lt (nat_cmp k e.0) && b) (below_bare k es)

  sorted_bare : (es : List (ℕ × X)) → fin.is_sorted nat_cmp (bare es) ≡ fin.is_sorted nat_cmp es
  sorted_bare [] = refl
  sorted_bare (e ∷ es) = λ i. below_bare e.0 es i && sorted_bare es i

  find_bare : (q : ℕ) (es : List (ℕ × X)) → fin.find nat_cmp q (bare es) ≡ marked (fin.find nat_cmp q es)
  find_bare q [] = refl
  find_bare q (e ∷ es) = by (eq_by_cmp nat_cmp q e.0) (find_bare q es)
    where
      by : (b : Bool) → fin.find nat_cmp q (bare es) ≡ marked (fin.find nat_cmp q es) → cond b (Some tt) (fin.find nat_cmp q (bare es)) ≡ marked (cond b (Some e.1) (fin.find nat_cmp q es))
      by true rest = refl
      by false rest = rest

module _ {X Y : Type 0} where
  same_marks : (o : Option X) (p : Option Y) → is_some o ≡ is_some p → marked o ≡ marked p
  same_marks None None is = refl
  same_marks (Some x) (Some y) is = refl
  same_marks None (Some y) is = (let off : false ≡ true = is in absurd cc)
  same_marks (Some x) None is = (let off : false ≡ true = sym is in absurd cc)

  pub same_keys : (m : fin.FinMap nat_cmp X) (n : fin.FinMap nat_cmp Y) → ((q : ℕ) → is_some (fin.get m q) ≡ is_some (fin.get n q)) → fin.keys m ≡ fin.keys n
  same_keys m n same =
      let es = fin.entries m in
      let fs = fin.entries n in
      let all : bare es ≡ bare fs = same_entries nat_cmp nat_cmp_total nat_cmp-IsAntisymmetric (bare es) (bare fs)
      (subst T (sym (sorted_bare es ∙ entries-rise m)) tt) (subst T (sym (sorted_bare fs ∙ entries-rise n)) tt)
      (λ q. find_bare q es ∙ ap marked (sym (get-entries m q)) ∙ same_marks (fin.get m q) (fin.get n q) (same q) ∙ ap marked (get-entries n q) ∙ sym (find_bare q fs)) in
      sym (keys_bare es) ∙ ap (map (λ e. e.0)) all ∙ keys_bare fs

-- ---- the names tell of just the files that are here

same_tests : (a b : Bool) → (a ≡ true → b ≡ true) → (b ≡ true → a ≡ true) → a ≡ b
same_tests true true to back = refl
same_tests false false to back = refl
same_tests true false to back = sym (to refl)
same_tests false true to back = back refl

pub live_here : (p : Parts) (t : PosixTree) → ArePartsOf p t → fin.keys p.names.held ≡ fin.keys p.files
live_here p t parts = same_keys p.names.held p.files (λ q. same_tests (is_some (fin.get p.names.held q)) (is_some (fin.get p.files q)) (parts.here q) (λ here. by q (fin.get p.files q) refl here))
  where
    by : (q : ℕ) (o : Option FileState) → fin.get p.files q ≡ o → is_some o ≡ true → is_some (fin.get p.names.held q) ≡ true
    by q None at here = (let off : false ≡ true = here in absurd cc)
    by q (Some f) at here =
        let it = parts.files q f at in
        parts.names.told q ∙ ap (λ n. is_some (fin.get t.bytes n)) (sym it.0) ∙ ap is_some it.1.has
