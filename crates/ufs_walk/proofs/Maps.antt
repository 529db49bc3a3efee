-- Maps of places.
use Rattle.std.proofs.Common.{◌≡◌, ℕ, List, [], ◌∷◌, ◌++◌, Bool, true, false, cond, Option, Some, None, length, refl, ap, sym, ◌∙◌, subst, arith}
use Rattle.std.specs.Prelude.{map, is_some, T, Result, Ok, Err, IfOk}
use Rattle.std.proofs.lemmas.List.{map-append}
use Rattle.std.specs.Option.{option_map}
use Rattle.std.specs.Ordering.{eq_by_cmp}
use Rattle.std.specs.declared.cmp.Ordering.TheVariants.{Less, Equal, Greater}
use Rattle.std.specs.FinMap as fin
use Rattle.std.specs.FinMap.{FinMap, find, from_entries, get-from_entries, same_map, from_entries_push}
use Rattle.std.specs.FinMap.Entries.{put, by_order}
use Rattle.std.specs.List.{AllByRecursion}
use Rattle.std.specs.declared.cmp.Ordering.{Ordering}
use Rattle.ufs_model.specs.Order.{path_cmp}
use Rattle.ufs_model.proofs.Facts.Lookups.{tied}
use Rattle.ufs_model.proofs.Facts.Orders.{path_total, path_same}
use Rattle.ufs_walk.specs.Walked.{Place, pairs_of}
use Rattle.ufs_walk.specs.declared.places.PathAt.{PathAt}

abbrev first : Option ℕ → Option ℕ → Option ℕ
first None o = o
first (Some x) o = Some x

find_push : (es : List Place) (p : Place) (q : List ℕ) → find path_cmp q (es ++ p ∷ []) ≡ first (find path_cmp q es) (cond (eq_by_cmp path_cmp q p.0) (Some p.1) None)
find_push [] p q = refl
find_push (e ∷ es) p q = by (eq_by_cmp path_cmp q e.0) (find_push es p q)
  where
    by : (b : Bool) → find path_cmp q (es ++ p ∷ []) ≡ first (find path_cmp q es) (cond (eq_by_cmp path_cmp q p.0) (Some p.1) None) → cond b (Some e.1) (find path_cmp q (es ++ p ∷ [])) ≡ first (cond b (Some e.1) (find path_cmp q es)) (cond (eq_by_cmp path_cmp q p.0) (Some p.1) None)
    by true rest = refl
    by false rest = rest

eq_same : (q k : List ℕ) → eq_by_cmp path_cmp q k ≡ true → q ≡ k
eq_same q k is = path_same q k (tied (path_cmp q k) is)

-- A path that is there already keeps what it has.
pub kept : (es : List Place) (p : Place) (v : ℕ) → find path_cmp p.0 es ≡ Some v → from_entries {R = path_cmp} (es ++ p ∷ []) ≡ from_entries es
kept es p v there = same_map path_total path_same _ _ (λ q. get-from_entries path_total (es ++ p ∷ []) q ∙ find_push es p q ∙ by q (find path_cmp q es) refl ∙ sym (get-from_entries path_total es q))
  where
    by : (q : List ℕ) (o : Option ℕ) → find path_cmp q es ≡ o → first o (cond (eq_by_cmp path_cmp q p.0) (Some p.1) None) ≡ o
    by q (Some x) is = refl
    by q None is = no_tie (eq_by_cmp path_cmp q p.0) refl
      where
        no_tie : (b : Bool) → eq_by_cmp path_cmp q p.0 ≡ b → cond b (Some p.1) None ≡ None
        no_tie false e = refl
        no_tie true e = let clash : None ≡ Some v = sym is ∙ ap (λ k. find path_cmp k es) (eq_same q p.0 e) ∙ there in absurd (grind (arith, clash))

pub added : (es : List Place) (p : Place) → find path_cmp p.0 es ≡ None → from_entries {R = path_cmp} (es ++ p ∷ []) ≡ fin.insert (from_entries es) p.0 p.1
added es p none = from_entries_push path_total path_same es p.0 p.1 none

pub found_in : (es : List Place) (q : List ℕ) (m : FinMap path_cmp ℕ) → m ≡ from_entries es → fin.get m q ≡ find path_cmp q es
found_in es q m is = ap (λ (n : FinMap path_cmp ℕ). fin.get n q) is ∙ get-from_entries path_total es q

pub some_value : (o : Option ℕ) → is_some o ≡ true → (v : ℕ) × (o ≡ Some v)
some_value None is = absurd (grind (arith, is))
some_value (Some v) is = (v, refl)

pub none_value : (o : Option ℕ) → is_some o ≡ false → o ≡ None
none_value None is = refl
none_value (Some v) is = absurd (grind (arith, is))

pub pairs_push : (xs : List PathAt) (x : PathAt) → pairs_of (xs ++ x ∷ []) ≡ pairs_of xs ++ (x.path.items, x.inode) ∷ []
pairs_push xs x = map-append {B = Place} (λ (e : PathAt). (e.path.items, e.inode)) xs (x ∷ [])

pub t_true : (b : Bool) → T b → b ≡ true
t_true true is = refl
t_true false is = absurd is

pub if_ok : {X E : Type 0} (r : Result X E) (P Q : X → Type 0) → ((x : X) → P x → Q x) → IfOk r P → IfOk r Q
if_ok (Ok x) P Q leads is = leads x is
if_ok (Err e) P Q leads is = tt

-- ---- other values at the same keys

module _ {X : Type 0} (h : ℕ → X) where
  find_mapped : (es : List Place) (q : List ℕ) → find path_cmp q (map {B = List ℕ × X} (λ (p : Place). (p.0, h p.1)) es) ≡ option_map h (find path_cmp q es)
  find_mapped [] q = refl
  find_mapped (e ∷ es) q = by (eq_by_cmp path_cmp q e.0) (find_mapped es q)
    where
      by : (b : Bool) → find path_cmp q (map {B = List ℕ × X} (λ (p : Place). (p.0, h p.1)) es) ≡ option_map h (find path_cmp q es) → cond b (Some (h e.1)) (find path_cmp q (map {B = List ℕ × X} (λ (p : Place). (p.0, h p.1)) es)) ≡ option_map h (cond b (Some e.1) (find path_cmp q es))
      by true rest = refl
      by false rest = rest

  pub mapped_same : (ps qs : List Place) → from_entries {R = path_cmp} ps ≡ from_entries qs
      → from_entries {R = path_cmp} (map {B = List ℕ × X} (λ (p : Place). (p.0, h p.1)) ps) ≡ from_entries (map {B = List ℕ × X} (λ (p : Place). (p.0, h p.1)) qs)
  mapped_same ps qs same = same_map path_total path_same _ _ (λ q.
      get-from_entries path_total (map {B = List ℕ × X} (λ (p : Place). (p.0, h p.1)) ps) q ∙ find_mapped ps q
      ∙ ap (option_map h) (sym (get-from_entries path_total ps q) ∙ ap (λ (n : FinMap path_cmp ℕ). fin.get n q) same ∙ get-from_entries path_total qs q)
      ∙ sym (get-from_entries path_total (map {B = List ℕ × X} (λ (p : Place). (p.0, h p.1)) qs) q ∙ find_mapped qs q))

-- the entries of a map are those of the map that they give
pub entries_again : (m : FinMap path_cmp ℕ) (ps : List Place) → ps ≡ fin.entries m → from_entries {R = path_cmp} ps ≡ m
entries_again m ps is = same_map path_total path_same _ _ (λ q. get-from_entries path_total ps q ∙ ap (find path_cmp q) is ∙ sym (fin.get-entries m q))

-- ---- a fact of each value

module _ (Q : ℕ → Type 0) where
  abbrev AllValues : List Place → Type 0
  AllValues = AllByRecursion (λ (p : Place). Q p.1)

  all_put : (k : List ℕ) (v : ℕ) (es : List Place) → Q v → AllValues es → AllValues (put path_cmp k v es)
  all_put k v [] here all = (here, tt)
  all_put k v (e ∷ es) here all = by (path_cmp k e.0) (all_put k v es here all.1)
    where
      by : (r : Ordering) → AllValues (put path_cmp k v es) → AllValues (by_order r ((k, v) ∷ e ∷ es) ((e.0, v) ∷ es) (e ∷ put path_cmp k v es))
      by Less rest = (here, all)
      by Equal rest = (here, all.1)
      by Greater rest = (all.0, rest)

  no_length : (es : List Place) → length es ≡ 0 → AllValues es
  no_length [] is = tt
  no_length (e ∷ es) is = absurd (omega (arith, is))

  pub all_entries : (es : List Place) → AllValues es → AllValues (fin.entries (from_entries {R = path_cmp} es))
  all_entries [] all = no_length (fin.entries (fin.empty {R = path_cmp})) (sym (fin.len-entries (fin.empty {X = ℕ} {R = path_cmp})) ∙ fin.len-empty path_cmp ℕ)
  all_entries (e ∷ es) all = subst AllValues (sym (fin.entries-insert path_total (from_entries {R = path_cmp} es) e.0 e.1)) (all_put e.0 e.1 (fin.entries (from_entries {R = path_cmp} es)) all.0 (all_entries es all.1))
