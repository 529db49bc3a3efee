-- What a search tree's calls mean for the finite map as which it is seen.
use Rattle.std.proofs.Common.{◌≡◌, List, [], ◌∷◌, true, false, cond, Some, None, ap, sym, refl, ◌∙◌, subst, Result, Ok, Err, OnErr}
use Rattle.std.specs.Prelude.{IsSome}
use Rattle.std.specs.declared.cmp.Ordering.{Ordering}
use Rattle.std.specs.declared.cmp.Ordering.TheVariants.{Less, Equal, Greater}
use Rattle.std.specs.Ordering.{eq_by_cmp, is_eq, match_ordering}
use Rattle.std.specs.Cmp.{IsTotalOrder, eq_by_cmp_equiv}
use Rattle.std.specs.List.Sorted.{IsStrictlySortedBy}
use Rattle.std.specs.List.{AllByRecursion}
use Rattle.std.specs.BTreeMap as tree
use Rattle.std.specs.BTreeMap.{BTreeMap}
use Rattle.std.specs.Map.{lookup, remove_entry, set_value, keys_of}
use Rattle.std.specs.FinMap.{IsAntisymmetric, find, put, get, insert, remove, from_entries, get-from_entries, get-insert, get-remove, same_map, entries, entries-insert}
use Rattle.std.specs.FinMap.Entries.{find-put, by_order}
use Rattle.std.proofs.lemmas.Map.{lookup-remove_entry, lookup-set_value}
use Rattle.std.proofs.lemmas.Map.Keys.{IsDistinct-from_sorted}
use Rattle.ufs_model.proofs.Facts.Lookups.{tied}
use Rattle.ufs_model.proofs.Facts.Rising.{entries-empty}
use Rattle.ufs_calls.specs.Seen.{seen, keyed}

by-match : {A : Type 0} (r : Ordering) (a b c d : A) → c ≡ d → match_ordering r a b c ≡ match_ordering r a b d
by-match r a b c d e = ap (match_ordering r a b) e

module _ {J X : Type 0} (R : J → J → Ordering) where
  pub looked : (q : J) (es : List (J × X)) → find R q es ≡ lookup (eq_by_cmp R q) es
  looked q [] = refl
  looked q (e ∷ es) = ap (cond (is_eq (R q e.0)) (Some e.1)) (looked q es)

module _ {K J X : Type 0} (R : J → J → Ordering) (key : K → J) where
  find-keyed : (q : J) (es : List (K × X)) → find R q (keyed R key es) ≡ lookup (λ k. is_eq (R q (key k))) es
  find-keyed q [] = refl
  find-keyed q (e ∷ es) = ap (cond (is_eq (R q (key e.0))) (Some e.1)) (find-keyed q es)

  match-keyed : (r : Ordering) (a b c : List (K × X)) → keyed R key (match_ordering r a b c) ≡ match_ordering r (keyed R key a) (keyed R key b) (keyed R key c)
  match-keyed Less a b c = refl
  match-keyed Equal a b c = refl
  match-keyed Greater a b c = refl

  keyed-insert_entry : (k : K) (v : X) (es : List (K × X)) → keyed R key (tree.insert_entry (λ a b. R (key a) (key b)) es k v) ≡ tree.insert_entry R (keyed R key es) (key k) v
  keyed-insert_entry k v [] = refl
  keyed-insert_entry k v (e ∷ es) =
      match-keyed (R (key k) (key e.0)) _ _ _ ∙ by-match (R (key k) (key e.0)) _ _ _ _ (ap (λ rest. (key e.0, e.1) ∷ rest) (keyed-insert_entry k v es))

  put-insert_entry : (k : J) (v : X) (es : List (J × X)) → tree.insert_entry R es k v ≡ put R k v es
  put-insert_entry k v [] = refl
  put-insert_entry k v (e ∷ es) =
      elim (R k e.0) as (λ r. match_ordering r ((k, v) ∷ e ∷ es) ((e.0, v) ∷ es) (e ∷ tree.insert_entry R es k v) ≡ by_order r ((k, v) ∷ e ∷ es) ((e.0, v) ∷ es) (e ∷ put R k v es)) [
        | Less ↦ refl
        | Equal ↦ refl
        | Greater ↦ ap (λ rest. e ∷ rest) (put-insert_entry k v es)
      ]

  keyed-remove_entry : (p : J) (es : List (K × X)) → keyed R key (remove_entry (λ k. is_eq (R p (key k))) es) ≡ remove_entry (eq_by_cmp R p) (keyed R key es)
  keyed-remove_entry p [] = refl
  keyed-remove_entry p (e ∷ es) =
      elim (is_eq (R p (key e.0))) as (λ b. keyed R key (cond b es (e ∷ remove_entry (λ k. is_eq (R p (key k))) es)) ≡ cond b (keyed R key es) ((key e.0, e.1) ∷ remove_entry (eq_by_cmp R p) (keyed R key es))) [
        | true ↦ refl
        | false ↦ ap (λ rest. (key e.0, e.1) ∷ rest) (keyed-remove_entry p es)
      ]

  all-keyed : (x : K) (es : List (K × X)) → AllByRecursion (λ y. R (key x) (key y) ≡ Less) (keys_of es) → AllByRecursion (λ y. R (key x) y ≡ Less) (keys_of (keyed R key es))
  all-keyed x [] all = all
  all-keyed x (e ∷ es) all = (all.0, all-keyed x es all.1)

  sorted-keyed : (es : List (K × X)) → IsStrictlySortedBy (λ a b. R (key a) (key b)) (keys_of es) → IsStrictlySortedBy R (keys_of (keyed R key es))
  unfolding IsStrictlySortedBy
  sorted-keyed [] sorted = sorted
  sorted-keyed (e ∷ es) sorted = (all-keyed e.0 es sorted.0, sorted-keyed es sorted.1)

  module _ (o : IsTotalOrder R) (same : IsAntisymmetric R) where
    -- what the finite map has at a key is what the search tree has there
    pub get-seen : (m : BTreeMap K X) (q : J) → get (seen R key m) q ≡ tree.get_by (λ k. R q (key k)) m
    get-seen m q = get-from_entries o (keyed R key m.entries) q ∙ find-keyed q m.entries

    pub insert-seen : (m n : BTreeMap K X) (k : K) (v : X) → n.entries ≡ tree.insert_entry (λ a b. R (key a) (key b)) m.entries k v → seen R key n ≡ insert (seen R key m) (key k) v
    insert-seen m n k v e = same_map o same _ _ (λ q.
        get-from_entries o (keyed R key n.entries) q
        ∙ ap (find R q) (ap (keyed R key) e ∙ keyed-insert_entry k v m.entries ∙ put-insert_entry (key k) v (keyed R key m.entries))
        ∙ find-put R o q (key k) v (keyed R key m.entries)
        ∙ ap (cond (eq_by_cmp R q (key k)) (Some v)) (sym (get-from_entries o (keyed R key m.entries) q))
        ∙ sym (get-insert o (seen R key m) (key k) v q))

    pub remove-seen : (m n : BTreeMap K X) (p : J) → tree.IsOrdered (λ a b. R (key a) (key b)) m → n.entries ≡ remove_entry (λ k. is_eq (R p (key k))) m.entries → seen R key n ≡ remove (seen R key m) p
    remove-seen m n p sorted e = same_map o same _ _ (λ q.
        get-from_entries o (keyed R key n.entries) q
        ∙ ap (find R q) (ap (keyed R key) e)
        ∙ ap (find R q) (keyed-remove_entry p m.entries)
        ∙ looked R q (remove_entry (eq_by_cmp R p) (keyed R key m.entries))
        ∙ lookup-remove_entry (eq_by_cmp_equiv o) (eq_by_cmp R p) (λ x y t. ap is_eq (o.congr p x y (tied _ t))) q (keyed R key m.entries) (IsDistinct-from_sorted R _ (sorted-keyed m.entries sorted))
        ∙ ap (λ b. cond b None (lookup (eq_by_cmp R q) (keyed R key m.entries))) ((eq_by_cmp_equiv o).symm p q)
        ∙ ap (cond (eq_by_cmp R q p) None) (sym (looked R q (keyed R key m.entries)) ∙ sym (get-from_entries o (keyed R key m.entries) q))
        ∙ sym (get-remove o (seen R key m) p q))

    keyed-set_value : (p : J) (es : List (K × X)) (w : X) → keyed R key (set_value (λ k. is_eq (R p (key k))) es w) ≡ set_value (eq_by_cmp R p) (keyed R key es) w
    keyed-set_value p [] w = refl
    keyed-set_value p (e ∷ es) w =
        elim (is_eq (R p (key e.0))) as (λ b. keyed R key (cond b ((e.0, w) ∷ es) (e ∷ set_value (λ k. is_eq (R p (key k))) es w)) ≡ cond b ((key e.0, w) ∷ keyed R key es) ((key e.0, e.1) ∷ set_value (eq_by_cmp R p) (keyed R key es) w)) [
          | true ↦ refl
          | false ↦ ap (λ rest. (key e.0, e.1) ∷ rest) (keyed-set_value p es w)
        ]

    -- a value is written over the one that is there
    pub set-seen : (m n : BTreeMap K X) (p : J) (w : X) → n.entries ≡ set_value (λ k. is_eq (R p (key k))) m.entries w → IsSome (get (seen R key m) p) → seen R key n ≡ insert (seen R key m) p w
    set-seen m n p w e there = same_map o same _ _ (λ q.
        get-from_entries o (keyed R key n.entries) q
        ∙ ap (find R q) (ap (keyed R key) e ∙ keyed-set_value p m.entries w)
        ∙ looked R q (set_value (eq_by_cmp R p) (keyed R key m.entries) w)
        ∙ lookup-set_value (eq_by_cmp_equiv o) (eq_by_cmp R p) (λ x y t. ap is_eq (o.congr p x y (tied _ t))) q w (keyed R key m.entries) (subst IsSome (get-from_entries o (keyed R key m.entries) p ∙ looked R p (keyed R key m.entries)) there)
        ∙ ap (λ b. cond b (Some w) (lookup (eq_by_cmp R q) (keyed R key m.entries))) ((eq_by_cmp_equiv o).symm p q)
        ∙ ap (cond (eq_by_cmp R q p) (Some w)) (sym (looked R q (keyed R key m.entries)) ∙ sym (get-from_entries o (keyed R key m.entries) q))
        ∙ sym (get-insert o (seen R key m) p w q))

-- a key below all others goes to the front
put-first : {J X : Type 0} (R : J → J → Ordering) (k : J) (v : X) (es : List (J × X)) → AllByRecursion (λ y. R k y ≡ Less) (keys_of es) → put R k v es ≡ (k, v) ∷ es
put-first R k v [] all = refl
put-first R k v (e ∷ es) all = ap (λ r. by_order r ((k, v) ∷ e ∷ es) ((e.0, v) ∷ es) (e ∷ put R k v es)) all.0

entries-sorted : {J X : Type 0} (R : J → J → Ordering) (o : IsTotalOrder R) (es : List (J × X)) → IsStrictlySortedBy R (keys_of es) → entries (from_entries {R = R} es) ≡ es
unfolding IsStrictlySortedBy
entries-sorted {X = X} R o [] sorted = entries-empty R X
entries-sorted R o (e ∷ es) sorted =
    entries-insert o (from_entries es) e.0 e.1 ∙ ap (put R e.0 e.1) (entries-sorted R o es sorted.1) ∙ put-first R e.0 e.1 es sorted.0

-- the entries of the finite map are those of the search tree, in order
pub entries-seen : {K J X : Type 0} (R : J → J → Ordering) (key : K → J) (o : IsTotalOrder R) (m : BTreeMap K X) → tree.IsOrdered (λ a b. R (key a) (key b)) m → entries (seen R key m) ≡ keyed R key m.entries
entries-seen R key o m sorted = entries-sorted R o (keyed R key m.entries) (sorted-keyed R key m.entries sorted)

-- what holds is said of an error
pub on_err : {T E P : Type 0} (r : Result T E) → P → OnErr r P
on_err (Ok x) p = tt
on_err (Err e) p = p
