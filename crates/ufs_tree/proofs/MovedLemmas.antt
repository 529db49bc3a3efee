-- Nodes that are put at paths and taken away, one at a time.
use Rattle.std.proofs.Common.{◌≡◌, ℕ, ◌+◌, ◌<◌, List, [], ◌∷◌, ◌++◌, Bool, true, false, cond, length, get_or, take, drop, All, Option, Some, None, ap, sym, refl, ◌∙◌}
use Rattle.std.proofs.lemmas.List.{take_more}
use Rattle.std.proofs.lemmas.List.Elements.{recursion_from_All}
use Rattle.std.specs.Prelude.{is_some}
use Rattle.std.specs.List.{AllByRecursion}
use Rattle.std.specs.Ordering.{eq_by_cmp}
use Rattle.std.specs.FinMap as map
use Rattle.std.specs.FinMap.{find, is_sorted, get-insert, get-remove, same_map}
use Rattle.ufs_model.specs.Order.{path_cmp}
use Rattle.ufs_model.specs.PosixTree.{Paths}
use Rattle.ufs_model.specs.declared.data.Node.{Node}
use Rattle.ufs_tree.specs.Moved.{or_else, put_over, taken_away}
use Rattle.ufs_model.proofs.Facts.Lookups.{one_key}
use Rattle.ufs_model.proofs.Facts.Orders.{path_total, path_same}
use Rattle.ufs_model.proofs.Facts.Rising.{find-earlier}
use Rattle.ufs_tree.proofs.ListLemmas.{all_take, round_place}
use Rattle.ufs_tree.proofs.NameLemmas.{Nodes}

abbrev pub ties : List ℕ → List ℕ → Bool
ties p q = eq_by_cmp path_cmp p q

pub tie_is : (p q : List ℕ) → ties p q ≡ true → p ≡ q
tie_is = one_key path_total path_same

-- ---- one more at the end of a list

put-push : (xs : Nodes) (e : List ℕ × Node) (before : Option Node) (q : List ℕ) → put_over (xs ++ e ∷ []) before q ≡ or_else (find path_cmp q xs) (cond (ties q e.0) (Some e.1) before)
put-push [] e before q = by (ties q e.0)
  where
    by : (t : Bool) → or_else (cond t (Some e.1) None) before ≡ cond t (Some e.1) before
    by true = refl
    by false = refl
put-push (x ∷ xs) e before q = by (ties q x.0) (put-push xs e before q)
  where
    by : (t : Bool) → put_over (xs ++ e ∷ []) before q ≡ or_else (find path_cmp q xs) (cond (ties q e.0) (Some e.1) before)
        → or_else (cond t (Some x.1) (find path_cmp q (xs ++ e ∷ []))) before ≡ or_else (cond t (Some x.1) (find path_cmp q xs)) (cond (ties q e.0) (Some e.1) before)
    by true rest = refl
    by false rest = rest

taken-push : (xs : Nodes) (e : List ℕ × Node) (before : Option Node) (q : List ℕ) → taken_away (xs ++ e ∷ []) before q ≡ cond (ties q e.0) None (taken_away xs before q)
taken-push [] e before q = by (ties q e.0)
  where
    by : (t : Bool) → cond (is_some (cond t (Some e.1) None)) None before ≡ cond t None before
    by true = refl
    by false = refl
taken-push (x ∷ xs) e before q = by (ties q x.0) (ties q e.0) (taken-push xs e before q)
  where
    by : (t u : Bool) → taken_away (xs ++ e ∷ []) before q ≡ cond u None (taken_away xs before q)
        → cond (is_some (cond t (Some x.1) (find path_cmp q (xs ++ e ∷ [])))) None before ≡ cond u None (cond (is_some (cond t (Some x.1) (find path_cmp q xs))) None before)
    by true true rest = refl
    by true false rest = refl
    by false u rest = rest

-- the list up to a place, and the item there
module _ (nodes : Nodes) (i : ℕ) (d : List ℕ × Node) (below : i < length nodes) where
  pub unfound_yet : is_sorted path_cmp nodes ≡ true → find path_cmp (get_or nodes i d).0 (take i nodes) ≡ None
  unfound_yet rising = find-earlier path_cmp path_total (take i nodes) (get_or nodes i d) (drop (i + 1) nodes) (ap (is_sorted path_cmp) (sym (round_place nodes i d below)) ∙ rising)

  -- one more is taken away
  pub taken_more : (m m' start : Paths) → ((q : List ℕ) → map.get m q ≡ taken_away (take i nodes) (map.get start q) q) → m' ≡ map.remove m (get_or nodes i d).0
      → (q : List ℕ) → map.get m' q ≡ taken_away (take (i + 1) nodes) (map.get start q) q
  taken_more m m' start so_far is q =
      ap (λ (n : Paths). map.get n q) is ∙ get-remove path_total m (get_or nodes i d).0 q
      ∙ ap (cond (ties q (get_or nodes i d).0) None) (so_far q)
      ∙ sym (taken-push (take i nodes) (get_or nodes i d) (map.get start q) q)
      ∙ ap (λ (l : Nodes). taken_away l (map.get start q) q) (sym (take_more nodes i d below))

  -- nothing stands at the next path yet
  pub absent_yet : (m start : Paths) → is_sorted path_cmp nodes ≡ true → ((q : List ℕ) → map.get m q ≡ put_over (take i nodes) (map.get start q) q) → map.get start (get_or nodes i d).0 ≡ None
      → map.get m (get_or nodes i d).0 ≡ None
  absent_yet m start rising so_far absent =
      let p = (get_or nodes i d).0 in
      so_far p ∙ ap (λ o. or_else o (map.get start p)) (unfound_yet rising) ∙ absent

  -- one more is put
  pub put_more : (m m' start : Paths) → is_sorted path_cmp nodes ≡ true → ((q : List ℕ) → map.get m q ≡ put_over (take i nodes) (map.get start q) q) → m' ≡ map.insert m (get_or nodes i d).0 (get_or nodes i d).1
      → (q : List ℕ) → map.get m' q ≡ put_over (take (i + 1) nodes) (map.get start q) q
  put_more m m' start rising so_far is q =
      let e = get_or nodes i d in
      ap (λ (n : Paths). map.get n q) is ∙ get-insert path_total m e.0 e.1 q
      ∙ ap (cond (ties q e.0) (Some e.1)) (so_far q)
      ∙ by (ties q e.0) refl
      ∙ sym (put-push (take i nodes) e (map.get start q) q)
      ∙ ap (λ (l : Nodes). put_over l (map.get start q) q) (sym (take_more nodes i d below))
    where
      by : (t : Bool) → ties q (get_or nodes i d).0 ≡ t → cond t (Some (get_or nodes i d).1) (put_over (take i nodes) (map.get start q) q) ≡ or_else (find path_cmp q (take i nodes)) (cond t (Some (get_or nodes i d).1) (map.get start q))
      by true e = ap (λ o. or_else o (Some (get_or nodes i d).1)) (sym (ap (λ p. find path_cmp p (take i nodes)) (tie_is q (get_or nodes i d).0 e) ∙ unfound_yet rising))
      by false e = refl

-- nothing stood at a path that is found among these
found_absent : (m : Paths) (xs : Nodes) (q : List ℕ) (v : Node) → AllByRecursion (λ (e : List ℕ × Node). map.get m e.0 ≡ None) xs → find path_cmp q xs ≡ Some v → map.get m q ≡ None
found_absent m [] q v h is = cc
found_absent m (x ∷ xs) q v h is = by (ties q x.0) refl is (found_absent m xs q v h.1)
  where
    by : (t : Bool) → ties q x.0 ≡ t → cond t (Some x.1) (find path_cmp q xs) ≡ Some v → (find path_cmp q xs ≡ Some v → map.get m q ≡ None) → map.get m q ≡ None
    by true e is rest = ap (map.get m) (tie_is q x.0 e) ∙ h.0
    by false e is rest = rest is

-- what was put is taken away
pub undone_list : (m start done : Paths) (xs : Nodes) → AllByRecursion (λ (e : List ℕ × Node). map.get start e.0 ≡ None) xs
    → ((q : List ℕ) → map.get m q ≡ put_over xs (map.get start q) q) → ((q : List ℕ) → map.get done q ≡ taken_away xs (map.get m q) q) → done ≡ start
undone_list m start done xs absent put taken = same_map path_total path_same done start (λ q. taken q ∙ ap (λ o. taken_away xs o q) (put q) ∙ by q (find path_cmp q xs) refl)
  where
    by : (q : List ℕ) (o : Option Node) → find path_cmp q xs ≡ o → cond (is_some o) None (or_else o (map.get start q)) ≡ map.get start q
    by q None is = refl
    by q (Some v) is = sym (found_absent start xs q v absent is)

pub undone : (m start done : Paths) (nodes : Nodes) (i : ℕ) → All (λ (e : List ℕ × Node). map.get start e.0 ≡ None) nodes
    → ((q : List ℕ) → map.get m q ≡ put_over (take i nodes) (map.get start q) q) → ((q : List ℕ) → map.get done q ≡ taken_away (take i nodes) (map.get m q) q) → done ≡ start
undone m start done nodes i absent =
    undone_list m start done (take i nodes) (all_take (λ (e : List ℕ × Node). map.get start e.0 ≡ None) i nodes (recursion_from_All (λ (e : List ℕ × Node). map.get start e.0 ≡ None) nodes absent))
