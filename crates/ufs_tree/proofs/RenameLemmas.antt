-- The paths after a new name for one of them: what stands at each.
use Rattle.std.proofs.Common.{◌≡◌, ℕ, ◌≤◌, List, [], ◌∷◌, ◌++◌, Bool, true, false, cond, ◌&&◌, ◌||◌, length, map, filter, drop, All, Option, Some, None, ap, sym, refl, subst, ◌∙◌, arith, length-append}
use Rattle.std.proofs.lemmas.List.{append-nil}
use Rattle.std.proofs.lemmas.List.Elements.{All-from_recursion, recursion_from_All, filter_passes}
use Rattle.std.proofs.Math.Bool.{or-true}
use Rattle.std.proofs.Math.Seq.{drop-append_seam}
use Rattle.std.proofs.lemmas.Map.Entries.{lookup-filter-keys}
use Rattle.std.specs.Prelude.{is_some}
use Rattle.std.specs.List.{AllByRecursion}
use Rattle.std.specs.Str.{bytes_eq}
use Rattle.std.specs.FinMap as fin
use Rattle.std.specs.FinMap.Entries.{below_all}
use Rattle.std.specs.Ordering.{is_lt}
use Rattle.std.specs.Cmp.{eq_by_cmp_equiv}
use Rattle.std.proofs.lemmas.Bool.{eqb-true, false_from_ne_true}
use Rattle.std.specs.FinMap.{find, is_sorted, get-entries, get-from_entries, get-insert, get-remove, same_map}
use Rattle.ufs_model.specs.Order.{path_cmp}
use Rattle.ufs_model.specs.declared.data.Node.{Node}
use Rattle.ufs_model.specs.Directories.{starts_with, is_below, has_entries, renamed, renamed_path}
use Rattle.ufs_model.specs.Paths.{IsWhole}
use Rattle.ufs_model.specs.PosixTree.{Paths, IsNamespace, stands, has_dir, root}
use Rattle.ufs_tree.specs.Moved.{or_else, put_over, taken_away, with_other_front}
use Rattle.ufs_model.proofs.Facts.Orders.{path_total, path_same}
use Rattle.ufs_calls.proofs.Facts.Maps.{looked}
use Rattle.ufs_model.proofs.Facts.Lookups.{apart as lies_apart}
use Rattle.ufs_model.proofs.Facts.Pieces.{same_bytes, bytes_same, is_below_from}
use Rattle.ufs_model.proofs.Facts.Rising.{entries-rise}
use Rattle.ufs_tree.proofs.RisingLemmas.{rising-filter}
use Rattle.ufs_tree.proofs.HolderLemmas.{path_ties}
use Rattle.ufs_tree.proofs.ListLemmas.{all_map, all_map₂, all_filter}
use Rattle.ufs_tree.proofs.NameLemmas.{Nodes, cmp-front, each_standing}
use Rattle.ufs_tree.proofs.MovedLemmas.{ties, tie_is, undone_list}
use Rattle.ufs_tree.proofs.UnderLemmas.{is_under, is_tail, under_is, under-append, below_is, ties-front, none_below, with_rest, rest_joined, rest_allowed}

not_both : (b : Bool) → b ≡ true → b ≡ false → ⊥
not_both b e f = let no : false ≡ true = sym f ∙ e in cc

none_either : (b : Bool) → ◌≡◌ {A = Option Node} (cond b None None) None
none_either true = refl
none_either false = refl

or_none : (o : Option Node) → or_else o None ≡ o
or_none None = refl
or_none (Some v) = refl

not_tied : (p q : List ℕ) → (p ≡ q → ⊥) → ties p q ≡ false
not_tied = lies_apart path_total path_same

tie_self : (p : List ℕ) → ties p p ≡ true
tie_self p = (eq_by_cmp_equiv path_total).refl p

tie_bytes : (q p : List ℕ) → ties q p ≡ bytes_eq q p
tie_bytes q p = (eq_by_cmp_equiv path_total).symm q p ∙ path_ties p q

-- ---- one directory's paths under another name

module _ (from to : List ℕ) where
  -- an entry with its new name
  abbrev new_entry : List ℕ × Node → List ℕ × Node
  new_entry e = (renamed_path from to e.0, e.1)

  -- no entry is at or below the new name
  abbrev Clear : Nodes → Type 0
  Clear es = AllByRecursion (λ (e : List ℕ × Node). is_under to e.0 ≡ false) es

  abbrev after : Nodes → List ℕ → Option Node
  after es q = find path_cmp q (map {B = List ℕ × Node} new_entry es)

  tie_under : (s p : List ℕ) → is_tail s ≡ true → is_under to p ≡ false → ties (to ++ s) (renamed_path from to p) ≡ ties (from ++ s) p
  tie_under s p tail clear = by (is_under from p) refl
    where
      by : (v : Bool) → is_under from p ≡ v → ties (to ++ s) (cond v (to ++ drop (length from) p) p) ≡ ties (from ++ s) p
      by true e =
          ties-front to s (drop (length from) p) ∙ sym (ties-front from s (drop (length from) p)) ∙ ap (ties (from ++ s)) (sym (under_is from p e).is)
      by false e =
          not_tied (to ++ s) p (λ is. not_both (is_under to p) (ap (is_under to) (sym is) ∙ under-append to s tail) clear)
          ∙ sym (not_tied (from ++ s) p (λ is. not_both (is_under from p) (ap (is_under from) (sym is) ∙ under-append from s tail) e))

  after-under : (s : List ℕ) (es : Nodes) → is_tail s ≡ true → Clear es → after es (to ++ s) ≡ find path_cmp (from ++ s) es
  after-under s [] tail clear = refl
  after-under s (e ∷ es) tail clear = λ i. cond (tie_under s e.0 tail clear.0 i) (Some e.1) (after-under s es tail clear.1 i)

  module _ (q : List ℕ) (away : is_under to q ≡ false) where
    other_name : (p : List ℕ) → is_under from p ≡ true → ties q (to ++ drop (length from) p) ≡ false
    other_name p e = not_tied q (to ++ drop (length from) p) (λ is. not_both (is_under to q) (ap (is_under to) is ∙ under-append to (drop (length from) p) (under_is from p e).tail) away)

    tie_gone : (p : List ℕ) → is_under from q ≡ true → ties q (renamed_path from to p) ≡ false
    tie_gone p under = by (is_under from p) refl
      where
        by : (v : Bool) → is_under from p ≡ v → ties q (cond v (to ++ drop (length from) p) p) ≡ false
        by true e = other_name p e
        by false e = not_tied q p (λ is. not_both (is_under from p) (ap (is_under from) (sym is) ∙ under) e)

    after-gone : (es : Nodes) → is_under from q ≡ true → after es q ≡ None
    after-gone [] under = refl
    after-gone (e ∷ es) under = λ i. cond (tie_gone e.0 under i) (Some e.1) (after-gone es under i)

    tie_other : (p : List ℕ) → is_under from q ≡ false → ties q (renamed_path from to p) ≡ ties q p
    tie_other p out = by (is_under from p) refl
      where
        by : (v : Bool) → is_under from p ≡ v → ties q (cond v (to ++ drop (length from) p) p) ≡ ties q p
        by true e = other_name p e ∙ sym (not_tied q p (λ is. not_both (is_under from p) e (ap (is_under from) (sym is) ∙ out)))
        by false e = refl

    after-other : (es : Nodes) → is_under from q ≡ false → after es q ≡ find path_cmp q es
    after-other [] out = refl
    after-other (e ∷ es) out = λ i. cond (tie_other e.0 out i) (Some e.1) (after-other es out i)

    moved-other : (es : Nodes) → AllByRecursion (λ (e : List ℕ × Node). is_under from e.0 ≡ true) es → find path_cmp q (with_other_front from to es) ≡ None
    moved-other [] all = refl
    moved-other (e ∷ es) all = λ i. cond (other_name e.0 all.0 i) (Some e.1) (moved-other es all.1 i)

  moved-under : (s : List ℕ) (es : Nodes) → AllByRecursion (λ (e : List ℕ × Node). is_under from e.0 ≡ true) es → find path_cmp (to ++ s) (with_other_front from to es) ≡ find path_cmp (from ++ s) es
  moved-under s [] all = refl
  moved-under s (e ∷ es) all =
      let same = ties-front to s (drop (length from) e.0) ∙ sym (ties-front from s (drop (length from) e.0)) ∙ ap (ties (from ++ s)) (sym (under_is from e.0 all.0).is) in
      λ i. cond (same i) (Some e.1) (moved-under s es all.1 i)

  -- the new names are in the order of the old ones
  below-moved : (k : List ℕ) (es : Nodes) → k ≡ from ++ drop (length from) k → AllByRecursion (λ (e : List ℕ × Node). is_under from e.0 ≡ true) es → below_all path_cmp (to ++ drop (length from) k) (with_other_front from to es) ≡ below_all path_cmp k es
  below-moved k [] is all = refl
  below-moved k (e ∷ es) is all =
      let same = cmp-front to (drop (length from) k) (drop (length from) e.0) ∙ sym (cmp-front from (drop (length from) k) (drop (length from) e.0))
      ∙ (λ i. path_cmp (sym is i) (sym (under_is from e.0 all.0).is i)) in
      λ i. is_lt (same i) && below-moved k es is all.1 i

  rising-moved : (es : Nodes) → AllByRecursion (λ (e : List ℕ × Node). is_under from e.0 ≡ true) es → is_sorted path_cmp (with_other_front from to es) ≡ is_sorted path_cmp es
  rising-moved [] all = refl
  rising-moved (e ∷ es) all = λ i. below-moved e.0 es (under_is from e.0 all.0).is all.1 i && rising-moved es all.1 i

  all_moved : (P : List ℕ → Type 0) (es : Nodes) → AllByRecursion (λ (e : List ℕ × Node). P (to ++ drop (length from) e.0)) es → AllByRecursion (λ (e : List ℕ × Node). P e.0) (with_other_front from to es)
  all_moved P [] all = tt
  all_moved P (e ∷ es) all = (all.0, all_moved P es all.1)

-- what is below a directory, and not the directory itself
below_under : (d q : List ℕ) → is_below d q ≡ true → is_under d q ≡ true
below_under d q e = ap (λ t. bytes_eq q d || t) e ∙ or-true (bytes_eq q d)

rest_is : (d q : List ℕ) → is_below d q ≡ true → drop (length d) q ≡ 47 ∷ drop (length (d ++ 47 ∷ [])) q
rest_is d q e = ap (drop (length d)) (below_is d q e) ∙ drop-append_seam d (47 ∷ drop (length (d ++ 47 ∷ [])) q)

-- ---- a directory or a file with another name, in a tree

module _ (m : Paths) (from to : List ℕ) (node : Node) (olds : Nodes)
    (space : IsNamespace (stands m) (has_dir m)) (whole : IsWhole to) (there : fin.get m from ≡ Some node) (from_other : from ≡ root → ⊥) (to_other : to ≡ root → ⊥)
    (apart : from ≡ to → ⊥) (outside : is_below from to ≡ false) (empty : has_entries m to ≡ false)
    (are : olds ≡ filter (λ (e : List ℕ × Node). starts_with (from ++ 47 ∷ []) e.0) (fin.entries m)) where
  nothing_below : (p : List ℕ) → is_below to p ≡ true → fin.get m p ≡ None
  nothing_below p e = none_below m to space whole to_other empty p e

  different : (p q : List ℕ) → (p ≡ q → ⊥) → bytes_eq p q ≡ false
  different p q differ = false_from_ne_true _ (λ e. differ (same_bytes p q e))

  to_outside : is_under from to ≡ false
  to_outside = λ i. different to from (λ is. apart (sym is)) i || outside i

  from_outside : is_under to from ≡ false
  from_outside = λ i. different from to apart i || not_there (is_below to from) refl i
    where
      not_there : (b : Bool) → is_below to from ≡ b → b ≡ false
      not_there true e = let none : None ≡ Some node = sym (nothing_below from e) ∙ there in cc
      not_there false e = refl

  gone : (q : List ℕ) → is_under to q ≡ true → fin.get (fin.remove m to) q ≡ None
  gone q u = by (bytes_eq q to) refl u
    where
      by : (b : Bool) → bytes_eq q to ≡ b → (b || is_below to q) ≡ true → fin.get (fin.remove m to) q ≡ None
      by true e u = get-remove path_total m to q ∙ ap (λ b. cond b None (fin.get m q)) (tie_bytes q to ∙ e)
      by false e u = get-remove path_total m to q ∙ ap (cond (ties q to) None) (nothing_below q u) ∙ none_either (ties q to)

  clear : Clear from to (fin.entries (fin.remove m to))
  clear = each_standing (λ q. is_under to q ≡ false) (fin.remove m to) (λ q stands. by q (is_under to q) refl stands)
    where
      by : (q : List ℕ) (b : Bool) → is_under to q ≡ b → is_some (fin.get (fin.remove m to) q) ≡ true → b ≡ false
      by q true e stands = let none : false ≡ true = sym (ap is_some (gone q e)) ∙ stands in cc
      by q false e stands = refl

  found_after : (p : List ℕ) → (p ≡ to → ⊥) → find path_cmp p (fin.entries (fin.remove m to)) ≡ fin.get m p
  found_after p differ = sym (get-entries (fin.remove m to) p) ∙ get-remove path_total m to p ∙ ap (λ b. cond b None (fin.get m p)) (not_tied p to differ)

  find_olds : (q : List ℕ) → find path_cmp q olds ≡ cond (is_below from q) (fin.get m q) None
  find_olds q =
      ap (find path_cmp q) are
      ∙ looked path_cmp q (filter (λ (e : List ℕ × Node). starts_with (from ++ 47 ∷ []) e.0) (fin.entries m))
      ∙ lookup-filter-keys (ties q) (is_below from) (is_below from q) (λ k tie. ap (is_below from) (sym (tie_is q k tie))) (fin.entries m)
      ∙ ap (λ o. cond (is_below from q) o None) (sym (looked path_cmp q (fin.entries m)) ∙ sym (get-entries m q))

  olds_below : AllByRecursion (λ (e : List ℕ × Node). is_below from e.0 ≡ true) olds
  olds_below = subst (λ (es : Nodes). AllByRecursion (λ (e : List ℕ × Node). is_below from e.0 ≡ true) es) (sym are) (recursion_from_All (λ (e : List ℕ × Node). is_below from e.0 ≡ true) _ (filter_passes (λ (e : List ℕ × Node). is_below from e.0) (fin.entries m)))

  olds_under : AllByRecursion (λ (e : List ℕ × Node). is_under from e.0 ≡ true) olds
  olds_under = all_map (λ (e : List ℕ × Node). is_below from e.0 ≡ true) (λ (e : List ℕ × Node). is_under from e.0 ≡ true) (λ e b. below_under from e.0 b) olds olds_below

  olds_whole : AllByRecursion (λ (e : List ℕ × Node). IsWhole e.0) olds
  olds_whole =
      subst (λ (es : Nodes). AllByRecursion (λ (e : List ℕ × Node). IsWhole e.0) es) (sym are)
      (all_filter (λ (e : List ℕ × Node). IsWhole e.0) (λ (e : List ℕ × Node). starts_with (from ++ 47 ∷ []) e.0) (fin.entries m) (each_standing IsWhole m space.whole))

  -- ---- what the calls on the way require

  pub long_enough : All (λ (e : List ℕ × Node). length from ≤ length e.0) olds
  long_enough =
      All-from_recursion (λ (e : List ℕ × Node). length from ≤ length e.0) olds
      (all_map (λ (e : List ℕ × Node). is_under from e.0 ≡ true) (λ (e : List ℕ × Node). length from ≤ length e.0)
      (λ e u. omega (arith, ap length (under_is from e.0 u).is, length-append from (drop (length from) e.0))) olds olds_under)

  absent_each : AllByRecursion (λ (e : List ℕ × Node). fin.get m e.0 ≡ None) (with_other_front from to olds)
  absent_each =
      all_moved from to (λ p. fin.get m p ≡ None) olds
      (all_map (λ (e : List ℕ × Node). is_below from e.0 ≡ true) (λ (e : List ℕ × Node). fin.get m (to ++ drop (length from) e.0) ≡ None)
      (λ e b. nothing_below (to ++ drop (length from) e.0) (ap (λ t. is_below to (to ++ t)) (rest_is from e.0 b) ∙ is_below_from to (drop (length (from ++ 47 ∷ [])) e.0))) olds olds_below)

  pub news_absent : All (λ (e : List ℕ × Node). fin.get m e.0 ≡ None) (with_other_front from to olds)
  news_absent = All-from_recursion (λ (e : List ℕ × Node). fin.get m e.0 ≡ None) (with_other_front from to olds) absent_each

  new_whole : (p : List ℕ) → IsWhole p → is_below from p ≡ true → IsWhole (to ++ drop (length from) p)
  new_whole p w b =
      let r = drop (length (from ++ 47 ∷ [])) p in
      let old = subst IsWhole (below_is from p b) w in
      let from_whole = space.whole from (ap is_some there) in
      subst (λ (t : List ℕ). IsWhole (to ++ t)) (sym (rest_is from p b))
      (with_rest to whole to_other r (rest_joined from from_whole from_other r old) (rest_allowed from from_whole from_other r old))

  pub news_whole : All (λ (e : List ℕ × Node). IsWhole e.0) (with_other_front from to olds)
  news_whole =
      All-from_recursion (λ (e : List ℕ × Node). IsWhole e.0) (with_other_front from to olds)
      (all_moved from to IsWhole olds
      (all_map₂ (λ (e : List ℕ × Node). IsWhole e.0) (λ (e : List ℕ × Node). is_below from e.0 ≡ true) (λ (e : List ℕ × Node). IsWhole (to ++ drop (length from) e.0)) (λ e w b. new_whole e.0 w b) olds olds_whole olds_below))

  pub news_rising : is_sorted path_cmp (with_other_front from to olds) ≡ true
  news_rising =
      rising-moved from to olds olds_under
      ∙ ap (is_sorted path_cmp) are ∙ rising-filter path_cmp (λ (e : List ℕ × Node). starts_with (from ++ 47 ∷ []) e.0) (fin.entries m) (entries-rise m)

  -- want of memory at the last step undoes the others
  pub all_undone : (put done : Paths) → ((q : List ℕ) → fin.get put q ≡ put_over (with_other_front from to olds) (fin.get m q) q) → ((q : List ℕ) → fin.get done q ≡ taken_away (with_other_front from to olds) (fin.get put q) q) → done ≡ m
  all_undone put done = undone_list put m done (with_other_front from to olds) absent_each

  -- ---- what stands at each path in the end

  abbrev in_the_end : List ℕ → Option Node
  in_the_end q = cond (ties q from) None (taken_away olds (cond (ties q to) (Some node) (put_over (with_other_front from to olds) (fin.get m q) q)) q)

  no_old : (s : List ℕ) → is_tail s ≡ true → find path_cmp (to ++ s) olds ≡ None
  no_old [] tail = find_olds (to ++ []) ∙ ap (λ b. cond b (fin.get m (to ++ [])) None) (ap (is_below from) (append-nil to) ∙ outside)
  no_old (b ∷ r) tail =
      let here = ap (λ c. fin.get m (to ++ c ∷ r)) (eqb-true b 47 tail) ∙ nothing_below (to ++ 47 ∷ r) (is_below_from to r) in
      find_olds (to ++ b ∷ r) ∙ ap (λ o. cond (is_below from (to ++ b ∷ r)) o None) here ∙ none_either (is_below from (to ++ b ∷ r))

  put_there : (s : List ℕ) → is_tail s ≡ true → cond (ties (to ++ s) to) (Some node) (put_over (with_other_front from to olds) (fin.get m (to ++ s)) (to ++ s)) ≡ fin.get m (from ++ s)
  put_there [] tail =
      ap (λ b. cond b (Some node) (put_over (with_other_front from to olds) (fin.get m (to ++ [])) (to ++ []))) (ap (λ p. ties p to) (append-nil to) ∙ tie_self to)
      ∙ sym there ∙ ap (fin.get m) (sym (append-nil from))
  put_there (b ∷ r) tail =
      let slash = eqb-true b 47 tail in
      let here = ap (λ c. fin.get m (to ++ c ∷ r)) slash ∙ nothing_below (to ++ 47 ∷ r) (is_below_from to r) in
      let longer : to ++ b ∷ r ≡ to → ⊥ = λ is. absurd (omega (arith, ap length is, length-append to (b ∷ r))) in
      ap (λ t. cond t (Some node) (put_over (with_other_front from to olds) (fin.get m (to ++ b ∷ r)) (to ++ b ∷ r))) (not_tied (to ++ b ∷ r) to longer)
      ∙ (λ i. or_else (moved-under from to (b ∷ r) olds olds_under i) (here i))
      ∙ or_none (find path_cmp (from ++ b ∷ r) olds)
      ∙ find_olds (from ++ b ∷ r)
      ∙ ap (λ t. cond t (fin.get m (from ++ b ∷ r)) None) (ap (λ c. is_below from (from ++ c ∷ r)) slash ∙ is_below_from from r)

  end-under : (s : List ℕ) → is_tail s ≡ true → in_the_end (to ++ s) ≡ fin.get (renamed m from to) (to ++ s)
  end-under s tail =
      let es = fin.entries (fin.remove m to) in
      ap (λ b. cond b None (taken_away olds (cond (ties (to ++ s) to) (Some node) (put_over (with_other_front from to olds) (fin.get m (to ++ s)) (to ++ s))) (to ++ s)))
      (not_tied (to ++ s) from (λ is. not_both (is_under to from) (ap (is_under to) (sym is) ∙ under-append to s tail) from_outside))
      ∙ ap (λ o. cond (is_some o) None (cond (ties (to ++ s) to) (Some node) (put_over (with_other_front from to olds) (fin.get m (to ++ s)) (to ++ s)))) (no_old s tail)
      ∙ put_there s tail
      ∙ sym (found_after (from ++ s) (λ is. not_both (is_under from to) (ap (is_under from) (sym is) ∙ under-append from s tail) to_outside))
      ∙ sym (after-under from to s es tail clear)
      ∙ sym (get-from_entries path_total (map {B = List ℕ × Node} (new_entry from to) es) (to ++ s))

  end-other : (q : List ℕ) → is_under to q ≡ false → in_the_end q ≡ fin.get (renamed m from to) q
  end-other q away =
      ap (λ b. cond (ties q from) None (taken_away olds (cond b (Some node) (put_over (with_other_front from to olds) (fin.get m q) q)) q)) (not_tied q to differ)
      ∙ ap (λ o. cond (ties q from) None (taken_away olds (or_else o (fin.get m q)) q)) (moved-other from to q away olds olds_under)
      ∙ ap (λ o. cond (ties q from) None (cond (is_some o) None (fin.get m q))) (find_olds q)
      ∙ ap (λ b. cond b None (cond (is_some (cond (is_below from q) (fin.get m q) None)) None (fin.get m q))) (tie_bytes q from)
      ∙ by (bytes_eq q from) (is_below from q) (after-other from to q away es) (after-gone from to q away es)
      ∙ sym (get-from_entries path_total (map {B = List ℕ × Node} (new_entry from to) es) q)
    where
      es : Nodes
      es = fin.entries (fin.remove m to)

      differ : q ≡ to → ⊥
      differ is = not_both (is_under to q) (ap (is_under to) is ∙ ap (λ b. b || is_below to to) (bytes_same to to refl)) away

      none_left : (o : Option Node) → cond (is_some o) None o ≡ None
      none_left None = refl
      none_left (Some v) = refl

      by : (a b : Bool) → ((a || b) ≡ false → after from to es q ≡ find path_cmp q es) → ((a || b) ≡ true → after from to es q ≡ None)
          → cond a None (cond (is_some (cond b (fin.get m q) None)) None (fin.get m q)) ≡ after from to es q
      by true b other gone = sym (gone refl)
      by false true other gone = none_left (fin.get m q) ∙ sym (gone refl)
      by false false other gone = sym (found_after q differ) ∙ sym (other refl)

  in_the_end_is : (q : List ℕ) → in_the_end q ≡ fin.get (renamed m from to) q
  in_the_end_is q = by (is_under to q) refl
    where
      by : (b : Bool) → is_under to q ≡ b → in_the_end q ≡ fin.get (renamed m from to) q
      by true e = let u = under_is to q e in subst (λ (p : List ℕ). in_the_end p ≡ fin.get (renamed m from to) p) (sym u.is) (end-under (drop (length to) q) u.tail)
      by false e = end-other q e

  -- the four steps: the paths below under their new names, the node itself, and the old names taken away
  pub renamed_is : (added set taken done : Paths) → ((q : List ℕ) → fin.get added q ≡ put_over (with_other_front from to olds) (fin.get m q) q) → set ≡ fin.insert added to node
      → ((q : List ℕ) → fin.get taken q ≡ taken_away olds (fin.get set q) q) → done ≡ fin.remove taken from → done ≡ renamed m from to
  renamed_is added set taken done a s t d = same_map path_total path_same done (renamed m from to) (λ q.
      ap (λ (n : Paths). fin.get n q) d ∙ get-remove path_total taken from q
      ∙ ap (cond (ties q from) None) (t q ∙ ap (λ o. taken_away olds o q) (ap (λ (n : Paths). fin.get n q) s ∙ get-insert path_total added to node q ∙ ap (cond (ties q to) (Some node)) (a q)))
      ∙ in_the_end_is q)
