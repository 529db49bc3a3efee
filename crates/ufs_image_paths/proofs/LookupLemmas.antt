-- What is found among entries by rising path, by halving.
use Rattle.std.proofs.Common.{◌≡◌, ℕ, suc, ◌+◌, ◌-◌, ◌<◌, ◌≤◌, List, [], ◌∷◌, ◌++◌, Bool, true, false, cond, Some, None, ap, sym, refl, ◌∙◌, map, length, take, drop, get_or, subst, arith, length-take, length-drop}
use Rattle.std.proofs.lemmas.Bool.{and_parts, and_from}
use Rattle.std.specs.declared.cmp.Ordering.TheVariants.{Less, Equal, Greater}
use Rattle.std.specs.Ordering.{is_eq, ordering_reverse}
use Rattle.std.specs.Cmp.{IsTotalOrder}
use Rattle.std.specs.declared.cmp.Ordering.{Ordering}
use Rattle.std.specs.FinMap.{find, is_sorted}
use Rattle.std.specs.FinMap.Entries.{below_all}
use Rattle.std.proofs.lemmas.List.{drop_more, map-append, take-append-drop, take_all}
use Rattle.ufs_model.specs.Order.{path_cmp}
use Rattle.ufs_model.specs.PathEntries.{are_rising, pairs_of}
use Rattle.ufs_model.specs.declared.data.PathEntry.{PathEntry}
use Rattle.ufs_model.specs.declared.data.PathNode.{PathNode}
use Rattle.ufs_model.proofs.Facts.Orders.{path_total}
use Rattle.ufs_model.proofs.Facts.Rising.{less}

module _ {K : Type 0} (R : K → K → Ordering) (o : IsTotalOrder R) where
  above_lower : (q x y : K) → R x y ≡ Less → R q y ≡ Greater → R q x ≡ Greater
  above_lower q x y lower above =
      let over : R y q ≡ Less = o.antisymm y q ∙ ap ordering_reverse above in
      o.antisymm q x ∙ ap ordering_reverse (o.trans x y q lower over)

module _ {K X : Type 0} (R : K → K → Ordering) (o : IsTotalOrder R) where
  -- a key below all the keys isn't among them
  below_none : (q k : K) (es : List (K × X)) → R q k ≡ Less → below_all R k es ≡ true → find R q es ≡ None
  below_none q k [] under h = refl
  below_none q k (e ∷ es) under h =
      let both = and_parts _ _ h in
      ap (λ r. cond (is_eq r) (Some e.1) (find R q es)) (o.trans q k e.0 under (less _ both.0)) ∙ below_none q k es under both.1

  rise_back : (front : List (K × X)) (e : K × X) (back : List (K × X)) → is_sorted R (front ++ e ∷ back) ≡ true → below_all R e.0 back ≡ true
  rise_back [] e back h = (and_parts _ _ h).0
  rise_back (x ∷ front) e back h = rise_back front e back (and_parts _ _ h).1

  -- what stands in front of an entry is below it
  least : (k : K) (front : List (K × X)) (e : K × X) (back : List (K × X)) → below_all R k (front ++ e ∷ back) ≡ true → R k e.0 ≡ Less
  least k [] e back h = less _ (and_parts _ _ h).0
  least k (x ∷ front) e back h = least k front e back (and_parts _ _ h).1

  below_front : (k : K) (front back : List (K × X)) → below_all R k (front ++ back) ≡ true → below_all R k front ≡ true
  below_front k [] back h = refl
  below_front k (x ∷ front) back h =
      let both = and_parts _ _ h in
      and_from _ _ both.0 (below_front k front back both.1)

  -- the parts rise
  pub front_rises : (front : List (K × X)) (back : List (K × X)) → is_sorted R (front ++ back) ≡ true → is_sorted R front ≡ true
  front_rises [] back h = refl
  front_rises (x ∷ front) back h =
      let both = and_parts _ _ h in
      and_from _ _ (below_front x.0 front back both.0) (front_rises front back both.1)

  pub back_rises : (front : List (K × X)) (e : K × X) (back : List (K × X)) → is_sorted R (front ++ e ∷ back) ≡ true → is_sorted R back ≡ true
  back_rises [] e back h = (and_parts _ _ h).1
  back_rises (x ∷ front) e back h = back_rises front e back (and_parts _ _ h).1

  -- a key that isn't below the entry isn't in front of it
  pass : (q : K) (x : K × X) (more : List (K × X)) → R q x.0 ≡ Greater → find R q (x ∷ more) ≡ find R q more
  pass q x more h = ap (λ r. cond (is_eq r) (Some x.1) (find R q more)) h

  pub find_under : (q : K) (front : List (K × X)) (e : K × X) (back : List (K × X)) → is_sorted R (front ++ e ∷ back) ≡ true → R q e.0 ≡ Less → find R q (front ++ e ∷ back) ≡ find R q front
  find_under q [] e back h under = ap (λ r. cond (is_eq r) (Some e.1) (find R q back)) under ∙ below_none q e.0 back under (and_parts _ _ h).0
  find_under q (x ∷ front) e back h under = ap (λ more. cond (is_eq (R q x.0)) (Some x.1) more) (find_under q front e back (and_parts _ _ h).1 under)

  pub find_over : (q : K) (front : List (K × X)) (e : K × X) (back : List (K × X)) → is_sorted R (front ++ e ∷ back) ≡ true → R q e.0 ≡ Greater → find R q (front ++ e ∷ back) ≡ find R q back
  find_over q [] e back h over = pass q e back over
  find_over q (x ∷ front) e back h over =
      let both = and_parts _ _ h in
      pass q x (front ++ e ∷ back) (above_lower R o q x.0 e.0 (least x.0 front e back both.0) over) ∙ find_over q front e back both.1 over

  pub find_here : (q : K) (front : List (K × X)) (e : K × X) (back : List (K × X)) → is_sorted R (front ++ e ∷ back) ≡ true → R q e.0 ≡ Equal → find R q (front ++ e ∷ back) ≡ Some e.1
  find_here q [] e back h tie = ap (λ r. cond (is_eq r) (Some e.1) (find R q back)) tie
  find_here q (x ∷ front) e back h tie =
      let both = and_parts _ _ h in
      let above : R q x.0 ≡ Greater = o.congr q e.0 x.0 tie ∙ o.antisymm e.0 x.0 ∙ ap ordering_reverse (least x.0 front e back both.0) in
      pass q x (front ++ e ∷ back) above ∙ find_here q front e back both.1 tie

-- ---- entries, cut at one of them

-- what stands before it, the entry, and what follows
cut_at : (es : List PathEntry) (mid : ℕ) (e : PathEntry) → mid < length es → e ≡ get_or es mid e → pairs_of es ≡ pairs_of (take mid es) ++ (e.path, e.node) ∷ pairs_of (drop (mid + 1) es)
cut_at es mid e below is =
    ap pairs_of (sym (take-append-drop mid es) ∙ ap (λ l. take mid es ++ l) (drop_more es mid e below ∙ ap (λ (x : PathEntry). x ∷ drop (mid + 1) es) (sym is)))
    ∙ map-append (λ (x : PathEntry). (x.path, x.node)) (take mid es) (e ∷ drop (mid + 1) es)

-- A part of the entries, in which the path is found as in all.
pub record IsPart (es : List PathEntry) (q : List ℕ) (left : List PathEntry) : Type 0 where
  pub few : length left ≤ length es
  pub rising : are_rising left ≡ true
  pub same : find path_cmp q (pairs_of left) ≡ find path_cmp q (pairs_of es)

module _ (es : List PathEntry) (q : List ℕ) (left : List PathEntry) (part : IsPart es q left) (mid : ℕ) (e : PathEntry) (below : mid < length left) (is : e ≡ get_or left mid e) where
  abbrev front : List (List ℕ × PathNode)
  front = pairs_of (take mid left)

  abbrev back : List (List ℕ × PathNode)
  back = pairs_of (drop (mid + 1) left)

  cut : pairs_of left ≡ front ++ (e.path, e.node) ∷ back
  cut = cut_at left mid e below is

  cut_rises : is_sorted path_cmp (front ++ (e.path, e.node) ∷ back) ≡ true
  cut_rises = sym (ap (is_sorted path_cmp) cut) ∙ part.rising

  pub part_under : path_cmp q e.path ≡ Less → IsPart es q (take mid left)
  part_under under = record {
    few = omega (arith, length-take mid left, part.few);
    rising = front_rises path_cmp path_total front ((e.path, e.node) ∷ back) cut_rises;
    same = sym (ap (find path_cmp q) cut ∙ find_under path_cmp path_total q front (e.path, e.node) back cut_rises under) ∙ part.same;
  }

  over : path_cmp q e.path ≡ Greater → IsPart es q (drop (mid + 1) left)
  over more = record {
    few = omega (arith, length-drop (mid + 1) left, part.few);
    rising = back_rises path_cmp path_total front (e.path, e.node) back cut_rises;
    same = sym (ap (find path_cmp q) cut ∙ find_over path_cmp path_total q front (e.path, e.node) back cut_rises more) ∙ part.same;
  }

  pub part_over : path_cmp q e.path ≡ Greater → IsPart es q (take (length left - (mid + 1)) (drop (mid + 1) left))
  part_over more =
      let all : length (drop (mid + 1) left) ≤ length left - (mid + 1) = omega (arith, length-drop (mid + 1) left) in
      subst (IsPart es q) (sym (take_all (length left - (mid + 1)) (drop (mid + 1) left) all)) (over more)

  pub part_here : path_cmp q e.path ≡ Equal → Some e.node ≡ find path_cmp q (pairs_of es)
  part_here same = sym (ap (find path_cmp q) cut ∙ find_here path_cmp path_total q front (e.path, e.node) back cut_rises same) ∙ part.same
