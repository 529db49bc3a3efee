-- What the pointers' writes do to the lists that they stand for.
use Rattle.std.proofs.Common.{◌≡◌, ◌≢◌, ℕ, zero, suc, ◌+◌, ◌<◌, ◌≤◌, nat_eq, eqb, Bool, true, false, ◌||◌, ◌⊎◌, ⊎_elim, inl, inr, List, [], ◌∷◌, ◌++◌, length, map, refl, sym, ap, subst, ◌∙◌, true≢false, arith, Option, None, Some, IsSome, IfSome, IfNone, slice_get, slice_index_or, option_and_then, replicate, length-append, vec_len, cond, get_or, set, get_or-set_same, get_or-set_other}
use Rattle.std.specs.Option.{option_map}
use Rattle.std.proofs.lemmas.Bool.Decides.{nat_tests, eqb_tells}
use Rattle.std.proofs.lemmas.List.{length-set, length-replicate, get_or_default}
use Rattle.ufs_links.specs.declared.pointers.Place.{Place}
use Rattle.ufs_links.specs.declared.pointers.Ends.{Ends}
use Rattle.ufs_links.specs.declared.pointers.Pointers.{Pointers}
use Rattle.ufs_links.specs.Pointers.{no_ends, ends_at, place_at, after_of, before_of, list_of, IsPlaced, SameSizes, Joined, Parted}
use Rattle.ufs_links.specs.Nodes.{has, without, next_in, nodes_in, IsOnNone, IsOnOne}
use Rattle.ufs_links.specs.NodeLists.{NodeLists, with_lists}
use Rattle.ufs_links.specs.Chains.{IsChain, AreApart, Stands, walk, walks, lists_of, node_lists}
use Rattle.ufs_links.proofs.NodeLemmas.{has_cons, has_here, has_there, has-push, apart-push, apart-without, has-without_other, has-without_same, without_lacking, lacks_from, length-le_from_apart}
use Rattle.ufs_links.proofs.ChainLemmas as chain

placed_below : (places : List (Option Place)) (n l : ℕ) → option_map (λ (q : Place). q.list) (slice_index_or places n None) ≡ Some l → n < length places
placed_below [] n l e = cc
placed_below (q ∷ places) zero l e = omega arith
placed_below (q ∷ places) (suc n) l e = let h = placed_below places n l e in omega arith

-- what is on a list is on one that is there
pub list_below : (lists : List (List ℕ)) (l n : ℕ) → has (nodes_in lists l) n ≡ true → l < length lists
list_below [] l n h = absurd (true≢false (sym h))
list_below (x ∷ lists) zero n h = omega arith
list_below (x ∷ lists) (suc l) n h = let s = list_below lists l n h in omega arith

some_same : (x y : ℕ) → ◌≡◌ {A = Option ℕ} (Some x) (Some y) → x ≡ y
some_same x y e = cc

walks_are : (p : Pointers) (ends : List Ends) (ls : List (List ℕ)) (l : ℕ) → length ls ≡ length ends
    → ((k : ℕ) → k < length ls → walk (after_of p (l + k)) (length p.places.items) None ≡ nodes_in ls k) → walks p l ends ≡ ls
walks_are p [] [] l e each = refl
walks_are p [] (x ∷ ls) l e each = absurd (omega arith)
walks_are p (d ∷ ends) [] l e each = absurd (omega arith)
walks_are p (d ∷ ends) (x ∷ ls) l e each =
    let here : l + 0 ≡ l = omega arith in
    let first : walk (after_of p l) (length p.places.items) None ≡ x = subst (λ k. walk (after_of p k) (length p.places.items) None ≡ x) here (each 0 (omega arith)) in
    let rest = walks_are p ends ls (l + 1) (omega arith) (λ k h.
    let next : l + suc k ≡ l + 1 + k = omega arith in subst (λ j. walk (after_of p j) (length p.places.items) None ≡ nodes_in ls k) next (each (suc k) (omega arith))) in
    λ i. first i ∷ rest i

-- the walks go through the lists that stand
pub lists_are : (p : Pointers) (ls : List (List ℕ)) → Stands p ls → lists_of p ≡ ls
unfolding lists_of
lists_are p ls s = walks_are p p.ends.items ls 0 s.count (λ k h.
    let at : 0 + k ≡ k = omega arith in
    subst (λ j. walk (after_of p j) (length p.places.items) None ≡ nodes_in ls k) (sym at)
    (chain.walk_chain (after_of p k) (before_of p k) (length p.places.items) None (nodes_in ls k) (s.chains k h)
    (length-le_from_apart (nodes_in ls k) (length p.places.items) (s.apart k) (λ q t. placed_below p.places.items q k (s.members k q t)))))

pub stands_again : (p : Pointers) (ls : List (List ℕ)) → Stands p ls → Stands p (lists_of p)
stands_again p ls s = subst (λ l. Stands p l) (sym (lists_are p ls s)) s

pub placed_from_list : (p : Pointers) (n l : ℕ) → list_of p n ≡ Some l → IsSome (place_at p n)
placed_from_list p n l e = elim (place_at p n) as (λ (o : Option Place). option_map (λ (q : Place). q.list) o ≡ Some l → IsSome o) [ None ↦ λ f. absurd (cc) | Some q ↦ λ f. refl ] e

placed_option : (p : Pointers) (o : Option ℕ) → ((q : ℕ) → o ≡ Some q → IsSome (place_at p q)) → IsPlaced p o
placed_option p None f = tt
placed_option p (Some q) f = f q refl

none_apart : (x : ℕ) → ◌≢◌ {A = Option ℕ} None (Some x)
none_apart x e = cc

some_apart : (x y : ℕ) → x ≢ y → ◌≢◌ {A = Option ℕ} (Some x) (Some y)
some_apart x y ne e = ne (some_same x y e)

pub in_same : (ls : List (List ℕ)) (l : ℕ) (ns : List ℕ) → l < length ls → nodes_in (set ls l ns) l ≡ ns
in_same ls l ns lt = get_or-set_same ls l ns [] lt

pub in_other : (ls : List (List ℕ)) (l k : ℕ) (ns : List ℕ) → k ≢ l → nodes_in (set ls l ns) k ≡ nodes_in ls k
in_other ls l k ns ne = get_or-set_other ls l k ns [] ne

pub in_map : (x : ℕ) (ls : List (List ℕ)) (l : ℕ) → nodes_in (map (without x) ls) l ≡ without x (nodes_in ls l)
in_map x [] l = refl
in_map x (n ∷ ls) zero = refl
in_map x (n ∷ ls) (suc l) = in_map x ls l

pub length_map : (x : ℕ) (ls : List (List ℕ)) → length (map (without x) ls) ≡ length ls
length_map x [] = refl
length_map x (n ∷ ls) = let e = length_map x ls in omega arith

module _ (p : Pointers) (ls : List (List ℕ)) (s : Stands p ls) where
  -- what the front and the back of a list name is on it
  pub front_on : (l : ℕ) → l < length ls → (q : ℕ) → after_of p l None ≡ Some q → has (nodes_in ls l) q ≡ true
  front_on l lt q e = chain.front_in (after_of p l) (before_of p l) None (nodes_in ls l) q (s.chains l lt) e

  pub back_on : (l : ℕ) → l < length ls → (q : ℕ) → before_of p l None ≡ Some q → has (nodes_in ls l) q ≡ true
  back_on l lt q e = chain.back_in (after_of p l) (before_of p l) None (nodes_in ls l) q (s.chains l lt) (none_apart q) e

  pub front_placed : (l : ℕ) (o : Option ℕ) → l < length ls → o ≡ after_of p l None → IsPlaced p o
  front_placed l o lt e = placed_option p o (λ q t. placed_from_list p q l (s.members l q (front_on l lt q (sym e ∙ t))))

  pub back_placed : (l : ℕ) (o : Option ℕ) → l < length ls → o ≡ before_of p l None → IsPlaced p o
  back_placed l o lt e = placed_option p o (λ q t. placed_from_list p q l (s.members l q (back_on l lt q (sym e ∙ t))))

  -- a node joins one list
  joins : (p' : Pointers) (list node : ℕ) (before after : Option ℕ) (ns : List ℕ) → list < length ls → IsOnNone ls node
      → ((q : ℕ) → before ≡ Some q → has (nodes_in ls list) q ≡ true) → ((q : ℕ) → after ≡ Some q → has (nodes_in ls list) q ≡ true)
      → Joined p p' list node before after → IsChain (after_of p' list) (before_of p' list) None ns → AreApart ns
      → ((n : ℕ) → has ns n ≡ true → (n ≡ node) ⊎ (has (nodes_in ls list) n ≡ true)) → has ns node ≡ true → ((n : ℕ) → has (nodes_in ls list) n ≡ true → has ns n ≡ true)
      → Stands p' (set ls list ns)
  joins p' list node before after ns lt off before_on after_on j c a only new all = record {
    count = length-set ls list ns ∙ s.count ∙ sym p.ends.ok.0 ∙ sym j.sizes.ends ∙ p'.ends.ok.0;
    chains = λ l low. ⊎_elim
        (λ (t : (eqb l list ≡ true) × (l ≡ list)). subst (λ k. IsChain (after_of p' k) (before_of p' k) None (nodes_in (set ls list ns) k)) (sym t.1)
        (subst (λ m. IsChain (after_of p' list) (before_of p' list) None m) (sym (in_same ls list ns lt)) c))
        (λ (t : (eqb l list ≡ false) × (l ≢ list)). subst (λ m. IsChain (after_of p' l) (before_of p' l) None m) (sym (in_other ls list l ns t.1))
        (chain.same_chain (after_of p l) (before_of p l) (after_of p' l) (before_of p' l) None (nodes_in ls l) (s.chains l (subst (λ n. l < n) (length-set ls list ns) low)) (j.fronts l t.1)
        (λ q h. (
          j.afters l (Some q) (λ e. t.1 (one_list l q h (before_on q (sym e)))) (some_apart q node (λ e. other_node q l h e)),
          j.befores l (Some q) (λ e. t.1 (one_list l q h (after_on q (sym e)))) (some_apart q node (λ e. other_node q l h e)),
        )) (j.backs l t.1)))
        (eqb_tells l list);
    members = λ l n h. ⊎_elim
        (λ (t : (eqb l list ≡ true) × (l ≡ list)).
        let within : has ns n ≡ true = subst (λ m. has m n ≡ true) (ap (nodes_in (set ls list ns)) t.1 ∙ in_same ls list ns lt) h in
        ⊎_elim (λ (e : n ≡ node). ap (list_of p') e ∙ j.list_node ∙ ap Some (sym t.1))
        (λ (g : has (nodes_in ls list) n ≡ true). j.lists n (λ e. other_node n list g e) ∙ s.members list n g ∙ ap Some (sym t.1)) (only n within))
        (λ (t : (eqb l list ≡ false) × (l ≢ list)).
        let g : has (nodes_in ls l) n ≡ true = subst (λ m. has m n ≡ true) (in_other ls list l ns t.1) h in
        j.lists n (λ e. other_node n l g e) ∙ s.members l n g)
        (eqb_tells l list);
    on = λ l n e. ⊎_elim
        (λ (t : (eqb n node ≡ true) × (n ≡ node)).
        let at : list ≡ l = some_same list l (sym j.list_node ∙ ap (list_of p') (sym t.1) ∙ e) in
        subst (λ k. has (nodes_in (set ls list ns) k) n ≡ true) at (subst (λ m. has m n ≡ true) (sym (in_same ls list ns lt)) (subst (λ m. has ns m ≡ true) (sym t.1) new)))
        (λ (t : (eqb n node ≡ false) × (n ≢ node)).
        let g = s.on l n (sym (j.lists n t.1) ∙ e) in
        ⊎_elim (λ (u : (eqb l list ≡ true) × (l ≡ list)). subst (λ k. has (nodes_in (set ls list ns) k) n ≡ true) (sym u.1)
        (subst (λ m. has m n ≡ true) (sym (in_same ls list ns lt)) (all n (subst (λ k. has (nodes_in ls k) n ≡ true) u.1 g))))
        (λ (u : (eqb l list ≡ false) × (l ≢ list)). subst (λ m. has m n ≡ true) (sym (in_other ls list l ns u.1)) g) (eqb_tells l list))
        (eqb_tells n node);
    apart = λ l. ⊎_elim
        (λ (t : (eqb l list ≡ true) × (l ≡ list)). subst (λ k. AreApart (nodes_in (set ls list ns) k)) (sym t.1) (subst AreApart (sym (in_same ls list ns lt)) a))
        (λ (t : (eqb l list ≡ false) × (l ≢ list)). subst AreApart (sym (in_other ls list l ns t.1)) (s.apart l))
        (eqb_tells l list);
  } where
    one_list : (l q : ℕ) → has (nodes_in ls l) q ≡ true → has (nodes_in ls list) q ≡ true → l ≡ list
    one_list l q h g = some_same l list (sym (s.members l q h) ∙ s.members list q g)

    other_node : (q l : ℕ) → has (nodes_in ls l) q ≡ true → q ≡ node → ⊥
    other_node q l h e = true≢false (sym (subst (λ m. has (nodes_in ls l) m ≡ true) e h) ∙ off l)

  pub joins_front : (p' : Pointers) (list node : ℕ) (front : Option ℕ) → list < length ls → IsOnNone ls node → front ≡ after_of p list None → Joined p p' list node None front
      → Stands p' (set ls list (node ∷ nodes_in ls list))
  joins_front p' list node front lt off is j =
      joins p' list node None front (node ∷ nodes_in ls list) lt off (λ q e. absurd (none_apart q e)) (λ q e. front_on list lt q (sym is ∙ e)) j
      (chain.pushed_front (after_of p list) (before_of p list) (after_of p' list) (before_of p' list) node front (sym is) j.after_before j.before_after (j.after_node (none_apart node))
      (j.before_node (λ e. true≢false (sym (front_on list lt node (sym is ∙ e)) ∙ off list))) (j.afters list) (j.befores list) (nodes_in ls list) (s.chains list lt) (off list))
      (off list, s.apart list) (λ n h. has_cons n node (nodes_in ls list) h) (has_here node (nodes_in ls list)) (λ n h. has_there n node (nodes_in ls list) h)

  pub joins_back : (p' : Pointers) (list node : ℕ) (back : Option ℕ) → list < length ls → IsOnNone ls node → back ≡ before_of p list None → Joined p p' list node back None
      → Stands p' (set ls list (nodes_in ls list ++ node ∷ []))
  joins_back p' list node back lt off is j =
      joins p' list node back None (nodes_in ls list ++ node ∷ []) lt off (λ q e. back_on list lt q (sym is ∙ e)) (λ q e. absurd (none_apart q e)) j
      (chain.pushed_back (after_of p list) (before_of p list) (after_of p' list) (before_of p' list) node back (sym is)
      (ap (after_of p list) is ∙ chain.back_is_last (after_of p list) (before_of p list) None (nodes_in ls list) (s.chains list lt)) j.after_before j.before_after
      (j.after_node (λ e. true≢false (sym (back_on list lt node (sym is ∙ e)) ∙ off list))) (j.before_node (none_apart node)) (j.afters list) (j.befores list) None (nodes_in ls list)
      (s.chains list lt) (none_apart node) (off list))
      (apart-push node (nodes_in ls list) (s.apart list) (off list))
      (λ n h. pushed_cases n (has (nodes_in ls list) n) refl (sym (has-push node n (nodes_in ls list)) ∙ h))
      (has-push node node (nodes_in ls list) ∙ (let e : nat_eq node node ≡ true = grind (arith, nat_tests) in ap (λ b. b || nat_eq node node) (off list) ∙ e))
      (λ n h. has-push node n (nodes_in ls list) ∙ ap (λ b. b || nat_eq n node) h) where
        pushed_cases : (n : ℕ) (b : Bool) → has (nodes_in ls list) n ≡ b → (b || nat_eq n node) ≡ true → (n ≡ node) ⊎ (has (nodes_in ls list) n ≡ true)
        pushed_cases n true e h = inr e
        pushed_cases n false e h = inl (grind (arith, nat_tests))

  -- a node leaves the list that it is on
  module _ (node : ℕ) (place : Place) (there : place_at p node ≡ Some place) where
    list_is : list_of p node ≡ Some place.list
    list_is = ap (λ (o : Option Place). option_map (λ (q : Place). q.list) o) there

    pub is_on : has (nodes_in ls place.list) node ≡ true
    is_on = s.on place.list node list_is

    pub list_there : place.list < length ls
    list_there = list_below ls place.list node is_on

    after_is : after_of p place.list (Some node) ≡ place.after
    after_is = ap (λ (o : Option Place). option_and_then (λ (q : Place). q.after) o) there

    before_is : before_of p place.list (Some node) ≡ place.before
    before_is = ap (λ (o : Option Place). option_and_then (λ (q : Place). q.before) o) there

    before_on : (q : ℕ) → place.before ≡ Some q → has (nodes_in ls place.list) q ≡ true
    before_on q e = chain.before_in (after_of p place.list) (before_of p place.list) None (nodes_in ls place.list) node q (s.chains place.list list_there) (none_apart q) is_on (before_is ∙ e)

    after_on : (q : ℕ) → place.after ≡ Some q → has (nodes_in ls place.list) q ≡ true
    after_on q e = chain.after_in (after_of p place.list) (before_of p place.list) None (nodes_in ls place.list) node q (s.chains place.list list_there) is_on (after_is ∙ e)

    pub before_placed : IsPlaced p place.before
    before_placed = placed_option p place.before (λ q e. placed_from_list p q place.list (s.members place.list q (before_on q e)))

    pub after_placed : IsPlaced p place.after
    after_placed = placed_option p place.after (λ q e. placed_from_list p q place.list (s.members place.list q (after_on q e)))

    pub next_is : (l : ℕ) → has (nodes_in ls l) node ≡ true → place.after ≡ next_in (nodes_in ls l) node
    next_is l h =
        let at : place.list ≡ l = some_same place.list l (sym list_is ∙ s.members l node h) in
        sym after_is ∙ ap (λ k. after_of p k (Some node)) at ∙ chain.next_is (after_of p l) (before_of p l) None (nodes_in ls l) node (s.chains l (list_below ls l node h)) (s.apart l) h

    other_list : (l q : ℕ) → l ≢ place.list → has (nodes_in ls l) q ≡ true → q ≢ node
    other_list l q ne h e = ne (some_same l place.list (sym (s.members l q h) ∙ ap (list_of p) e ∙ list_is))

    without_other : (l : ℕ) → l ≢ place.list → nodes_in (map (without node) ls) l ≡ nodes_in ls l
    without_other l ne = in_map node ls l ∙ without_lacking node (nodes_in ls l) (lacks_from node (nodes_in ls l) (λ h. other_list l node ne h refl))

    pub parts : (p' : Pointers) → Parted p p' node place → Stands p' (map (without node) ls)
    parts p' j =
        let around = chain.around (after_of p place.list) (before_of p place.list) None (nodes_in ls place.list) node (s.chains place.list list_there) is_on in
        let before_self : place.before ≢ Some node = λ e.
        chain.before_self (after_of p place.list) (before_of p place.list) None (nodes_in ls place.list) node (s.chains place.list list_there) (none_apart node) is_on (before_is ∙ e) in
        let after_self : place.after ≢ Some node = λ e.
        chain.after_self (after_of p place.list) (before_of p place.list) None (nodes_in ls place.list) node (s.chains place.list list_there) (none_apart node) is_on (after_is ∙ e) in
        let same_list : (l q : ℕ) → has (nodes_in ls l) q ≡ true → has (nodes_in ls place.list) q ≡ true → l ≡ place.list = λ l q h g.
        some_same l place.list (sym (s.members l q h) ∙ s.members place.list q g) in
        let off_node : (n l : ℕ) → has (without node (nodes_in ls l)) n ≡ true → n ≢ node = λ n l h e.
        true≢false (sym h ∙ ap (has (without node (nodes_in ls l))) e ∙ has-without_same node (nodes_in ls l)) in
        record {
          count = length_map node ls ∙ s.count ∙ sym p.ends.ok.0 ∙ sym j.sizes.ends ∙ p'.ends.ok.0;
          chains = λ l low. ⊎_elim
              (λ (t : (eqb l place.list ≡ true) × (l ≡ place.list)). subst (λ k. IsChain (after_of p' k) (before_of p' k) None (nodes_in (map (without node) ls) k)) (sym t.1)
              (subst (λ m. IsChain (after_of p' place.list) (before_of p' place.list) None m) (sym (in_map node ls place.list))
              (chain.removed (after_of p place.list) (before_of p place.list) (after_of p' place.list) (before_of p' place.list) node place.before place.after
              (ap (after_of p place.list) (sym before_is) ∙ around.0) (ap (before_of p place.list) (sym after_is) ∙ around.1) (j.afters place.list) (j.befores place.list)
              before_is after_is (j.after_before before_self) (j.before_after after_self) None (nodes_in ls place.list) (s.chains place.list list_there) (none_apart node) (s.apart place.list) is_on)))
              (λ (t : (eqb l place.list ≡ false) × (l ≢ place.list)). subst (λ m. IsChain (after_of p' l) (before_of p' l) None m) (sym (without_other l t.1))
              (chain.same_chain (after_of p l) (before_of p l) (after_of p' l) (before_of p' l) None (nodes_in ls l) (s.chains l (subst (λ n. l < n) (length_map node ls) low)) (j.fronts l t.1)
              (λ q h. (
                j.afters l (Some q) (λ e. t.1 (same_list l q h (before_on q (sym e)))) (some_apart q node (other_list l q t.1 h)),
                j.befores l (Some q) (λ e. t.1 (same_list l q h (after_on q (sym e)))) (some_apart q node (other_list l q t.1 h)),
              )) (j.backs l t.1)))
              (eqb_tells l place.list);
          members = λ l n h.
              let g : has (without node (nodes_in ls l)) n ≡ true = subst (λ m. has m n ≡ true) (in_map node ls l) h in
              let ne = off_node n l g in
              j.lists n ne ∙ s.members l n (sym (has-without_other node n (nodes_in ls l) ne) ∙ g);
          on = λ l n e. ⊎_elim
              (λ (t : (eqb n node ≡ true) × (n ≡ node)). absurd (none_apart l (sym j.off ∙ ap (list_of p') (sym t.1) ∙ e)))
              (λ (t : (eqb n node ≡ false) × (n ≢ node)).
              ap (λ m. has m n) (in_map node ls l) ∙ has-without_other node n (nodes_in ls l) t.1 ∙ s.on l n (sym (j.lists n t.1) ∙ e))
              (eqb_tells n node);
          apart = λ l. subst AreApart (sym (in_map node ls l)) (apart-without node (nodes_in ls l) (s.apart l));
        }

-- what a contract sees: the lists stand as long as the view is theirs
pub stands_for : (p : Pointers) (v : NodeLists) → node_lists p ≡ v → Stands p (lists_of p) → Stands p v.lists
stands_for p v e s = subst (λ (w : NodeLists). Stands p w.lists) e s

pub view_again : (p p' : Pointers) (v : NodeLists) (ls : List (List ℕ)) → node_lists p ≡ v → SameSizes p p' → Stands p' ls → node_lists p' ≡ with_lists v ls
view_again p p' v ls e z s =
    let nodes : length p'.places.items ≡ v.nodes = sym p'.places.ok.0 ∙ z.places ∙ p.places.ok.0 ∙ ap (λ (w : NodeLists). w.nodes) e in
    let lists = lists_are p' ls s in
    λ i. record { nodes = nodes i; lists = lists i }

pub front_answer : (p : Pointers) (ls : List (List ℕ)) → Stands p ls → (l : ℕ) → l < length ls → after_of p l None ≡ slice_get (nodes_in ls l) 0
front_answer p ls s l lt = chain.front_is (after_of p l) (before_of p l) None (nodes_in ls l) (s.chains l lt)

pub none_stand : (p : Pointers) → p.places.items ≡ [] → p.ends.items ≡ [] → Stands p []
none_stand p places ends = record {
  count = sym (ap length ends);
  chains = λ l lt. absurd (omega arith);
  members = λ l n h. absurd (true≢false (sym h));
  on = λ l n e. absurd (none_apart l (ap (λ (q : List (Option Place)). option_map (λ (o : Place). o.list) (slice_index_or q n None)) (sym places) ∙ e));
  apart = λ l. tt;
}

pub read_place : (p : Pointers) (ls : List (List ℕ)) → Stands p ls → (node : ℕ) → IsOnOne ls node → (o : Option Place) (q : Place) → o ≡ get_or p.places.items node o → o ≡ Some q → place_at p node ≡ Some q
read_place p ls s node on o q read is =
    let below : node < length p.places.items = placed_below p.places.items node on.0 (s.members on.0 node on.1) in
    get_or_default p.places.items node None o below ∙ sym read ∙ is

pub next_answer : (p : Pointers) (ls : List (List ℕ)) (s : Stands p ls) (node : ℕ) (place : Place) → place_at p node ≡ Some place → (l : ℕ) → has (nodes_in ls l) node ≡ true
    → place.after ≡ next_in (nodes_in ls l) node
next_answer p ls s node place there = next_is p ls s node place there

pub get_or-padded : {X : Type 0} (xs : List X) (m k : ℕ) (d : X) → get_or (xs ++ replicate m d) k d ≡ get_or xs k d
get_or-padded [] zero k d = refl
get_or-padded [] (suc m) zero d = refl
get_or-padded [] (suc m) (suc k) d = get_or-padded [] m k d
get_or-padded (x ∷ xs) m zero d = refl
get_or-padded (x ∷ xs) m (suc k) d = get_or-padded xs m k d

pub beyond : {X : Type 0} (xs : List X) (k : ℕ) (d : X) → length xs ≤ k → get_or xs k d ≡ d
beyond [] k d le = refl
beyond (x ∷ xs) zero d le = absurd (omega arith)
beyond (x ∷ xs) (suc k) d le = beyond xs k d (omega arith)

pub low_or_high : (a b : ℕ) → (a < b) ⊎ (b ≤ a)
low_or_high a zero = inr (omega arith)
low_or_high zero (suc b) = inl (omega arith)
low_or_high (suc a) (suc b) = ⊎_elim (λ (h : a < b). inl (omega arith)) (λ (h : b ≤ a). inr (omega arith)) (low_or_high a b)

-- pointers that say the same of every node and every list
pub same_pointers : (p p' : Pointers) (ls ls' : List (List ℕ)) → Stands p ls → ((n : ℕ) → place_at p' n ≡ place_at p n)
    → ((l : ℕ) → ends_at p' l ≡ ends_at p l) → ((l : ℕ) → nodes_in ls' l ≡ nodes_in ls l) → length ls' ≡ length p'.ends.items → Stands p' ls'
same_pointers p p' ls ls' s places ends lists count = record {
  count = count;
  chains = λ l lt. subst (λ m. IsChain (after_of p' l) (before_of p' l) None m) (sym (lists l))
      (subst (λ (f : Option ℕ → Option ℕ). IsChain f (before_of p' l) None (nodes_in ls l)) (λ i q. sym (same_after l q) i)
      (subst (λ (f : Option ℕ → Option ℕ). IsChain (after_of p l) f None (nodes_in ls l)) (λ i q. sym (same_before l q) i) (old_chain l)));
  members = λ l n h. same_list n ∙ s.members l n (subst (λ m. has m n ≡ true) (lists l) h);
  on = λ l n e. subst (λ m. has m n ≡ true) (sym (lists l)) (s.on l n (sym (same_list n) ∙ e));
  apart = λ l. subst AreApart (sym (lists l)) (s.apart l);
} where
  same_after : (l : ℕ) (q : Option ℕ) → after_of p' l q ≡ after_of p l q
  same_after l None = ap (λ (e : Ends). e.front) (ends l)
  same_after l (Some n) = ap (λ (o : Option Place). option_and_then (λ (q : Place). q.after) o) (places n)

  same_before : (l : ℕ) (q : Option ℕ) → before_of p' l q ≡ before_of p l q
  same_before l None = ap (λ (e : Ends). e.back) (ends l)
  same_before l (Some n) = ap (λ (o : Option Place). option_and_then (λ (q : Place). q.before) o) (places n)

  same_list : (n : ℕ) → list_of p' n ≡ list_of p n
  same_list n = ap (λ (o : Option Place). option_map (λ (q : Place). q.list) o) (places n)

  past_chain : (l : ℕ) → length ls ≤ l → IsChain (after_of p l) (before_of p l) None (nodes_in ls l)
  past_chain l le =
      let none = beyond p.ends.items l no_ends (subst (λ n. n ≤ l) s.count le) in
      subst (λ m. IsChain (after_of p l) (before_of p l) None m) (sym (beyond ls l [] le)) (ap (λ (e : Ends). e.front) none, ap (λ (e : Ends). e.back) none)

  old_chain : (l : ℕ) → IsChain (after_of p l) (before_of p l) None (nodes_in ls l)
  old_chain l = ⊎_elim (λ lt. s.chains l lt) (λ le. past_chain l le) (low_or_high l (length ls))

-- places for more nodes
pub more_places : (p p' : Pointers) (ls : List (List ℕ)) → Stands p ls → ((n : ℕ) → place_at p' n ≡ place_at p n) → p'.ends.items ≡ p.ends.items → Stands p' ls
more_places p p' ls s places ends =
    same_pointers p p' ls ls s places (λ l. ap (λ (e : List Ends). get_or e l no_ends) ends) (λ l. refl) (s.count ∙ ap length (sym ends))

-- more lists, or as many
pub more_lists : (p p' : Pointers) (ls : List (List ℕ)) (n : ℕ) (b : Bool) → Stands p ls → p'.places.items ≡ p.places.items → ((l : ℕ) → ends_at p' l ≡ ends_at p l)
    → vec_len p'.ends ≡ cond b (vec_len p.ends + n) (vec_len p.ends) → Stands p' (cond b (ls ++ replicate n []) ls)
more_lists p p' ls n true s places ends count =
    same_pointers p p' ls (ls ++ replicate n []) s (λ k. ap (λ (q : List (Option Place)). get_or q k None) places) ends (λ l. get_or-padded ls n l [])
    (length-append ls (replicate n []) ∙ ap (λ k. length ls + k) (length-replicate n []) ∙ ap (λ k. k + n) (s.count ∙ sym p.ends.ok.0) ∙ sym count ∙ p'.ends.ok.0)
more_lists p p' ls n false s places ends count =
    same_pointers p p' ls ls s (λ k. ap (λ (q : List (Option Place)). get_or q k None) places) ends (λ l. refl) (s.count ∙ sym p.ends.ok.0 ∙ sym count ∙ p'.ends.ok.0)

pub list_tells : (p : Pointers) (ls : List (List ℕ)) → Stands p ls → (node : ℕ) (o : Option ℕ) → o ≡ list_of p node → IfSome o (λ l. has (nodes_in ls l) node ≡ true) × IfNone o (IsOnNone ls node)
list_tells p ls s node None e = (tt, λ l. lacks_from node (nodes_in ls l) (λ h. none_apart l (e ∙ s.members l node h)))
list_tells p ls s node (Some l) e = (s.on l node (sym e), tt)
