-- The set of nodes that are given out, as it is kept.
use Rattle.std.proofs.Common.{◌≡◌, ◌≢◌, ℕ, zero, suc, ◌+◌, ◌-◌, ◌<◌, ◌≤◌, nat_eq, nat_lt, eqb, Bool, true, false, not, ◌&&◌, ◌||◌, ◌⊎◌, ⊎_elim, inl, inr, List, [], ◌∷◌, ◌++◌, length, filter, refl, sym, ap, subst, ◌∙◌, true≢false, arith, cond, map, set as set_at, Vec, vec_len, vec_capacity, Global}
use Rattle.std.proofs.lemmas.Bool.Decides.{nat_tests, eqb_tells}
use Rattle.std.specs.Ordering.{nat_cmp}
use Rattle.std.specs.Cmp.{nat_cmp_total, unsigned_tied}
use Rattle.std.specs.List.{list_any}
use Rattle.std.specs.FinSet as set
use Rattle.ufs_links.specs.declared.links.Links.TheInside.{Inside}
use Rattle.ufs_links.specs.NodeLists.{NodeLists, with_lists, empty_lists}
use Rattle.ufs_links.specs.Nodes.{has, nodes_in, without, IsOnNone}
use Rattle.ufs_links.specs.Chains.{AreApart}
use Rattle.ufs_links.specs.Kept.{below, given_of, AreGiven, IsKept}
use Rattle.ufs_links.proofs.NodeLemmas.{cons_lacks, has_cons, has-push, apart-push, has-without_other, has-without_same, lacks_from, length-le_from_apart}
use Rattle.ufs_links.proofs.StandLemmas.{in_map}
use Rattle.ufs_links.proofs.NumberLemmas.{empty_list}

swap_eq : (a b : ℕ) → nat_eq a b ≡ nat_eq b a
swap_eq a b = grind (arith, nat_tests)

has_turned : (xs : List ℕ) (n : ℕ) → list_any (λ y. nat_eq y n) xs ≡ has xs n
has_turned [] n = refl
has_turned (x ∷ xs) n = λ i. (swap_eq x n i || has_turned xs n i)

has-below : (k n : ℕ) → has (below k) n ≡ nat_lt n k
has-below zero n = grind (arith, nat_tests)
has-below (suc k) n = ap (λ b. nat_eq n k || b) (has-below k n) ∙ (let e : (nat_eq n k || nat_lt n k) ≡ nat_lt n (suc k) = ⊎_elim
    (λ (t : (eqb n k ≡ true) × (n ≡ k)). let s : nat_lt n (suc k) ≡ true = grind (arith, nat_tests) in rw (t.0, s) refl)
    (λ (t : (eqb n k ≡ false) × (n ≢ k)). let s : nat_lt n k ≡ nat_lt n (suc k) = grind (arith, nat_tests) in rw t.0 s) (eqb_tells n k) in e)

and_false : (b : Bool) → (b && false) ≡ false
and_false true = refl
and_false false = refl

filter_here : (p : ℕ → Bool) (xs : List ℕ) (n : ℕ) (b : Bool) → p n ≡ b → has (filter p xs) n ≡ (has xs n && p n) → has (filter p (n ∷ xs)) n ≡ (has (n ∷ xs) n && p n)
filter_here p xs n true e ih = let itself : nat_eq n n ≡ true = grind (arith, nat_tests) in rw (e, itself) refl
filter_here p xs n false e ih = let itself : nat_eq n n ≡ true = grind (arith, nat_tests) in rw (e, itself) (ih ∙ ap (λ b. has xs n && b) e ∙ and_false (has xs n))

filter_there : (p : ℕ → Bool) (x : ℕ) (xs : List ℕ) (n : ℕ) (b : Bool) → p x ≡ b → nat_eq n x ≡ false → has (filter p xs) n ≡ (has xs n && p n) → has (filter p (x ∷ xs)) n ≡ (has (x ∷ xs) n && p n)
filter_there p x xs n true e ne ih = rw e (rw ne ih)
filter_there p x xs n false e ne ih = rw e (rw ne ih)

has-filter : (p : ℕ → Bool) (xs : List ℕ) (n : ℕ) → has (filter p xs) n ≡ (has xs n && p n)
has-filter p [] n = refl
has-filter p (x ∷ xs) n = ⊎_elim
    (λ (t : (eqb n x ≡ true) × (n ≡ x)). subst (λ m. has (filter p (m ∷ xs)) n ≡ (has (m ∷ xs) n && p n)) t.1 (filter_here p xs n (p n) refl (has-filter p xs n)))
    (λ (t : (eqb n x ≡ false) × (n ≢ x)). filter_there p x xs n (p x) refl t.0 (has-filter p xs n))
    (eqb_tells n x)

pub contains-given_of : (used : ℕ) (released : List ℕ) (n : ℕ) → set.contains (given_of used released) n ≡ (nat_lt n used && not (has released n))
unfolding given_of
contains-given_of used released n =
    set.contains-from_list_nat (filter (λ m. not (has released m)) (below used)) n ∙ has_turned (filter (λ m. not (has released m)) (below used)) n
    ∙ has-filter (λ m. not (has released m)) (below used) n ∙ ap (λ b. b && not (has released n)) (has-below used n)

pub given_tells : (used : ℕ) (released : List ℕ) (n : ℕ) → set.contains (given_of used released) n ≡ true → (n < used) × (has released n ≡ false)
given_tells used released n e = both (nat_lt n used) (has released n) refl refl (sym (contains-given_of used released n) ∙ e) where
  both : (a b : Bool) → nat_lt n used ≡ a → has released n ≡ b → (a && not b) ≡ true → (n < used) × (has released n ≡ false)
  both true false lt lacks h = (grind (arith, nat_tests), lacks)
  both true true lt lacks h = absurd (true≢false (sym h))
  both false b lt lacks h = absurd (true≢false (sym h))

module _ (s t : set.FinSet nat_cmp) (node : ℕ) where
  pub same_as_insert : ((q : ℕ) → set.contains t q ≡ (nat_eq q node || set.contains s q)) → t ≡ set.insert s node
  same_as_insert each = set.same_set nat_cmp_total set.nat_cmp-IsAntisymmetric _ _ (λ q.
      each q ∙ ap (λ b. b || set.contains s q) (sym (unsigned_tied q node)) ∙ sym (set.contains-insert nat_cmp_total s node q))

  pub same_as_remove : ((q : ℕ) → set.contains t q ≡ (not (nat_eq q node) && set.contains s q)) → t ≡ set.remove s node
  same_as_remove each = set.same_set nat_cmp_total set.nat_cmp-IsAntisymmetric _ _ (λ q.
      each q ∙ ap (λ b. not b && set.contains s q) (sym (unsigned_tied q node)) ∙ sym (set.contains-remove nat_cmp_total s node q))

again_bool : (e l h : Bool) → (e ≡ true → (l ≡ true) × (h ≡ false)) → (l && not h) ≡ (e || (l && not (h || e)))
again_bool true l h here = let f = here refl in rw (f.0, f.1) refl
again_bool false l true here = refl
again_bool false l false here = refl

back_bool : (e l h : Bool) → (l && not (h || e)) ≡ (not e && (l && not h))
back_bool true true true = refl
back_bool true true false = refl
back_bool true false h = refl
back_bool false true true = refl
back_bool false true false = refl
back_bool false false h = refl

-- a released node is given out again
pub given_again : (used : ℕ) (rest : List ℕ) (node : ℕ) → node < used → has rest node ≡ false → given_of used rest ≡ set.insert (given_of used (rest ++ node ∷ [])) node
given_again used rest node lt lacks = same_as_insert (given_of used (rest ++ node ∷ [])) (given_of used rest) node (λ q.
    contains-given_of used rest q
    ∙ again_bool (nat_eq q node) (nat_lt q used) (has rest q) (λ e. let at : q ≡ node = grind (arith, nat_tests) in ((grind (arith, nat_tests)), ap (has rest) at ∙ lacks))
    ∙ ap (λ b. nat_eq q node || (nat_lt q used && not b)) (sym (has-push node q rest)) ∙ ap (λ b. nat_eq q node || b) (sym (contains-given_of used (rest ++ node ∷ []) q)))

-- a node is given out for the first time
pub given_first : (used : ℕ) → given_of (used + 1) [] ≡ set.insert (given_of used []) used
given_first used = same_as_insert (given_of used []) (given_of (used + 1) []) used (λ q.
    contains-given_of (used + 1) [] q ∙ next_bool q ∙ ap (λ b. nat_eq q used || b) (sym (contains-given_of used [] q))) where
      next_bool : (q : ℕ) → (nat_lt q (used + 1) && true) ≡ (nat_eq q used || (nat_lt q used && true))
      next_bool q = grind (arith, nat_tests)

-- a node comes back
pub given_back : (used : ℕ) (released : List ℕ) (node : ℕ) → given_of used (released ++ node ∷ []) ≡ set.remove (given_of used released) node
given_back used released node = same_as_remove (given_of used released) (given_of used (released ++ node ∷ [])) node (λ q.
    contains-given_of used (released ++ node ∷ []) q ∙ ap (λ b. nat_lt q used && not b) (has-push node q released) ∙ back_bool (nat_eq q node) (nat_lt q used) (has released q)
    ∙ ap (λ b. not (nat_eq q node) && b) (sym (contains-given_of used released q)))

pub not_given_past : (used : ℕ) (released : List ℕ) → set.contains (given_of used released) used ≡ false
not_given_past used released = contains-given_of used released used ∙ (let e : nat_lt used used ≡ false = grind (arith, nat_tests) in rw e refl)

pub not_given_released : (used : ℕ) (rest : List ℕ) (node : ℕ) → set.contains (given_of used (rest ++ node ∷ [])) node ≡ false
not_given_released used rest node = contains-given_of used (rest ++ node ∷ []) node ∙ ap (λ b. nat_lt node used && not b) (has-push node node rest ∙ here (has rest node)) ∙ and_false (nat_lt node used) where
  here : (b : Bool) → (b || nat_eq node node) ≡ true
  here true = refl
  here false = grind (arith, nat_tests)

set_has : (lists : List (List ℕ)) (list : ℕ) (ns : List ℕ) (l n : ℕ) → has (nodes_in (set_at lists list ns) l) n ≡ true → (has ns n ≡ true) ⊎ (has (nodes_in lists l) n ≡ true)
set_has [] list ns l n h = absurd (true≢false (sym h))
set_has (x ∷ lists) zero ns zero n h = inl h
set_has (x ∷ lists) zero ns (suc l) n h = inr h
set_has (x ∷ lists) (suc list) ns zero n h = inr h
set_has (x ∷ lists) (suc list) ns (suc l) n h = set_has lists list ns l n h

-- what is on a list is given out, after each change of the lists
given_set : (used : ℕ) (released : List ℕ) (lists : List (List ℕ)) (list : ℕ) (ns : List ℕ) → AreGiven used released lists
    → ((n : ℕ) → has ns n ≡ true → (n < used) × (has released n ≡ false)) → AreGiven used released (set_at lists list ns)
given_set used released lists list ns given new l n h = ⊎_elim (new n) (given l n) (set_has lists list ns l n h)

pub given_front : (used : ℕ) (released : List ℕ) (lists : List (List ℕ)) (list node : ℕ) → AreGiven used released lists → set.contains (given_of used released) node ≡ true
    → AreGiven used released (set_at lists list (node ∷ nodes_in lists list))
given_front used released lists list node given c = given_set used released lists list (node ∷ nodes_in lists list) given (λ n h. ⊎_elim
    (λ (e : n ≡ node). subst (λ m. (m < used) × (has released m ≡ false)) (sym e) (given_tells used released node c)) (λ (t : has (nodes_in lists list) n ≡ true). given list n t) (has_cons n node (nodes_in lists list) h))

pub given_push : (used : ℕ) (released : List ℕ) (lists : List (List ℕ)) (list node : ℕ) → AreGiven used released lists → set.contains (given_of used released) node ≡ true
    → AreGiven used released (set_at lists list (nodes_in lists list ++ node ∷ []))
given_push used released lists list node given c = given_set used released lists list (nodes_in lists list ++ node ∷ []) given (λ n h.
    cases n (has (nodes_in lists list) n) refl (sym (has-push node n (nodes_in lists list)) ∙ h)) where
      cases : (n : ℕ) (b : Bool) → has (nodes_in lists list) n ≡ b → (b || nat_eq n node) ≡ true → (n < used) × (has released n ≡ false)
      cases n true e h = given list n e
      cases n false e h = let at : n ≡ node = grind (arith, nat_tests) in subst (λ m. (m < used) × (has released m ≡ false)) (sym at) (given_tells used released node c)

pub given_without : (used : ℕ) (released : List ℕ) (lists : List (List ℕ)) (node : ℕ) → AreGiven used released lists → AreGiven used released (map (without node) lists)
given_without used released lists node given l n h =
    let g : has (without node (nodes_in lists l)) n ≡ true = subst (λ m. has m n ≡ true) (in_map node lists l) h in
    let ne : n ≢ node = λ e. true≢false (sym g ∙ ap (has (without node (nodes_in lists l))) e ∙ has-without_same node (nodes_in lists l)) in
    given l n (sym (has-without_other node n (nodes_in lists l) ne) ∙ g)

pub kept_first : (l : Inside) (f : NodeLists) (ls : List (List ℕ)) → IsKept l → f ≡ with_lists l.first ls → AreGiven l.used l.released.items ls
    → IsKept (record { first = f; second = l.second; nodes = l.nodes; used = l.used; released = l.released })
kept_first l f ls k e g = record {
  used = k.used;
  released = k.released;
  apart = k.apart;
  room = k.room;
  first_room = subst (λ n. l.nodes ≤ n) (ap (λ (v : NodeLists). v.nodes) (sym e)) k.first_room;
  second_room = k.second_room;
  first = subst (AreGiven l.used l.released.items) (ap (λ (v : NodeLists). v.lists) (sym e)) g;
  second = k.second;
}

pub kept_second : (l : Inside) (f : NodeLists) (ls : List (List ℕ)) → IsKept l → f ≡ with_lists l.second ls → AreGiven l.used l.released.items ls
    → IsKept (record { first = l.first; second = f; nodes = l.nodes; used = l.used; released = l.released })
kept_second l f ls k e g = record {
  used = k.used;
  released = k.released;
  apart = k.apart;
  room = k.room;
  first_room = k.first_room;
  second_room = subst (λ n. l.nodes ≤ n) (ap (λ (v : NodeLists). v.nodes) (sym e)) k.second_room;
  first = k.first;
  second = subst (AreGiven l.used l.released.items) (ap (λ (v : NodeLists). v.lists) (sym e)) g;
}

-- there is room for a node that comes back
pub room_for_one : (l : Inside) (node : ℕ) → IsKept l → node < l.used → has l.released.items node ≡ false → vec_len l.released < vec_capacity l.released
room_for_one l node k lt lacks =
    let few = length-le_from_apart (node ∷ l.released.items) l.used (lacks, k.apart) (λ q h. ⊎_elim
    (λ (e : q ≡ node). subst (λ m. m < l.used) (sym e) lt) (λ (t : has l.released.items q ≡ true). k.released q t) (has_cons q node l.released.items h)) in
    let le = k.room in
    let up = k.used in
    let len = l.released.ok.0 in
    omega arith

apart-front : (xs : List ℕ) (x : ℕ) → AreApart (xs ++ x ∷ []) → AreApart xs × (has xs x ≡ false)
apart-front [] x a = (tt, refl)
apart-front (y ∷ ys) x a =
    let f = apart-front ys x a.1 in
    let s = both_lack (has ys y) (nat_eq y x) (sym (has-push x y ys) ∙ a.0) in
    let ne : x ≢ y = λ e. let t = s.1 in let u : nat_eq y x ≡ true = grind (arith, nat_tests) in true≢false (sym u ∙ t) in
    ((s.0, f.0), cons_lacks x y ys ne f.1) where
      both_lack : (a b : Bool) → (a || b) ≡ false → (a ≡ false) × (b ≡ false)
      both_lack true b e = absurd (true≢false e)
      both_lack false b e = (refl, e)

-- a released node is given out: the others stay released
pub kept_popped : (l : Inside) (rest : Vec ℕ Global) (node : ℕ) → IsKept l → l.released.items ≡ rest.items ++ node ∷ [] → vec_capacity rest ≡ vec_capacity l.released
    → IsKept (record { first = l.first; second = l.second; nodes = l.nodes; used = l.used; released = rest })
kept_popped l rest node k e cap =
    let more : (n : ℕ) → has rest.items n ≡ true → has l.released.items n ≡ true = λ n h. ap (λ m. has m n) e ∙ has-push node n rest.items ∙ ap (λ b. b || nat_eq n node) h in
    let fewer : (n : ℕ) → has l.released.items n ≡ false → has rest.items n ≡ false = λ n h. lacks_from n rest.items (λ t. true≢false (sym (more n t) ∙ h)) in
    record {
      used = k.used;
      released = λ n h. k.released n (more n h);
      apart = (apart-front rest.items node (subst AreApart e k.apart)).0;
      room = subst (λ m. l.nodes ≤ m) (sym cap) k.room;
      first_room = k.first_room;
      second_room = k.second_room;
      first = λ i n h. let g = k.first i n h in (g.0, fewer n g.1);
      second = λ i n h. let g = k.second i n h in (g.0, fewer n g.1);
    }

pub popped_tells : (l : Inside) (rest : List ℕ) (node : ℕ) → IsKept l → l.released.items ≡ rest ++ node ∷ [] → (node < l.used) × (has rest node ≡ false)
popped_tells l rest node k e = (k.released node (ap (λ m. has m node) e ∙ has-push node node rest ∙ here (has rest node)), (apart-front rest node (subst AreApart e k.apart)).1) where
  here : (b : Bool) → (b || nat_eq node node) ≡ true
  here true = refl
  here false = grind (arith, nat_tests)

-- a node comes back
pub kept_pushed : (l : Inside) (more : Vec ℕ Global) (node : ℕ) → IsKept l → more.items ≡ l.released.items ++ node ∷ [] → vec_capacity l.released ≤ vec_capacity more
    → node < l.used → has l.released.items node ≡ false → IsOnNone l.first.lists node → IsOnNone l.second.lists node
    → IsKept (record { first = l.first; second = l.second; nodes = l.nodes; used = l.used; released = more })
kept_pushed l more node k e cap lt lacks first second =
    let le = k.room in
    record {
      used = k.used;
      released = λ n h. cases n (has l.released.items n) refl (sym (ap (λ m. has m n) e ∙ has-push node n l.released.items) ∙ h);
      apart = subst AreApart (sym e) (apart-push node l.released.items k.apart lacks);
      room = omega arith;
      first_room = k.first_room;
      second_room = k.second_room;
      first = λ i n h. let g = k.first i n h in (g.0, still n g.1 (λ at. true≢false (sym (subst (λ m. has (nodes_in l.first.lists i) m ≡ true) at h) ∙ first i)));
      second = λ i n h. let g = k.second i n h in (g.0, still n g.1 (λ at. true≢false (sym (subst (λ m. has (nodes_in l.second.lists i) m ≡ true) at h) ∙ second i)));
    } where
      cases : (n : ℕ) (b : Bool) → has l.released.items n ≡ b → (b || nat_eq n node) ≡ true → n < l.used
      cases n true g h = k.released n g
      cases n false g h = let at : n ≡ node = grind (arith, nat_tests) in subst (λ m. m < l.used) (sym at) lt

      still : (n : ℕ) → has l.released.items n ≡ false → (n ≡ node → ⊥) → has more.items n ≡ false
      still n g ne = let t : nat_eq n node ≡ false = grind (arith, nat_tests) in ap (λ m. has m n) e ∙ has-push node n l.released.items ∙ ap (λ b. b || nat_eq n node) g ∙ t

pub none_given : (released : List ℕ) → released ≡ [] → given_of 0 released ≡ set.empty
unfolding given_of
none_given released e = refl

none_left : (xs : List ℕ) → 0 ≡ length xs → xs ≡ []
none_left [] e = refl
none_left (x ∷ xs) e = absurd (omega arith)

-- where no node is released, the next one was never given out
pub given_next : (used : ℕ) (old new : Vec ℕ Global) → vec_len old ≡ 0 → vec_len new ≡ 0 → given_of (used + 1) new.items ≡ set.insert (given_of used old.items) used
given_next used old new o n =
    ap (given_of (used + 1)) (none_left new.items (sym n ∙ new.ok.0)) ∙ given_first used ∙ ap (λ l. set.insert (given_of used l) used) (sym (none_left old.items (sym o ∙ old.ok.0)))

-- nothing is on an empty list
pub none_on_empty : (used : ℕ) (released : List ℕ) → AreGiven used released empty_lists
none_on_empty used released l n h = absurd (true≢false (sym (sym (ap (λ m. has m n) (empty_list l)) ∙ h)))

-- ---- how many nodes there are

uncons_bool : (e l h : Bool) → (e ≡ true → (l ≡ true) × (h ≡ false)) → (l && not h) ≡ (e || (l && not (e || h)))
uncons_bool true l h here = let f = here refl in rw (f.0, f.1) refl
uncons_bool false l h here = refl

given_uncons : (used : ℕ) (rest : List ℕ) (node : ℕ) → node < used → has rest node ≡ false → given_of used rest ≡ set.insert (given_of used (node ∷ rest)) node
given_uncons used rest node lt lacks = same_as_insert (given_of used (node ∷ rest)) (given_of used rest) node (λ q.
    contains-given_of used rest q
    ∙ uncons_bool (nat_eq q node) (nat_lt q used) (has rest q) (λ e. let at : q ≡ node = grind (arith, nat_tests) in ((grind (arith, nat_tests)), ap (has rest) at ∙ lacks))
    ∙ ap (λ b. nat_eq q node || b) (sym (contains-given_of used (node ∷ rest) q)))

not_given_first : (used : ℕ) (rest : List ℕ) (node : ℕ) → set.contains (given_of used (node ∷ rest)) node ≡ false
not_given_first used rest node = contains-given_of used (node ∷ rest) node ∙ (let itself : nat_eq node node ≡ true = grind (arith, nat_tests) in rw itself (and_false (nat_lt node used)))

one_more : (s : set.FinSet nat_cmp) (node : ℕ) → set.contains s node ≡ false → set.len (set.insert s node) ≡ set.len s + 1
one_more s node lacks = set.len-insert nat_cmp_total s node ∙ ap (λ b. cond b (set.len s) (set.len s + 1)) lacks

len-given_none : (used : ℕ) → set.len (given_of used []) ≡ used
len-given_none zero = ap set.len (none_given [] refl) ∙ set.len-empty nat_cmp
len-given_none (suc used) =
    let next : suc used ≡ used + 1 = omega arith in
    ap (λ n. set.len (given_of n [])) next ∙ ap set.len (given_first used) ∙ one_more (given_of used []) used (not_given_past used []) ∙ ap (λ n. n + 1) (len-given_none used) ∙ sym next

-- Each node that there ever was is given out or released.
pub len-given_of : (used : ℕ) (released : List ℕ) → AreApart released → ((n : ℕ) → has released n ≡ true → n < used) → set.len (given_of used released) + length released ≡ used
len-given_of used [] apart within = let all = len-given_none used in omega (arith, all)
len-given_of used (node ∷ rest) apart within =
    let others = len-given_of used rest apart.1 (λ n h. within n (later (nat_eq n node) h)) in
    let less : set.len (given_of used rest) ≡ set.len (given_of used (node ∷ rest)) + 1 =
    ap set.len (given_uncons used rest node (within node (first node)) apart.0) ∙ one_more (given_of used (node ∷ rest)) node (not_given_first used rest node) in
    omega (arith, others, less) where
      later : (b : Bool) → {h : Bool} → h ≡ true → (b || h) ≡ true
      later true e = refl
      later false e = e

      first : (n : ℕ) → has (n ∷ rest) n ≡ true
      first n = let itself : nat_eq n n ≡ true = grind (arith, nat_tests) in rw itself refl

-- So many nodes there are.
pub len-nodes : (l : Inside) → IsKept l → set.len (given_of l.used l.released.items) + (length l.released.items + (l.nodes - l.used)) ≡ l.nodes
len-nodes l k =
    let all = len-given_of l.used l.released.items k.apart k.released in
    let most = k.used in
    omega (arith, all, most)
