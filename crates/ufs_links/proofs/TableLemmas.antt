-- What the table tells of a list, and what a node that joins or leaves does to it.
use Rattle.std.proofs.Common.{◌≡◌, ◌≢◌, ℕ, ◌<◌, ◌^◌, nat_eq, eqb, true, false, cond, ◌⊎◌, ⊎_elim, inl, inr, List, [], ◌∷◌, refl, sym, ap, subst, ◌∙◌, true≢false, arith, Option, None, Some}
use Rattle.std.proofs.lemmas.Bool.Decides.{eqb_tells}
use Rattle.std.specs.List.{find}
use Rattle.std.specs.Option.{option_map_or}
use Rattle.ufs_links.specs.Nodes.{has, without}
use Rattle.ufs_links.specs.Numbered.{Table, IsTable, IsFilled, slot_in, slot_by, list_by}
use Rattle.ufs_links.proofs.NodeLemmas.{has_cons, has_here, has_there, has-without_other, has-without_same}

some_same : (x y : ℕ) → ◌≡◌ {A = Option ℕ} (Some x) (Some y) → x ≡ y
some_same x y e = cc

module _ (number : ℕ → ℕ) (list : ℕ) where
  pub found_in : (xs : List ℕ) (s : ℕ) → slot_in number xs list ≡ Some s → (has xs s ≡ true) × (number s ≡ list)
  unfolding slot_in
  found_in [] s e = absurd (cc)
  found_in (x ∷ xs) s e = ⊎_elim
      (λ (t : (eqb (number x) list ≡ true) × (number x ≡ list)).
      let at : x ≡ s = some_same x s (sym (ap (λ b. cond b (Some x) (find (λ q. nat_eq (number q) list) xs)) t.0) ∙ e) in
      (subst (λ q. has (x ∷ xs) q ≡ true) at (has_here x xs), ap number (sym at) ∙ t.1))
      (λ (t : (eqb (number x) list ≡ false) × (number x ≢ list)).
      let ih = found_in xs s (sym (ap (λ b. cond b (Some x) (find (λ q. nat_eq (number q) list) xs)) t.0) ∙ e) in
      (has_there s x xs ih.0, ih.1))
      (eqb_tells (number x) list)

  pub is_found : (xs : List ℕ) (s : ℕ) → has xs s ≡ true → number s ≡ list → (q : ℕ) × (slot_in number xs list ≡ Some q)
  unfolding slot_in
  is_found [] s h e = absurd (true≢false (sym h))
  is_found (x ∷ xs) s h e = ⊎_elim
      (λ (t : (eqb (number x) list ≡ true) × (number x ≡ list)). (x, ap (λ b. cond b (Some x) (find (λ q. nat_eq (number q) list) xs)) t.0))
      (λ (t : (eqb (number x) list ≡ false) × (number x ≢ list)).
      let ih = is_found xs s (⊎_elim (λ (at : s ≡ x). absurd (t.1 (ap number (sym at) ∙ e))) (λ (g : has xs s ≡ true). g) (has_cons s x xs h)) e in
      (ih.0, ap (λ b. cond b (Some x) (find (λ q. nat_eq (number q) list) xs)) t.0 ∙ ih.1))
      (eqb_tells (number x) list)

module _ (t : Table) (i : IsTable t) where
  pub slot_tells : (l s : ℕ) → slot_by t l ≡ Some s → (t.number s ≡ l) × IsFilled (t.nodes s)
  slot_tells l s e = let f = found_in t.number l (t.chain (t.bucket l)) s e in (f.1, (i.found (t.bucket l) s f.0).1)

  pub slot_here : (s n : ℕ) → has (t.nodes s) n ≡ true → slot_by t (t.number s) ≡ Some s
  slot_here s n h =
      let f = is_found t.number (t.number s) (t.chain (t.bucket (t.number s))) s (i.listed s n h) refl in
      let g = slot_tells (t.number s) f.0 f.1 in
      f.1 ∙ ap Some (i.once f.0 s g.1.0 n g.1.1 h g.0)

  pub slot_none : (l : ℕ) → slot_by t l ≡ None → (s n : ℕ) → has (t.nodes s) n ≡ true → t.number s ≢ l
  slot_none l e s n h at = absurd (none (sym (ap (slot_by t) at) ∙ slot_here s n h)) where
    none : slot_by t l ≡ Some s → ⊥
    none g = let f : ◌≡◌ {A = Option ℕ} None (Some s) = sym e ∙ g in cc

  pub list_at : (l s : ℕ) → slot_by t l ≡ Some s → list_by t l ≡ t.nodes s
  unfolding list_by
  list_at l s e = ap (λ (o : Option ℕ). option_map_or t.nodes o []) e

  pub list_off : (l : ℕ) → slot_by t l ≡ None → list_by t l ≡ []
  unfolding list_by
  list_off l e = ap (λ (o : Option ℕ). option_map_or t.nodes o []) e

  pub list_here : (s n l : ℕ) → has (t.nodes s) n ≡ true → t.number s ≡ l → list_by t l ≡ t.nodes s
  list_here s n l h e = list_at l s (ap (slot_by t) (sym e) ∙ slot_here s n h)

  pub list_none : (l : ℕ) → ((s n : ℕ) → has (t.nodes s) n ≡ true → t.number s ≢ l) → list_by t l ≡ []
  list_none l never = cases (slot_by t l) refl where
    cases : (o : Option ℕ) → slot_by t l ≡ o → list_by t l ≡ []
    cases None e = list_off l e
    cases (Some s) e = let f = slot_tells l s e in absurd (never s f.1.0 f.1.1 f.0)

  pub slot_cases : (l : ℕ) → ((s : ℕ) × (slot_by t l ≡ Some s)) ⊎ (slot_by t l ≡ None)
  slot_cases l = cases (slot_by t l) refl where
    cases : (o : Option ℕ) → slot_by t l ≡ o → ((s : ℕ) × (slot_by t l ≡ Some s)) ⊎ (slot_by t l ≡ None)
    cases None e = inr e
    cases (Some s) e = inl (s, e)

  -- a list that has a node is the slot that has it
  pub list_has : (l n : ℕ) → has (list_by t l) n ≡ true → (s : ℕ) × (has (t.nodes s) n ≡ true) × (t.number s ≡ l)
  list_has l n h = ⊎_elim
      (λ (f : (s : ℕ) × (slot_by t l ≡ Some s)). (f.0, subst (λ m. has m n ≡ true) (list_at l f.0 f.1) h, (slot_tells l f.0 f.1).0))
      (λ (e : slot_by t l ≡ None). absurd (true≢false (sym (sym (ap (λ m. has m n) (list_off l e)) ∙ h))))
      (slot_cases l)

-- one slot has these nodes and this number, and the others stay
pub record SlotSet (t t' : Table) (s l : ℕ) (ns : List ℕ) : Type 0 where
  pub there : t'.nodes s ≡ ns
  pub others : (u : ℕ) → u ≢ s → t'.nodes u ≡ t.nodes u
  pub named : t'.number s ≡ l
  pub names : (u : ℕ) → u ≢ s → t'.number u ≡ t.number u
  pub own : (n : ℕ) → t'.own n ≡ t.own n
  pub bucket : (k : ℕ) → t'.bucket k ≡ t.bucket k
  pub listed : has (t'.chain (t.bucket l)) s ≡ true
  pub stays : (b u : ℕ) → has (t.chain b) u ≡ true → has (t'.chain b) u ≡ true
  pub only : (b u : ℕ) → has (t'.chain b) u ≡ true → (has (t.chain b) u ≡ true) ⊎ ((u ≡ s) × (b ≡ t.bucket l))

-- why a node may join this slot
pub record MayJoin (t : Table) (s l node : ℕ) (ns : List ℕ) : Type 0 where
  pub small : l < 2 ^ 32
  pub off : (u : ℕ) → has (t.nodes u) node ≡ false
  pub only : (n : ℕ) → has ns n ≡ true → (n ≡ node) ⊎ (has (t.nodes s) n ≡ true)
  pub new : has ns node ≡ true
  pub owned : (n : ℕ) → t.own n ≡ s → has ns n ≡ true
  pub was : (n : ℕ) → has (t.nodes s) n ≡ true → t.number s ≡ l
  pub free : (u n : ℕ) → u ≢ s → has (t.nodes u) n ≡ true → t.number u ≢ l

module _ (t t' : Table) (s l node : ℕ) (ns : List ℕ) (i : IsTable t) (w : SlotSet t t' s l ns) (j : MayJoin t s l node ns) where
  at_slot : (u : ℕ) → ((u ≡ s) ⊎ (u ≢ s))
  at_slot u = ⊎_elim (λ (h : (eqb u s ≡ true) × (u ≡ s)). inl h.1) (λ (h : (eqb u s ≡ false) × (u ≢ s)). inr h.1) (eqb_tells u s)

  in_slot : (n : ℕ) → has (t'.nodes s) n ≡ true → has ns n ≡ true
  in_slot n h = subst (λ m. has m n ≡ true) w.there h

  elsewhere : (u n : ℕ) → u ≢ s → has (t'.nodes u) n ≡ true → has (t.nodes u) n ≡ true
  elsewhere u n ne h = subst (λ m. has m n ≡ true) (w.others u ne) h

  there_too : (u n : ℕ) → u ≢ s → has (t.nodes u) n ≡ true → has (t'.nodes u) n ≡ true
  there_too u n ne h = subst (λ m. has m n ≡ true) (sym (w.others u ne)) h

  was_or_new : (u n : ℕ) → has (t'.nodes u) n ≡ true → ((u ≡ s) × (n ≡ node)) ⊎ (has (t.nodes u) n ≡ true)
  was_or_new u n h = ⊎_elim
      (λ (e : u ≡ s). ⊎_elim (λ (at : n ≡ node). inl (e, at)) (λ (g : has (t.nodes s) n ≡ true). inr (subst (λ q. has (t.nodes q) n ≡ true) (sym e) g))
      (j.only n (in_slot n (subst (λ q. has (t'.nodes q) n ≡ true) e h))))
      (λ (ne : u ≢ s). inr (elsewhere u n ne h)) (at_slot u)

  never : (u n : ℕ) → n ≡ node → has (t.nodes u) n ≡ true → ⊥
  never u n e h = true≢false (sym h ∙ ap (has (t.nodes u)) e ∙ j.off u)

  filled : IsFilled (t'.nodes s)
  filled = (node, subst (λ m. has m node ≡ true) (sym w.there) j.new)

  filled_at : (u n : ℕ) → has (t.nodes u) n ≡ true → IsFilled (t'.nodes u)
  filled_at u n h = ⊎_elim (λ (e : u ≡ s). subst (λ q. IsFilled (t'.nodes q)) (sym e) filled) (λ (ne : u ≢ s). (n, there_too u n ne h)) (at_slot u)

  pub joined_table : IsTable t'
  joined_table = record {
    one = λ a b n ha hb. ⊎_elim
        (λ (ea : (a ≡ s) × (n ≡ node)). ⊎_elim (λ (eb : (b ≡ s) × (n ≡ node)). ea.0 ∙ sym eb.0) (λ (g : has (t.nodes b) n ≡ true). absurd (never b n ea.1 g)) (was_or_new b n hb))
        (λ (f : has (t.nodes a) n ≡ true). ⊎_elim (λ (eb : (b ≡ s) × (n ≡ node)). absurd (never a n eb.1 f)) (λ (g : has (t.nodes b) n ≡ true). i.one a b n f g) (was_or_new b n hb))
        (was_or_new a n ha);
    owns = λ n m h. ⊎_elim
        (λ (e : t'.own n ≡ s). subst (λ q. has (t'.nodes q) n ≡ true) (sym e) (subst (λ q. has q n ≡ true) (sym w.there) (j.owned n (sym (w.own n) ∙ e))))
        (λ (ne : t'.own n ≢ s).
        let g : has (t.nodes (t'.own n)) m ≡ true = elsewhere (t'.own n) m ne h in
        let o : has (t.nodes (t'.own n)) n ≡ true = subst (λ q. has (t.nodes q) n ≡ true) (sym (w.own n)) (i.owns n m (subst (λ q. has (t.nodes q) m ≡ true) (w.own n) g)) in
        there_too (t'.own n) n ne o)
        (at_slot (t'.own n));
    apart = λ n m e. i.apart n m (sym (w.own n) ∙ e ∙ w.own m);
    listed = λ u n h. ⊎_elim
        (λ (e : u ≡ s). subst (λ q. has (t'.chain (t'.bucket (t'.number q))) q ≡ true) (sym e)
        (subst (λ b. has (t'.chain b) s ≡ true) (sym (ap t'.bucket w.named ∙ w.bucket l)) w.listed))
        (λ (ne : u ≢ s). subst (λ b. has (t'.chain b) u ≡ true) (sym (ap t'.bucket (w.names u ne) ∙ w.bucket (t.number u)))
        (w.stays (t.bucket (t.number u)) u (i.listed u n (elsewhere u n ne h))))
        (at_slot u);
    found = λ b u h. ⊎_elim
        (λ (g : has (t.chain b) u ≡ true).
        let f = i.found b u g in (
          ⊎_elim (λ (e : u ≡ s). f.0 ∙ ap (λ q. t.bucket (t.number q)) e ∙ ap t.bucket (j.was f.1.0 (subst (λ q. has (t.nodes q) f.1.0 ≡ true) e f.1.1)) ∙ sym (w.bucket l) ∙ ap t'.bucket (sym w.named) ∙ ap (λ q. t'.bucket (t'.number q)) (sym e))
              (λ (ne : u ≢ s). f.0 ∙ sym (w.bucket (t.number u)) ∙ ap t'.bucket (sym (w.names u ne))) (at_slot u),
          filled_at u f.1.0 f.1.1,
        ))
        (λ (g : (u ≡ s) × (b ≡ t.bucket l)). (g.1 ∙ sym (w.bucket l) ∙ ap t'.bucket (sym w.named) ∙ ap (λ q. t'.bucket (t'.number q)) (sym g.0), subst (λ q. IsFilled (t'.nodes q)) (sym g.0) filled))
        (w.only b u h);
    once = λ a b n m ha hb e. ⊎_elim
        (λ (ea : a ≡ s). ⊎_elim (λ (eb : b ≡ s). ea ∙ sym eb)
        (λ (nb : b ≢ s). absurd (j.free b m nb (elsewhere b m nb hb) (sym (w.names b nb) ∙ sym e ∙ ap t'.number ea ∙ w.named))) (at_slot b))
        (λ (na : a ≢ s). ⊎_elim (λ (eb : b ≡ s). absurd (j.free a n na (elsewhere a n na ha) (sym (w.names a na) ∙ e ∙ ap t'.number eb ∙ w.named)))
        (λ (nb : b ≢ s). i.once a b n m (elsewhere a n na ha) (elsewhere b m nb hb) (sym (w.names a na) ∙ e ∙ w.names b nb)) (at_slot b))
        (at_slot a);
    small = λ u n h. ⊎_elim
        (λ (e : u ≡ s). subst (λ q. q < 2 ^ 32) (sym (ap t'.number e ∙ w.named)) j.small)
        (λ (ne : u ≢ s). subst (λ q. q < 2 ^ 32) (sym (w.names u ne)) (i.small u n (elsewhere u n ne h)))
        (at_slot u);
  }

  pub joined_list : list_by t' l ≡ ns
  unfolding filled
  joined_list = list_here t' joined_table s node l filled.1 w.named ∙ w.there

  pub joined_others : (k : ℕ) → k ≢ l → list_by t' k ≡ list_by t k
  joined_others k nk = ⊎_elim
      (λ (f : (u : ℕ) × (slot_by t k ≡ Some u)).
      let g = slot_tells t i k f.0 f.1 in
      let ne : f.0 ≢ s = λ e. nk (sym g.0 ∙ ap t.number e ∙ j.was g.1.0 (subst (λ q. has (t.nodes q) g.1.0 ≡ true) e g.1.1)) in
      list_here t' joined_table f.0 g.1.0 k (there_too f.0 g.1.0 ne g.1.1) (w.names f.0 ne ∙ g.0) ∙ w.others f.0 ne ∙ sym (list_at t i k f.0 f.1))
      (λ (e : slot_by t k ≡ None).
      list_none t' joined_table k (λ u n h at. ⊎_elim (λ (e : u ≡ s). nk (sym at ∙ ap t'.number e ∙ w.named))
      (λ (ne : u ≢ s). slot_none t i k e u n (elsewhere u n ne h) (sym (w.names u ne) ∙ at)) (at_slot u)) ∙ sym (list_off t i k e))
      (slot_cases t i k)

-- a node leaves the slot that it is in
pub record NodeLeft (t t' : Table) (node : ℕ) : Type 0 where
  pub nodes : (u : ℕ) → t'.nodes u ≡ without node (t.nodes u)
  pub number : (u : ℕ) → t'.number u ≡ t.number u
  pub bucket : (k : ℕ) → t'.bucket k ≡ t.bucket k
  pub owns : (n m : ℕ) → has (t'.nodes (t'.own n)) m ≡ true → has (t'.nodes (t'.own n)) n ≡ true
  pub apart : (n m : ℕ) → t'.own n ≡ t'.own m → n ≡ m
  pub stays : (b u n : ℕ) → has (t'.nodes u) n ≡ true → has (t.chain b) u ≡ true → has (t'.chain b) u ≡ true
  pub only : (b u : ℕ) → has (t'.chain b) u ≡ true → (has (t.chain b) u ≡ true) × IsFilled (t'.nodes u)

module _ (t t' : Table) (node : ℕ) (nodes : (u : ℕ) → t'.nodes u ≡ without node (t.nodes u)) where
  pub other_than : (u n : ℕ) → has (t'.nodes u) n ≡ true → n ≢ node
  other_than u n h e = true≢false (sym h ∙ ap (λ m. has m n) (nodes u) ∙ ap (has (without node (t.nodes u))) e ∙ has-without_same node (t.nodes u))

  pub was_there : (u n : ℕ) → has (t'.nodes u) n ≡ true → has (t.nodes u) n ≡ true
  was_there u n h = sym (has-without_other node n (t.nodes u) (other_than u n h)) ∙ ap (λ m. has m n) (sym (nodes u)) ∙ h

  pub still_there : (u n : ℕ) → n ≢ node → has (t.nodes u) n ≡ true → has (t'.nodes u) n ≡ true
  still_there u n ne h = ap (λ m. has m n) (nodes u) ∙ has-without_other node n (t.nodes u) ne ∙ h

module _ (t t' : Table) (node : ℕ) (i : IsTable t) (w : NodeLeft t t' node) where
  was : (u n : ℕ) → has (t'.nodes u) n ≡ true → has (t.nodes u) n ≡ true
  was = was_there t t' node w.nodes

  pub left_table : IsTable t'
  left_table = record {
    one = λ a b n ha hb. i.one a b n (was a n ha) (was b n hb);
    owns = w.owns;
    apart = w.apart;
    listed = λ u n h. w.stays (t'.bucket (t'.number u)) u n h (subst (λ b. has (t.chain b) u ≡ true) (sym (w.bucket (t.number u)) ∙ ap t'.bucket (sym (w.number u))) (i.listed u n (was u n h)));
    found = λ b u h. let o = w.only b u h in ((i.found b u o.0).0 ∙ sym (w.bucket (t.number u)) ∙ ap t'.bucket (sym (w.number u)), o.1);
    once = λ a b n m ha hb e. i.once a b n m (was a n ha) (was b m hb) (sym (w.number a) ∙ e ∙ w.number b);
    small = λ u n h. subst (λ q. q < 2 ^ 32) (sym (w.number u)) (i.small u n (was u n h));
  }

  pub left_list : (k : ℕ) → list_by t' k ≡ without node (list_by t k)
  left_list k = ⊎_elim
      (λ (f : (u : ℕ) × (slot_by t k ≡ Some u)). in_slot f.0 f.1 (t'.nodes f.0) refl ∙ w.nodes f.0 ∙ ap (without node) (sym (list_at t i k f.0 f.1)))
      (λ (e : slot_by t k ≡ None). list_none t' left_table k (λ u n h at. slot_none t i k e u n (was u n h) (sym (w.number u) ∙ at)) ∙ ap (without node) (sym (list_off t i k e)))
      (slot_cases t i k) where
        in_slot : (u : ℕ) → slot_by t k ≡ Some u → (xs : List ℕ) → t'.nodes u ≡ xs → list_by t' k ≡ t'.nodes u
        in_slot u f [] e = list_none t' left_table k (λ v n h at.
            let g = slot_tells t i k u f in
            let same : v ≡ u = i.once v u n g.1.0 (was v n h) g.1.1 (sym (w.number v) ∙ at ∙ sym g.0) in
            true≢false (sym (sym (ap (λ m. has m n) (ap t'.nodes same ∙ e)) ∙ h))) ∙ sym e
        in_slot u f (x ∷ xs) e = list_here t' left_table u x k (ap (λ m. has m x) e ∙ has_here x xs) (w.number u ∙ (slot_tells t i k u f).0)

module _ (t t' : Table) (node s : ℕ) (i : IsTable t) (on : has (t.nodes s) node ≡ true) (nodes : (u : ℕ) → t'.nodes u ≡ without node (t.nodes u))
    (number : (u : ℕ) → t'.number u ≡ t.number u) (bucket : (k : ℕ) → t'.bucket k ≡ t.bucket k) where
  -- the others of a slot stay there
  filled_still : (u n : ℕ) → has (t.nodes u) n ≡ true → u ≢ s → IsFilled (t'.nodes u)
  filled_still u n h ne = (n, still_there t t' node nodes u n (λ e. ne (i.one u s node (subst (λ q. has (t.nodes u) q ≡ true) e h) on)) h)

  -- where the slot's owner isn't the node, or the slot is empty now, each owns what it did
  own_same : (n m : ℕ) → (n ≡ node → t.own n ≡ s → has (t'.nodes s) m ≡ true → ⊥) → has (t'.nodes (t.own n)) m ≡ true → has (t'.nodes (t.own n)) n ≡ true
  own_same n m never h =
      let o : has (t.nodes (t.own n)) n ≡ true = i.owns n m (was_there t t' node nodes (t.own n) m h) in
      still_there t t' node nodes (t.own n) n (λ e.
      let at : t.own n ≡ s = i.one (t.own n) s node (subst (λ q. has (t.nodes (t.own n)) q ≡ true) e o) on in
      never e at (subst (λ q. has (t'.nodes q) m ≡ true) at h)) o

  -- it was the last one
  pub left_empty : t'.nodes s ≡ [] → ((n : ℕ) → t'.own n ≡ t.own n) → ((b : ℕ) → t'.chain b ≡ without s (t.chain b)) → NodeLeft t t' node
  left_empty none own chain = record {
    nodes = nodes;
    number = number;
    bucket = bucket;
    owns = λ n m h. subst (λ q. has (t'.nodes q) n ≡ true) (sym (own n))
        (own_same n m (λ e at g. true≢false (sym (sym (ap (λ q. has q m) none) ∙ g))) (subst (λ q. has (t'.nodes q) m ≡ true) (own n) h));
    apart = λ n m e. i.apart n m (sym (own n) ∙ e ∙ own m);
    stays = λ b u n h g. ap (λ q. has q u) (chain b)
        ∙ has-without_other s u (t.chain b) (λ e. true≢false (sym (sym (ap (λ q. has q n) none) ∙ subst (λ q. has (t'.nodes q) n ≡ true) e h))) ∙ g;
    only = λ b u h.
        let ne : u ≢ s = λ e. true≢false (sym h ∙ ap (λ q. has q u) (chain b) ∙ ap (has (without s (t.chain b))) e ∙ has-without_same s (t.chain b)) in
        let g : has (t.chain b) u ≡ true = sym (has-without_other s u (t.chain b) ne) ∙ ap (λ q. has q u) (sym (chain b)) ∙ h in
        let f = i.found b u g in
        (g, filled_still u f.1.0 f.1.1 ne);
  }

  module _ (next : ℕ) (stays : has (t'.nodes s) next ≡ true) (chain : (b : ℕ) → t'.chain b ≡ t.chain b) where
    only_kept : (b u : ℕ) → has (t'.chain b) u ≡ true → (has (t.chain b) u ≡ true) × IsFilled (t'.nodes u)
    only_kept b u h =
        let g : has (t.chain b) u ≡ true = sym (ap (λ q. has q u) (chain b)) ∙ h in
        let f = i.found b u g in (
          g,
          ⊎_elim (λ (e : (eqb u s ≡ true) × (u ≡ s)). subst (λ q. IsFilled (t'.nodes q)) (sym e.1) (next, stays))
              (λ (e : (eqb u s ≡ false) × (u ≢ s)). filled_still u f.1.0 f.1.1 e.1) (eqb_tells u s),
        )

    -- the slot's owner stays
    pub left_kept : t.own node ≢ s → ((n : ℕ) → t'.own n ≡ t.own n) → NodeLeft t t' node
    left_kept apart own = record {
      nodes = nodes;
      number = number;
      bucket = bucket;
      owns = λ n m h. subst (λ q. has (t'.nodes q) n ≡ true) (sym (own n))
          (own_same n m (λ e at g. apart (ap t.own (sym e) ∙ at)) (subst (λ q. has (t'.nodes q) m ≡ true) (own n) h));
      apart = λ n m e. i.apart n m (sym (own n) ∙ e ∙ own m);
      stays = λ b u n h g. ap (λ q. has q u) (chain b) ∙ g;
      only = only_kept;
    }

    -- the node owns the slot: it swaps slots with one that stays
    module _ (mine : t.own node ≡ s) (passed : t'.own next ≡ s) (taken : t'.own node ≡ t.own next) (others : (n : ℕ) → n ≢ next → n ≢ node → t'.own n ≡ t.own n) where
      differs : next ≢ node
      differs = other_than t t' node nodes s next stays

      which : (n : ℕ) → (n ≡ next) ⊎ ((n ≡ node) ⊎ ((n ≢ next) × (n ≢ node)))
      which n = ⊎_elim (λ (e : (eqb n next ≡ true) × (n ≡ next)). inl e.1)
          (λ (e : (eqb n next ≡ false) × (n ≢ next)). inr (⊎_elim (λ (f : (eqb n node ≡ true) × (n ≡ node)). inl f.1) (λ (f : (eqb n node ≡ false) × (n ≢ node)). inr (e.1, f.1)) (eqb_tells n node)))
          (eqb_tells n next)

      -- the slot that the node has now is empty
      empty_now : (m : ℕ) → has (t'.nodes (t.own next)) m ≡ true → ⊥
      empty_now m h =
          let o : has (t.nodes (t.own next)) next ≡ true = i.owns next m (was_there t t' node nodes (t.own next) m h) in
          let at : t.own next ≡ s = i.one (t.own next) s next o (was_there t t' node nodes s next stays) in
          differs (i.apart next node (at ∙ sym mine))

      -- whose slot in the old table a node has in the new one
      source : (n : ℕ) → (q : ℕ) × (t'.own n ≡ t.own q) × (((n ≡ next) × (q ≡ node)) ⊎ (((n ≡ node) × (q ≡ next)) ⊎ ((n ≢ next) × (n ≢ node) × (q ≡ n))))
      source n = ⊎_elim (λ (e : n ≡ next). (node, ap t'.own e ∙ passed ∙ sym mine, inl (e, refl)))
          (λ (r : (n ≡ node) ⊎ ((n ≢ next) × (n ≢ node))). ⊎_elim (λ (e : n ≡ node). (next, ap t'.own e ∙ taken, inr (inl (e, refl))))
          (λ (e : (n ≢ next) × (n ≢ node)). (n, others n e.0 e.1, inr (inr (e.0, e.1, refl)))) r) (which n)

      pub left_swapped : NodeLeft t t' node
      left_swapped = record {
        nodes = nodes;
        number = number;
        bucket = bucket;
        owns = λ n m h. ⊎_elim
            (λ (e : n ≡ next). subst (λ q. has (t'.nodes (t'.own q)) q ≡ true) (sym e) (subst (λ q. has (t'.nodes q) next ≡ true) (sym passed) stays))
            (λ (r : (n ≡ node) ⊎ ((n ≢ next) × (n ≢ node))). ⊎_elim
            (λ (e : n ≡ node). absurd (empty_now m (subst (λ q. has (t'.nodes q) m ≡ true) (ap t'.own e ∙ taken) h)))
            (λ (e : (n ≢ next) × (n ≢ node)). subst (λ q. has (t'.nodes q) n ≡ true) (sym (others n e.0 e.1))
            (own_same n m (λ f at g. e.1 f) (subst (λ q. has (t'.nodes q) m ≡ true) (others n e.0 e.1) h))) r)
            (which n);
        apart = λ n m e.
            let a = source n in
            let b = source m in
            let same : a.0 ≡ b.0 = i.apart a.0 b.0 (sym a.1 ∙ e ∙ b.1) in
            let ra = a.2 in
            let rb = b.2 in
            let d = differs in
            grind arith;
        stays = λ b u n h g. ap (λ q. has q u) (chain b) ∙ g;
        only = only_kept;
      }

-- a table without slots in its buckets
pub empty_list_by : (t : Table) (k : ℕ) → t.chain (t.bucket k) ≡ [] → list_by t k ≡ []
unfolding list_by slot_in
empty_list_by t k e = ap (λ (xs : List ℕ). option_map_or t.nodes (find (λ s. nat_eq (t.number s) k) xs) []) e

-- the same slots, found in other buckets
module _ (t t' : Table) (i : IsTable t) (nodes : (s : ℕ) → t'.nodes s ≡ t.nodes s) (number : (s : ℕ) → t'.number s ≡ t.number s) (own : (n : ℕ) → t'.own n ≡ t.own n)
    (listed : (s n : ℕ) → has (t'.nodes s) n ≡ true → has (t'.chain (t'.bucket (t'.number s))) s ≡ true)
    (found : (b s : ℕ) → has (t'.chain b) s ≡ true → (b ≡ t'.bucket (t'.number s)) × IsFilled (t'.nodes s)) where
  before : (s n : ℕ) → has (t'.nodes s) n ≡ true → has (t.nodes s) n ≡ true
  before s n h = subst (λ m. has m n ≡ true) (nodes s) h

  pub same_table : IsTable t'
  same_table = record {
    one = λ a b n ha hb. i.one a b n (before a n ha) (before b n hb);
    owns = λ n m h.
        let g : has (t.nodes (t.own n)) m ≡ true = subst (λ q. has (t.nodes q) m ≡ true) (own n) (before (t'.own n) m h) in
        subst (λ q. has q n ≡ true) (sym (nodes (t'.own n))) (subst (λ q. has (t.nodes q) n ≡ true) (sym (own n)) (i.owns n m g));
    apart = λ n m e. i.apart n m (sym (own n) ∙ e ∙ own m);
    listed = listed;
    found = found;
    once = λ a b n m ha hb e. i.once a b n m (before a n ha) (before b m hb) (sym (number a) ∙ e ∙ number b);
    small = λ s n h. subst (λ q. q < 2 ^ 32) (sym (number s)) (i.small s n (before s n h));
  }

  pub same_list : (k : ℕ) → list_by t' k ≡ list_by t k
  same_list k = ⊎_elim
      (λ (f : (s : ℕ) × (slot_by t k ≡ Some s)).
      let g = slot_tells t i k f.0 f.1 in
      list_here t' same_table f.0 g.1.0 k (subst (λ m. has m g.1.0 ≡ true) (sym (nodes f.0)) g.1.1) (number f.0 ∙ g.0) ∙ nodes f.0 ∙ sym (list_at t i k f.0 f.1))
      (λ (e : slot_by t k ≡ None). list_none t' same_table k (λ s n h at. slot_none t i k e s n (before s n h) (sym (number s) ∙ at)) ∙ sym (list_off t i k e))
      (slot_cases t i k)
