-- Lists by any number, as they are kept: what is seen of them, and what each call leaves.
use Rattle.std.proofs.Common.{◌≡◌, ◌≢◌, ℕ, ◌+◌, ◌<◌, ◌≤◌, ◌^◌, ◌%◌, eqb, true, false, ◌⊎◌, ⊎_elim, inl, inr, List, [], ◌∷◌, length, map, set, refl, sym, ap, subst, ◌∙◌, true≢false, arith, Option, None, Some, slice_get, get_or, Vec, vec_len, Global}
use Rattle.std.specs.Option.{option_map_or}
use Rattle.std.proofs.lemmas.Bool.Decides.{eqb_tells}
use Rattle.std.proofs.lemmas.List.{length-set, get_or_default}
use Rattle.ufs_links.specs.declared.numbered.NumberedLists.TheInside.{Inside}
use Rattle.ufs_links.specs.Nodes.{has, nodes_in, without, IsOnNone}
use Rattle.ufs_links.specs.NodeLists.{NodeLists, with_lists, list_numbers}
use Rattle.ufs_links.specs.Numbered.{Table, IsTable, IsFilled, IsNumbered, Finds, AreSorted, table_of, number_at, own_of, bucket_of, slot_by, list_by, numbered}
use Rattle.ufs_links.proofs.NodeLemmas.{has_cons, has_here, has_there, lacks_from}
use Rattle.ufs_links.proofs.StandLemmas.{list_below, in_map, in_same, in_other, length_map, beyond, low_or_high}
use Rattle.ufs_links.proofs.NumberLemmas.{at_numbered, on_numbered, set_numbered, same_numbered, map_numbered}
use Rattle.ufs_links.proofs.TailLemmas.{front_has}
use Rattle.ufs_links.proofs.TableLemmas as table

module _ (l : Inside) (v : NodeLists) (e : numbered l ≡ v) (i : IsNumbered l) where
  seen : (k : ℕ) → nodes_in (map (list_by (table_of l)) list_numbers) k ≡ nodes_in v.lists k
  seen k = ap (λ (w : NodeLists). nodes_in w.lists k) e

  pub seen_at : (k : ℕ) → k < 2 ^ 32 → nodes_in v.lists k ≡ list_by (table_of l) k
  seen_at k lt = sym (seen k) ∙ at_numbered (list_by (table_of l)) (2 ^ 32) k lt

  pub seen_some : (k s : ℕ) → k < 2 ^ 32 → slot_by (table_of l) k ≡ Some s → nodes_in v.lists k ≡ nodes_in l.slots.lists s
  seen_some k s lt f = seen_at k lt ∙ table.list_at (table_of l) i.table k s f

  pub seen_none : (k : ℕ) → k < 2 ^ 32 → slot_by (table_of l) k ≡ None → nodes_in v.lists k ≡ []
  seen_none k lt f = seen_at k lt ∙ table.list_off (table_of l) i.table k f

  -- the slot of a list that has a node
  pub slot_with : (k n : ℕ) → has (nodes_in v.lists k) n ≡ true → (s : ℕ) × (has (nodes_in l.slots.lists s) n ≡ true) × (nodes_in v.lists k ≡ nodes_in l.slots.lists s)
  slot_with k n h =
      let on = on_numbered (list_by (table_of l)) (2 ^ 32) k n (subst (λ m. has m n ≡ true) (sym (seen k)) h) in
      let f = table.list_has (table_of l) i.table k n on.1 in
      (f.0, f.1, seen_at k on.0 ∙ table.list_here (table_of l) i.table f.0 n k f.1 f.2)

  pub seen_slot : (s n : ℕ) → has (nodes_in l.slots.lists s) n ≡ true → nodes_in v.lists (number_at l.numbers.items s) ≡ nodes_in l.slots.lists s
  seen_slot s n h = seen_at (number_at l.numbers.items s) (i.table.small s n h) ∙ table.list_here (table_of l) i.table s n (number_at l.numbers.items s) h refl

  pub off_slots : (n : ℕ) → IsOnNone v.lists n → IsOnNone l.slots.lists n
  off_slots n off s = lacks_from n (nodes_in l.slots.lists s) (λ h. true≢false (sym h ∙ ap (λ m. has m n) (sym (seen_slot s n h)) ∙ off (number_at l.numbers.items s)))

  pub nodes_seen : v.nodes ≡ vec_len l.own
  nodes_seen = sym (ap (λ (w : NodeLists). w.nodes) e) ∙ sym l.own.ok.0

  pub listed_below : (b s : ℕ) → has (nodes_in l.buckets.lists b) s ≡ true → s < vec_len l.numbers
  listed_below b s h =
      let f = i.table.found b s h in
      let lt = list_below l.slots.lists s f.1.0 f.1.1 in
      let le = i.numbers in
      omega arith

  pub filled_below : (s n : ℕ) → has (nodes_in l.slots.lists s) n ≡ true → s < vec_len l.numbers
  filled_below s n h = let lt = list_below l.slots.lists s n h in let le = i.numbers in omega arith

  pub number_read : (s n r : ℕ) → has (nodes_in l.slots.lists s) n ≡ true → r ≡ get_or l.numbers.items s r → r ≡ number_at l.numbers.items s
  number_read s n r h read =
      let lt = filled_below s n h in
      let len = l.numbers.ok.0 in
      read ∙ get_or_default l.numbers.items s r 0 (omega arith)

pub read_is : (numbers : Vec ℕ Global) (s r : ℕ) → s < vec_len numbers → r ≡ get_or numbers.items s r → r ≡ number_at numbers.items s
read_is numbers s r lt read = let len = numbers.ok.0 in read ∙ get_or_default numbers.items s r 0 (omega arith)

pub view_of : (l l' : Inside) (v : NodeLists) (ls : List (List ℕ)) → numbered l ≡ v → vec_len l'.own ≡ vec_len l.own → map (list_by (table_of l')) list_numbers ≡ ls → numbered l' ≡ with_lists v ls
view_of l l' v ls e own lists =
    let nodes : length l'.own.items ≡ v.nodes = sym l'.own.ok.0 ∙ own ∙ l.own.ok.0 ∙ ap (λ (w : NodeLists). w.nodes) e in
    λ i. record { nodes = nodes i; lists = lists i }

-- the same sizes
pub record SameRoom (l l' : Inside) : Type 0 where
  pub own : vec_len l'.own ≡ vec_len l.own
  pub slots : length l'.slots.lists ≡ length l.slots.lists
  pub nodes : l'.slots.nodes ≡ l.slots.nodes
  pub numbers : vec_len l'.numbers ≡ vec_len l.numbers
  pub listed : l'.buckets.nodes ≡ l.buckets.nodes
  pub buckets : length l'.buckets.lists ≡ length l.buckets.lists

pub kept_by : (l l' : Inside) → IsNumbered l → SameRoom l l' → IsTable (table_of l') → ((n : ℕ) → n < vec_len l.own → own_of l'.own.items n < length l.slots.lists)
    → ((s n : ℕ) → has (nodes_in l'.slots.lists s) n ≡ true → n < vec_len l.own) → IsNumbered l'
kept_by l l' i same t there known =
    let o = same.own in
    let s = same.slots in
    let n = same.nodes in
    let u = same.numbers in
    let q = same.listed in
    let b = same.buckets in
    let islots = i.slots in
    let inumbers = i.numbers in
    let ilisted = i.listed in
    let inodes = i.nodes in
    let ifew = i.few in
    record {
      table = t;
      own = λ n lt. subst (λ m. own_of l'.own.items n < m) (sym s) (there n (subst (λ m. n < m) o lt));
      slots = omega arith;
      numbers = omega arith;
      listed = omega arith;
      nodes = omega arith;
      buckets = λ lt. subst (λ m. 0 < m) (sym b) (i.buckets (subst (λ m. 0 < m) o lt));
      known = λ s n h. subst (λ m. n < m) (sym o) (known s n h);
      few = subst (λ m. m < 2 ^ 32) (sym u) ifew;
    }

bucket_below : (buckets : List (List ℕ)) (list : ℕ) → 0 < length buckets → bucket_of buckets list < length buckets
bucket_below buckets list some = omega arith

-- a node joins a list
module _ (l : Inside) (v : NodeLists) (e : numbered l ≡ v) (i : IsNumbered l) (list node : ℕ) (small : list < 2 ^ 32) (below : node < v.nodes) (off : IsOnNone v.lists node)
    (push : List ℕ → List ℕ) (only : (xs : List ℕ) (n : ℕ) → has (push xs) n ≡ true → (n ≡ node) ⊎ (has xs n ≡ true)) (new : (xs : List ℕ) → has (push xs) node ≡ true)
    (all : (xs : List ℕ) (n : ℕ) → has xs n ≡ true → has (push xs) n ≡ true) where
  pub own_there : node < vec_len l.own
  own_there = subst (λ m. node < m) (nodes_seen l v e i) below

  pub place_there : node < l.slots.nodes
  place_there = let lt = own_there in let le = i.nodes in omega arith

  off_all : IsOnNone l.slots.lists node
  off_all = off_slots l v e i node off

  known_after : (after : NodeLists) (s : ℕ) → s < length l.slots.lists → after ≡ with_lists l.slots (set l.slots.lists s (push (nodes_in l.slots.lists s)))
      → (u n : ℕ) → has (nodes_in after.lists u) n ≡ true → n < vec_len l.own
  known_after after s lt put u n h = ⊎_elim
      (λ (t : (eqb u s ≡ true) × (u ≡ s)). ⊎_elim (λ (at : n ≡ node). subst (λ m. m < vec_len l.own) (sym at) own_there) (λ (g : has (nodes_in l.slots.lists s) n ≡ true). i.known s n g)
      (only (nodes_in l.slots.lists s) n (subst (λ m. has m n ≡ true) (ap (λ (w : NodeLists). nodes_in w.lists u) put ∙ ap (nodes_in (set l.slots.lists s (push (nodes_in l.slots.lists s)))) t.1 ∙ in_same l.slots.lists s _ lt) h)))
      (λ (t : (eqb u s ≡ false) × (u ≢ s)). i.known u n (subst (λ m. has m n ≡ true) (ap (λ (w : NodeLists). nodes_in w.lists u) put ∙ in_other l.slots.lists s u _ t.1) h))
      (eqb_tells u s)

  lists_after : (l' : Inside) (s : ℕ) → (list_by (table_of l') list ≡ push (nodes_in l.slots.lists s)) → ((k : ℕ) → k ≢ list → list_by (table_of l') k ≡ list_by (table_of l) k)
      → nodes_in v.lists list ≡ nodes_in l.slots.lists s → map (list_by (table_of l')) list_numbers ≡ set v.lists list (push (nodes_in v.lists list))
  lists_after l' s at others was =
      sym (set_numbered (list_by (table_of l)) (list_by (table_of l')) (2 ^ 32) list (push (nodes_in v.lists list)) (at ∙ ap push (sym was)) others)
      ∙ ap (λ (w : NodeLists). set w.lists list (push (nodes_in v.lists list))) e

  -- the list has a slot
  module _ (slot : ℕ) (is : slot_by (table_of l) list ≡ Some slot) where
    tells : (number_at l.numbers.items slot ≡ list) × IsFilled (nodes_in l.slots.lists slot)
    tells = table.slot_tells (table_of l) i.table list slot is

    pub slot_there : slot < length l.slots.lists
    slot_there = let t = tells in list_below l.slots.lists slot t.1.0 t.1.1

    module _ (after : NodeLists) (put : after ≡ with_lists l.slots (set l.slots.lists slot (push (nodes_in l.slots.lists slot)))) where
      abbrev with_after : Inside
      with_after = record { slots = after; buckets = l.buckets; numbers = l.numbers; own = l.own }

      set_there : table.SlotSet (table_of l) (table_of with_after) slot list (push (nodes_in l.slots.lists slot))
      set_there =
          let t = tells in
          record {
            there = ap (λ (w : NodeLists). nodes_in w.lists slot) put ∙ in_same l.slots.lists slot _ slot_there;
            others = λ u ne. ap (λ (w : NodeLists). nodes_in w.lists u) put ∙ in_other l.slots.lists slot u _ ne;
            named = t.0;
            names = λ u ne. refl;
            own = λ n. refl;
            bucket = λ k. refl;
            listed = subst (λ k. has (nodes_in l.buckets.lists (bucket_of l.buckets.lists k)) slot ≡ true) t.0 (i.table.listed slot t.1.0 t.1.1);
            stays = λ b u h. h;
            only = λ b u h. inl h;
          }

      may_join : table.MayJoin (table_of l) slot list node (push (nodes_in l.slots.lists slot))
      may_join =
          let t = tells in
          record {
            small = small;
            off = off_all;
            only = only (nodes_in l.slots.lists slot);
            new = new (nodes_in l.slots.lists slot);
            owned = λ n at. all (nodes_in l.slots.lists slot) n (subst (λ q. has (nodes_in l.slots.lists q) n ≡ true) at
                (i.table.owns n t.1.0 (subst (λ q. has (nodes_in l.slots.lists q) t.1.0 ≡ true) (sym at) t.1.1)));
            was = λ n h. t.0;
            free = λ u n ne h at. ne (i.table.once u slot n t.1.0 h t.1.1 (at ∙ sym t.0));
          }

      pub kept_there : IsNumbered with_after
      kept_there = kept_by l with_after i (record {
        own = refl;
        slots = ap (λ (w : NodeLists). length w.lists) put ∙ length-set l.slots.lists slot _;
        nodes = ap (λ (w : NodeLists). w.nodes) put;
        numbers = refl;
        listed = refl;
        buckets = refl;
      }) (table.joined_table (table_of l) (table_of with_after) slot list node _ i.table set_there may_join) i.own (known_after after slot slot_there put)

      pub view_there : numbered with_after ≡ with_lists v (set v.lists list (push (nodes_in v.lists list)))
      view_there = view_of l with_after v _ e refl (lists_after with_after slot
          (table.joined_list (table_of l) (table_of with_after) slot list node _ i.table set_there may_join)
          (table.joined_others (table_of l) (table_of with_after) slot list node _ i.table set_there may_join)
          (seen_some l v e i list slot small is))

  -- the node begins the list in the slot that it owns
  module _ (is : slot_by (table_of l) list ≡ None) (slot : ℕ) (mine : slot ≡ own_of l.own.items node) where
    pub own_slot_there : slot < length l.slots.lists
    own_slot_there = subst (λ s. s < length l.slots.lists) (sym mine) (i.own node own_there)

    pub own_slot_listed : slot < l.buckets.nodes
    own_slot_listed = let lt = own_slot_there in let le = i.listed in omega arith

    pub own_slot_numbered : slot < vec_len l.numbers
    own_slot_numbered = let lt = own_slot_there in let le = i.numbers in omega arith

    pub some_bucket : 0 < length l.buckets.lists
    some_bucket = let lt = own_there in i.buckets (omega arith)

    is_empty : (n : ℕ) → has (nodes_in l.slots.lists slot) n ≡ true → ⊥
    is_empty n h = true≢false (sym (i.table.owns node n (subst (λ s. has (nodes_in l.slots.lists s) n ≡ true) mine h)) ∙ off_all (own_of l.own.items node))

    pub off_buckets : IsOnNone l.buckets.lists slot
    off_buckets b = lacks_from slot (nodes_in l.buckets.lists b) (λ h. let f = i.table.found b slot h in is_empty f.1.0 f.1.1)

    nothing_there : (xs : List ℕ) → xs ≡ nodes_in l.slots.lists slot → nodes_in l.slots.lists slot ≡ []
    nothing_there [] at = sym at
    nothing_there (x ∷ xs) at = absurd (is_empty x (subst (λ m. has m x ≡ true) at (has_here x xs)))

    module _ (numbers : Vec ℕ Global) (buckets after : NodeLists) (named : number_at numbers.items slot ≡ list)
        (names : (s : ℕ) → s ≢ slot → number_at numbers.items s ≡ number_at l.numbers.items s) (count : vec_len numbers ≡ vec_len l.numbers)
        (listed : buckets ≡ with_lists l.buckets (set l.buckets.lists (bucket_of l.buckets.lists list) (slot ∷ nodes_in l.buckets.lists (bucket_of l.buckets.lists list))))
        (put : after ≡ with_lists l.slots (set l.slots.lists slot (push (nodes_in l.slots.lists slot)))) where
      abbrev with_new : Inside
      with_new = record { slots = after; buckets = buckets; numbers = numbers; own = l.own }

      abbrev home : ℕ
      home = bucket_of l.buckets.lists list

      bucket_there : home < length l.buckets.lists
      bucket_there = bucket_below l.buckets.lists list some_bucket

      chain_there : nodes_in buckets.lists home ≡ slot ∷ nodes_in l.buckets.lists home
      chain_there = ap (λ (w : NodeLists). nodes_in w.lists home) listed ∙ in_same l.buckets.lists home _ bucket_there

      chain_other : (b : ℕ) → b ≢ home → nodes_in buckets.lists b ≡ nodes_in l.buckets.lists b
      chain_other b ne = ap (λ (w : NodeLists). nodes_in w.lists b) listed ∙ in_other l.buckets.lists home b _ ne

      as_many : length buckets.lists ≡ length l.buckets.lists
      as_many = ap (λ (w : NodeLists). length w.lists) listed ∙ length-set l.buckets.lists home _

      set_new : table.SlotSet (table_of l) (table_of with_new) slot list (push (nodes_in l.slots.lists slot))
      set_new = record {
        there = ap (λ (w : NodeLists). nodes_in w.lists slot) put ∙ in_same l.slots.lists slot _ own_slot_there;
        others = λ u ne. ap (λ (w : NodeLists). nodes_in w.lists u) put ∙ in_other l.slots.lists slot u _ ne;
        named = named;
        names = names;
        own = λ n. refl;
        bucket = λ k. ap (λ m. k % m) as_many;
        listed = subst (λ m. has m slot ≡ true) (sym chain_there) (has_here slot (nodes_in l.buckets.lists home));
        stays = λ b u h. ⊎_elim
            (λ (t : (eqb b home ≡ true) × (b ≡ home)). subst (λ q. has (nodes_in buckets.lists q) u ≡ true) (sym t.1)
            (subst (λ m. has m u ≡ true) (sym chain_there) (has_there u slot (nodes_in l.buckets.lists home) (subst (λ q. has (nodes_in l.buckets.lists q) u ≡ true) t.1 h))))
            (λ (t : (eqb b home ≡ false) × (b ≢ home)). subst (λ m. has m u ≡ true) (sym (chain_other b t.1)) h)
            (eqb_tells b home);
        only = λ b u h. ⊎_elim
            (λ (t : (eqb b home ≡ true) × (b ≡ home)). ⊎_elim (λ (at : u ≡ slot). inr (at, t.1))
            (λ (g : has (nodes_in l.buckets.lists home) u ≡ true). inl (subst (λ q. has (nodes_in l.buckets.lists q) u ≡ true) (sym t.1) g))
            (has_cons u slot (nodes_in l.buckets.lists home) (subst (λ m. has m u ≡ true) (ap (nodes_in buckets.lists) t.1 ∙ chain_there) h)))
            (λ (t : (eqb b home ≡ false) × (b ≢ home)). inl (subst (λ m. has m u ≡ true) (chain_other b t.1) h))
            (eqb_tells b home);
      }

      may_begin : table.MayJoin (table_of l) slot list node (push (nodes_in l.slots.lists slot))
      may_begin = record {
        small = small;
        off = off_all;
        only = only (nodes_in l.slots.lists slot);
        new = new (nodes_in l.slots.lists slot);
        owned = λ n at. subst (λ q. has (push (nodes_in l.slots.lists slot)) q ≡ true) (sym (i.table.apart n node (at ∙ mine))) (new (nodes_in l.slots.lists slot));
        was = λ n h. absurd (is_empty n h);
        free = λ u n ne h. table.slot_none (table_of l) i.table list is u n h;
      }

      pub kept_new : IsNumbered with_new
      kept_new = kept_by l with_new i (record {
        own = refl;
        slots = ap (λ (w : NodeLists). length w.lists) put ∙ length-set l.slots.lists slot _;
        nodes = ap (λ (w : NodeLists). w.nodes) put;
        numbers = count;
        listed = ap (λ (w : NodeLists). w.nodes) listed;
        buckets = as_many;
      }) (table.joined_table (table_of l) (table_of with_new) slot list node _ i.table set_new may_begin) i.own (known_after after slot own_slot_there put)

      pub view_new : numbered with_new ≡ with_lists v (set v.lists list (push (nodes_in v.lists list)))
      view_new = view_of l with_new v _ e refl (lists_after with_new slot
          (table.joined_list (table_of l) (table_of with_new) slot list node _ i.table set_new may_begin)
          (table.joined_others (table_of l) (table_of with_new) slot list node _ i.table set_new may_begin)
          (seen_none l v e i list small is ∙ sym (nothing_there (nodes_in l.slots.lists slot) refl)))

-- a node leaves its list
module _ (l : Inside) (v : NodeLists) (e : numbered l ≡ v) (i : IsNumbered l) (node slot : ℕ) (on : has (nodes_in l.slots.lists slot) node ≡ true)
    (after : NodeLists) (gone : after ≡ with_lists l.slots (map (without node) l.slots.lists)) where
  nodes_after : (u : ℕ) → nodes_in after.lists u ≡ without node (nodes_in l.slots.lists u)
  nodes_after u = ap (λ (w : NodeLists). nodes_in w.lists u) gone ∙ in_map node l.slots.lists u

  slot_below : slot < length l.slots.lists
  slot_below = list_below l.slots.lists slot node on

  as_long : length after.lists ≡ length l.slots.lists
  as_long = ap (λ (w : NodeLists). length w.lists) gone ∙ length_map node l.slots.lists

  -- the lists without the node
  module _ (buckets : NodeLists) (own : Vec (Option ℕ) Global) where
    abbrev with_left : Inside
    with_left = record { slots = after; buckets = buckets; numbers = l.numbers; own = own }

    left : (t : Table) → t ≡ table_of with_left → vec_len own ≡ vec_len l.own → buckets.nodes ≡ l.buckets.nodes → length buckets.lists ≡ length l.buckets.lists
        → table.NodeLeft (table_of l) (table_of with_left) node → ((n : ℕ) → n < vec_len l.own → own_of own.items n < length l.slots.lists) → IsNumbered with_left
    left t at count listed many w there = kept_by l with_left i (record {
      own = count;
      slots = as_long;
      nodes = ap (λ (w : NodeLists). w.nodes) gone;
      numbers = refl;
      listed = listed;
      buckets = many;
    }) (table.left_table (table_of l) (table_of with_left) node i.table w) there
        (λ s n h. i.known s n (table.was_there (table_of l) (table_of with_left) node nodes_after s n h))

    seen_left : vec_len own ≡ vec_len l.own → table.NodeLeft (table_of l) (table_of with_left) node → numbered with_left ≡ with_lists v (map (without node) v.lists)
    seen_left count w = view_of l with_left v _ e count
        (sym (map_numbered (without node) (list_by (table_of l)) (list_by (table_of with_left)) list_numbers (table.left_list (table_of l) (table_of with_left) node i.table w))
        ∙ ap (λ (w : NodeLists). map (without node) w.lists) e)

  -- another stays
  module _ (next : ℕ) (front : slice_get (nodes_in after.lists slot) 0 ≡ Some next) where
    next_in_slot : has (nodes_in after.lists slot) next ≡ true
    next_in_slot = front_has (nodes_in after.lists slot) next front

    pub next_known : next < vec_len l.own
    next_known = i.known slot next (table.was_there (table_of l) (table_of (with_left l.buckets l.own)) node nodes_after slot next next_in_slot)

    pub next_apart : next ≢ node
    next_apart = table.other_than (table_of l) (table_of (with_left l.buckets l.own)) node nodes_after slot next next_in_slot

    pub node_known : node < vec_len l.own
    node_known = i.known slot node on

    module _ (own : Vec (Option ℕ) Global) (kept : own_of l.own.items node ≢ slot → (n : ℕ) → own_of own.items n ≡ own_of l.own.items n)
        (passed : own_of l.own.items node ≡ slot → own_of own.items next ≡ slot) (taken : own_of l.own.items node ≡ slot → own_of own.items node ≡ own_of l.own.items next)
        (others : (n : ℕ) → n ≢ next → n ≢ node → own_of own.items n ≡ own_of l.own.items n) (count : vec_len own ≡ vec_len l.own) where
      left_some : table.NodeLeft (table_of l) (table_of (with_left l.buckets own)) node
      left_some = ⊎_elim
          (λ (t : (eqb (own_of l.own.items node) slot ≡ true) × (own_of l.own.items node ≡ slot)).
          table.left_swapped (table_of l) (table_of (with_left l.buckets own)) node slot i.table on nodes_after (λ u. refl) (λ k. refl) next next_in_slot (λ b. refl) t.1 (passed t.1) (taken t.1) others)
          (λ (t : (eqb (own_of l.own.items node) slot ≡ false) × (own_of l.own.items node ≢ slot)).
          table.left_kept (table_of l) (table_of (with_left l.buckets own)) node slot i.table on nodes_after (λ u. refl) (λ k. refl) next next_in_slot (λ b. refl) t.1 (kept t.1))
          (eqb_tells (own_of l.own.items node) slot)

      own_below : (n : ℕ) → n < vec_len l.own → own_of own.items n < length l.slots.lists
      own_below n lt = ⊎_elim
          (λ (t : (eqb (own_of l.own.items node) slot ≡ true) × (own_of l.own.items node ≡ slot)). ⊎_elim
          (λ (u : (eqb n next ≡ true) × (n ≡ next)). subst (λ m. m < length l.slots.lists) (sym (ap (own_of own.items) u.1 ∙ passed t.1)) slot_below)
          (λ (u : (eqb n next ≡ false) × (n ≢ next)). ⊎_elim
          (λ (w : (eqb n node ≡ true) × (n ≡ node)). subst (λ m. m < length l.slots.lists) (sym (ap (own_of own.items) w.1 ∙ taken t.1)) (i.own next next_known))
          (λ (w : (eqb n node ≡ false) × (n ≢ node)). subst (λ m. m < length l.slots.lists) (sym (others n u.1 w.1)) (i.own n lt)) (eqb_tells n node)) (eqb_tells n next))
          (λ (t : (eqb (own_of l.own.items node) slot ≡ false) × (own_of l.own.items node ≢ slot)). subst (λ m. m < length l.slots.lists) (sym (kept t.1 n)) (i.own n lt))
          (eqb_tells (own_of l.own.items node) slot)

      pub kept_some : IsNumbered (with_left l.buckets own)
      kept_some = left l.buckets own (table_of (with_left l.buckets own)) refl count refl refl left_some own_below

      pub view_some : numbered (with_left l.buckets own) ≡ with_lists v (map (without node) v.lists)
      view_some = seen_left l.buckets own count left_some

  -- it was the last one
  module _ (front : slice_get (nodes_in after.lists slot) 0 ≡ None) (buckets : NodeLists) (cut : buckets ≡ with_lists l.buckets (map (without slot) l.buckets.lists)) where
    none_there : (xs : List ℕ) → nodes_in after.lists slot ≡ xs → nodes_in after.lists slot ≡ []
    none_there [] at = at
    none_there (x ∷ xs) at = let f : ◌≡◌ {A = Option ℕ} (Some x) None = sym (ap (λ (m : List ℕ). slice_get m 0) at) ∙ front in absurd (cc)

    fewer : length buckets.lists ≡ length l.buckets.lists
    fewer = ap (λ (w : NodeLists). length w.lists) cut ∙ length_map slot l.buckets.lists

    left_none : table.NodeLeft (table_of l) (table_of (with_left buckets l.own)) node
    left_none = table.left_empty (table_of l) (table_of (with_left buckets l.own)) node slot i.table on nodes_after (λ u. refl) (λ k. ap (λ m. k % m) fewer)
        (none_there (nodes_in after.lists slot) refl) (λ n. refl) (λ b. ap (λ (w : NodeLists). nodes_in w.lists b) cut ∙ in_map slot l.buckets.lists b)

    pub kept_none : IsNumbered (with_left buckets l.own)
    kept_none = left buckets l.own (table_of (with_left buckets l.own)) refl refl (ap (λ (w : NodeLists). w.nodes) cut) fewer left_none i.own

    pub view_none : numbered (with_left buckets l.own) ≡ with_lists v (map (without node) v.lists)
    view_none = seen_left buckets l.own refl left_none

-- more room
pub own_beyond : (own : List (Option ℕ)) (n : ℕ) → length own ≤ n → own_of own n ≡ n
own_beyond own n le = ap (λ (o : Option ℕ). option_map_or (λ s. s) o n) (beyond own n None le)

pub record Grown (l l' : Inside) : Type 0 where
  pub nodes : (s : ℕ) → nodes_in l'.slots.lists s ≡ nodes_in l.slots.lists s
  pub number : (s : ℕ) → number_at l'.numbers.items s ≡ number_at l.numbers.items s
  pub own : (n : ℕ) → own_of l'.own.items n ≡ own_of l.own.items n
  pub finds : Finds (number_at l'.numbers.items) (nodes_in l'.slots.lists) l'.buckets.lists
  pub more : vec_len l.own ≤ vec_len l'.own
  pub more_slots : length l.slots.lists ≤ length l'.slots.lists
  pub slots : vec_len l'.own ≤ length l'.slots.lists
  pub numbers : length l'.slots.lists ≤ vec_len l'.numbers
  pub listed : length l'.slots.lists ≤ l'.buckets.nodes
  pub room : vec_len l'.own ≤ l'.slots.nodes
  pub buckets : 0 < vec_len l'.own → 0 < length l'.buckets.lists
  pub few : vec_len l'.numbers < 2 ^ 32

module _ (l l' : Inside) (i : IsNumbered l) (g : Grown l l') where
  grown_there : (n : ℕ) → n < vec_len l'.own → own_of l'.own.items n < length l'.slots.lists
  grown_there n lt = ⊎_elim
      (λ (low : n < vec_len l.own). let b = i.own n low in let more = g.more_slots in let at = g.own n in omega arith)
      (λ (high : vec_len l.own ≤ n). let len = l.own.ok.0 in let at = g.own n in let here = own_beyond l.own.items n (omega arith) in let le = g.slots in omega arith)
      (low_or_high n (vec_len l.own))

  pub grown : IsNumbered l'
  grown = record {
    table = table.same_table (table_of l) (table_of l') i.table g.nodes g.number g.own g.finds.listed g.finds.found;
    own = grown_there;
    slots = g.slots;
    numbers = g.numbers;
    listed = g.listed;
    nodes = g.room;
    buckets = g.buckets;
    known = λ s n h. let lt = i.known s n (subst (λ m. has m n ≡ true) (g.nodes s) h) in let le = g.more in omega arith;
    few = g.few;
  }

  pub grown_lists : (v : NodeLists) → numbered l ≡ v → map (list_by (table_of l')) list_numbers ≡ v.lists
  grown_lists v e = same_numbered (list_by (table_of l')) (list_by (table_of l)) list_numbers
      (table.same_list (table_of l) (table_of l') i.table g.nodes g.number g.own g.finds.listed g.finds.found) ∙ ap (λ (w : NodeLists). w.lists) e

pub finds_of : (l : Inside) → IsNumbered l → Finds (number_at l.numbers.items) (nodes_in l.slots.lists) l.buckets.lists
finds_of l i = record { listed = i.table.listed; found = i.table.found }

pub finds_alike : (number number' : ℕ → ℕ) (nodes nodes' : ℕ → List ℕ) (buckets : List (List ℕ)) → ((s : ℕ) → number' s ≡ number s) → ((s : ℕ) → nodes' s ≡ nodes s)
    → Finds number nodes buckets → Finds number' nodes' buckets
finds_alike number number' nodes nodes' buckets same alike f = record {
  listed = λ s n h. subst (λ k. has (nodes_in buckets (bucket_of buckets k)) s ≡ true) (sym (same s)) (f.listed s n (subst (λ m. has m n ≡ true) (alike s) h));
  found = λ b s h. let g = f.found b s h in (g.0 ∙ ap (bucket_of buckets) (sym (same s)), (g.1.0, subst (λ m. has m g.1.0 ≡ true) (sym (alike s)) g.1.1));
}

-- the slots below a limit are sorted into buckets
pub none_sorted : (number : ℕ → ℕ) (nodes : ℕ → List ℕ) (buckets : List (List ℕ)) → ((b : ℕ) → nodes_in buckets b ≡ []) → AreSorted 0 number nodes buckets
none_sorted number nodes buckets none = record {
  listed = λ s n lt h. absurd (omega arith);
  found = λ b s h. absurd (true≢false (sym (sym (ap (λ m. has m s) (none b)) ∙ h)));
  below = λ b s h. absurd (true≢false (sym (sym (ap (λ m. has m s) (none b)) ∙ h)));
}

low_or_same : (s limit : ℕ) → s < limit + 1 → s ≢ limit → s < limit
low_or_same s limit lt ne = omega arith

pub sorted_past : (slot : ℕ) (number : ℕ → ℕ) (nodes : ℕ → List ℕ) (buckets : List (List ℕ)) → slice_get (nodes slot) 0 ≡ None → AreSorted slot number nodes buckets → AreSorted (slot + 1) number nodes buckets
sorted_past slot number nodes buckets front a = record {
  listed = λ s n lt h. ⊎_elim
      (λ (t : (eqb s slot ≡ true) × (s ≡ slot)). absurd (never (nodes slot) n (subst (λ q. has (nodes q) n ≡ true) t.1 h) front))
      (λ (t : (eqb s slot ≡ false) × (s ≢ slot)). a.listed s n (low_or_same s slot lt t.1) h)
      (eqb_tells s slot);
  found = a.found;
  below = λ b s h. let lt = a.below b s h in omega arith;
} where
  never : (xs : List ℕ) (n : ℕ) → has xs n ≡ true → slice_get xs 0 ≡ None → ⊥
  never [] n h f = true≢false (sym h)
  never (x ∷ xs) n h f = cc

pub sorted_more : (slot x : ℕ) (number : ℕ → ℕ) (nodes : ℕ → List ℕ) (buckets buckets' : List (List ℕ)) → slice_get (nodes slot) 0 ≡ Some x → AreSorted slot number nodes buckets
    → bucket_of buckets (number slot) < length buckets → buckets' ≡ set buckets (bucket_of buckets (number slot)) (slot ∷ nodes_in buckets (bucket_of buckets (number slot)))
    → AreSorted (slot + 1) number nodes buckets'
sorted_more slot x number nodes buckets buckets' front a there put = record {
  listed = λ s n lt h. subst (λ b. has (nodes_in buckets' b) s ≡ true) (sym (same (number s))) (⊎_elim
      (λ (t : (eqb s slot ≡ true) × (s ≡ slot)). subst (λ q. has (nodes_in buckets' (bucket_of buckets (number q))) q ≡ true) (sym t.1)
      (subst (λ m. has m slot ≡ true) (sym at_home) (has_here slot (nodes_in buckets (bucket_of buckets (number slot))))))
      (λ (t : (eqb s slot ≡ false) × (s ≢ slot)). more (bucket_of buckets (number s)) s (a.listed s n (low_or_same s slot lt t.1) h))
      (eqb_tells s slot));
  found = λ b s h. ⊎_elim
      (λ (t : (s ≡ slot) × (b ≡ (bucket_of buckets (number slot)))). (t.1 ∙ ap (λ q. bucket_of buckets (number q)) (sym t.0) ∙ sym (same (number s)), subst (λ q. IsFilled (nodes q)) (sym t.0) (x, front_has (nodes slot) x front)))
      (λ (g : has (nodes_in buckets b) s ≡ true). let f = a.found b s g in (f.0 ∙ sym (same (number s)), f.1))
      (fewer b s h);
  below = λ b s h. ⊎_elim (λ (t : (s ≡ slot) × (b ≡ (bucket_of buckets (number slot)))). let at = t.0 in omega arith) (λ (g : has (nodes_in buckets b) s ≡ true). let lt = a.below b s g in omega arith) (fewer b s h);
} where
  same : (k : ℕ) → bucket_of buckets' k ≡ bucket_of buckets k
  same k = ap (λ m. k % m) (ap length put ∙ length-set buckets (bucket_of buckets (number slot)) _)

  at_home : nodes_in buckets' (bucket_of buckets (number slot)) ≡ slot ∷ nodes_in buckets (bucket_of buckets (number slot))
  at_home = ap (λ (m : List (List ℕ)). nodes_in m (bucket_of buckets (number slot))) put ∙ in_same buckets (bucket_of buckets (number slot)) _ there

  elsewhere : (b : ℕ) → b ≢ (bucket_of buckets (number slot)) → nodes_in buckets' b ≡ nodes_in buckets b
  elsewhere b ne = ap (λ (m : List (List ℕ)). nodes_in m b) put ∙ in_other buckets (bucket_of buckets (number slot)) b _ ne

  more : (b s : ℕ) → has (nodes_in buckets b) s ≡ true → has (nodes_in buckets' b) s ≡ true
  more b s h = ⊎_elim
      (λ (t : (eqb b (bucket_of buckets (number slot)) ≡ true) × (b ≡ (bucket_of buckets (number slot)))). subst (λ q. has (nodes_in buckets' q) s ≡ true) (sym t.1)
      (subst (λ m. has m s ≡ true) (sym at_home) (has_there s slot (nodes_in buckets (bucket_of buckets (number slot))) (subst (λ q. has (nodes_in buckets q) s ≡ true) t.1 h))))
      (λ (t : (eqb b (bucket_of buckets (number slot)) ≡ false) × (b ≢ (bucket_of buckets (number slot)))). subst (λ m. has m s ≡ true) (sym (elsewhere b t.1)) h)
      (eqb_tells b (bucket_of buckets (number slot)))

  fewer : (b s : ℕ) → has (nodes_in buckets' b) s ≡ true → ((s ≡ slot) × (b ≡ (bucket_of buckets (number slot)))) ⊎ (has (nodes_in buckets b) s ≡ true)
  fewer b s h = ⊎_elim
      (λ (t : (eqb b (bucket_of buckets (number slot)) ≡ true) × (b ≡ (bucket_of buckets (number slot)))). ⊎_elim (λ (at : s ≡ slot). inl (at, t.1))
      (λ (g : has (nodes_in buckets (bucket_of buckets (number slot))) s ≡ true). inr (subst (λ q. has (nodes_in buckets q) s ≡ true) (sym t.1) g))
      (has_cons s slot (nodes_in buckets (bucket_of buckets (number slot))) (subst (λ m. has m s ≡ true) (ap (nodes_in buckets') t.1 ∙ at_home) h)))
      (λ (t : (eqb b (bucket_of buckets (number slot)) ≡ false) × (b ≢ (bucket_of buckets (number slot)))). inr (subst (λ m. has m s ≡ true) (elsewhere b t.1) h))
      (eqb_tells b (bucket_of buckets (number slot)))

pub sorted_finds : (limit : ℕ) (number : ℕ → ℕ) (slots buckets : List (List ℕ)) → length slots ≤ limit → AreSorted limit number (nodes_in slots) buckets → Finds number (nodes_in slots) buckets
sorted_finds limit number slots buckets le a = record {
  listed = λ s n h. let lt = list_below slots s n h in a.listed s n (omega arith) h;
  found = a.found;
}
