-- The records of a transaction, as edits of an inode.
use Rattle.std.proofs.Common.{◌≡◌, inl, inr, ℕ, ◌+◌, ◌-◌, ◌*◌, ◌<◌, ◌≤◌, List, [], ◌∷◌, ◌++◌, Bool, true, false, ◌&&◌, length, get_or, refl, ap, sym, ◌∙◌, arith, append_assoc}
use Rattle.std.specs.Prelude.{if◌then◌else◌, ◌==◌, not, nat_lt, nat_le, map, flat_map}
use Rattle.std.specs.List.{All, filter}
use Rattle.std.specs.List.Sorted.{IsNonDecreasingBy}
use Rattle.std.proofs.lemmas.Bool.{cases_eq, cases_lt, eq-eqb, ne_eqb, eqb-true, lt-ltb, le-ltb, and_right, leb-true, and_parts}
use Rattle.std.proofs.lemmas.List.{map-append, get_or-map, length-map}
use Rattle.std.proofs.lemmas.List.Elements.{All-append, All-cons, All-nil, All-head, All-tail, filter-append}
use Rattle.std.proofs.lemmas.List.Kept.{IsNonDecreasingBy-filter}
use Rattle.std.proofs.lemmas.List.Sorted.{IsNonDecreasingBy-drop}
use Rattle.ufs_layout.specs.Areas.{is_inode_number}
use Rattle.ufs_image.specs.Journal.{FoundSector, PlacedRecord, records_in}
use Rattle.ufs_layout.specs.declared.geometry.Geometry.{Geometry}
use Rattle.ufs_layout.specs.declared.records.LogRecord.{LogRecord}
use Rattle.ufs_layout.specs.declared.records.LogRecord.TheVariants.{Delta, Place, Free}
use Rattle.ufs_found.specs.Sorted.{place_of, is_between}
use Rattle.ufs_found.proofs.Buckets.{filter_both, filter_none, behind_head}
use Rattle.ufs_scan.specs.Edits.{Effect, Edit, StepValue, key_of, edit_at, in_range, edits_by, edits_in, edits_of}
use Rattle.ufs_scan.specs.Chains.{edits_at}
use Rattle.ufs_scan.specs.Gathered.{placed_in}
use Rattle.ufs_scan.proofs.PartsInOrder.{filter_alike, and_swap}
use Rattle.ufs_scan.proofs.PerInode.{doing, doings}
use Rattle.ufs_scan.proofs.Stable.{cons_up}

-- ---- where an edit comes from

-- a record of this sector
pub record ComesFrom (g : Geometry) (f : FoundSector) (e : Edit) : Type 0 where
  pub txn : e.txn ≡ f.1.txn
  pub index : e.index ≡ f.1.index
  pub sector : e.does.sector ≡ f.0
  pub low : 1 ≤ e.inode
  pub high : e.inode ≤ g.inodes

module _ (g : Geometry) (f : FoundSector) where
  ranged : (inode keep added : ℕ) → All (ComesFrom g f) (in_range g (edit_at f inode keep added))
  ranged inode keep added = by (is_inode_number g inode) refl
    where
      by : (b : Bool) → is_inode_number g inode ≡ b → All (ComesFrom g f) (if b then edit_at f inode keep added ∷ [] else [])
      by true is =
          let parts = and_parts (nat_le 1 inode) (nat_le inode g.inodes) is in
          All-cons (ComesFrom g f) (edit_at f inode keep added) [] (record { txn = refl; index = refl; sector = refl; low = leb-true 1 inode parts.0; high = leb-true inode g.inodes parts.1 }) (All-nil (ComesFrom g f))
      by false is = All-nil (ComesFrom g f)

  comes_by : (r : LogRecord) → All (ComesFrom g f) (edits_by g f r)
  comes_by (Delta inode kind size keep extents) = ranged inode keep (length extents)
  comes_by (Place sector slot dentry) = All-nil (ComesFrom g f)
  comes_by (Free inode) = ranged inode 0 0

  comes_all : (rs : List LogRecord) → All (ComesFrom g f) (flat_map (edits_by g f) rs)
  comes_all [] = All-nil (ComesFrom g f)
  comes_all (r ∷ rs) = All-append (ComesFrom g f) (edits_by g f r) (flat_map (edits_by g f) rs) (comes_by r) (comes_all rs)

  pub comes_in : All (ComesFrom g f) (edits_in g f)
  comes_in = comes_all (records_in f.1.content)

-- what holds of each sector's edits
pub each_edit : (g : Geometry) (P : FoundSector → Type 0) (Q : Edit → Type 0) → ((f : FoundSector) (e : Edit) → P f → ComesFrom g f e → Q e) → (fs : List FoundSector) → All P fs → All Q (edits_of g fs)
each_edit g P Q gives [] every = All-nil Q
each_edit g P Q gives (f ∷ fs) every =
    All-append Q (edits_in g f) (edits_of g fs) (λ k d lt. gives f (get_or (edits_in g f) k d) (All-head P f fs every) (comes_in g f k d lt)) (each_edit g P Q gives fs (All-tail P f fs every))

-- ---- one inode

module _ (g : Geometry) (k : ℕ) where
  abbrev on : Edit → Bool
  on e = e.inode == k + 1

  one_is : (f : FoundSector) (inode keep added : ℕ) → (if is_inode_number g inode && inode - 1 == k then record { sector = f.0; keep = keep; added = added } ∷ [] else []) ≡ map (λ (e : Edit). e.does) (filter on (in_range g (edit_at f inode keep added)))
  one_is f inode keep added = by (is_inode_number g inode) refl
    where
      both : (b : Bool) → (if b then record { sector = f.0; keep = keep; added = added } ∷ [] else []) ≡ map (λ (e : Edit). e.does) (if b then edit_at f inode keep added ∷ [] else [])
      both true = refl
      both false = refl

      by : (b : Bool) → is_inode_number g inode ≡ b → (if b && inode - 1 == k then record { sector = f.0; keep = keep; added = added } ∷ [] else []) ≡ map (λ (e : Edit). e.does) (filter on (if b then edit_at f inode keep added ∷ [] else []))
      by true is =
          let low = leb-true 1 inode (and_parts (nat_le 1 inode) (nat_le inode g.inodes) is).0 in
          let same : (inode - 1 == k) ≡ (inode == k + 1) = elim (cases_eq inode (k + 1)) [
            | inl at ↦ eq-eqb (inode - 1) k (omega (arith, at)) ∙ sym (eq-eqb inode (k + 1) at)
            | inr ne ↦ ne_eqb (inode - 1) k (λ at. ne (omega (arith, at, low))) ∙ sym (ne_eqb inode (k + 1) ne)
          ] in
          (λ i. if same i then record { sector = f.0; keep = keep; added = added } ∷ [] else []) ∙ both (inode == k + 1)
      by false is = refl

  doing_is : (f : FoundSector) (r : LogRecord) → doing g k (f.0, r) ≡ map (λ (e : Edit). e.does) (filter on (edits_by g f r))
  doing_is f (Delta inode kind size keep extents) = one_is f inode keep (length extents)
  doing_is f (Place sector slot dentry) = refl
  doing_is f (Free inode) = one_is f inode 0 0

  doings_append : (ps qs : List PlacedRecord) → doings g k (ps ++ qs) ≡ doings g k ps ++ doings g k qs
  doings_append [] qs = refl
  doings_append (p ∷ ps) qs = ap (λ (l : List Effect). doing g k p ++ l) (doings_append ps qs) ∙ sym (append_assoc (doing g k p) (doings g k ps) (doings g k qs))

  records_are : (f : FoundSector) (rs : List LogRecord) → doings g k (map {B = PlacedRecord} (λ r. (f.0, r)) rs) ≡ map (λ (e : Edit). e.does) (filter on (flat_map (edits_by g f) rs))
  records_are f [] = refl
  records_are f (r ∷ rs) =
      (λ i. doing_is f r i ++ records_are f rs i)
      ∙ sym (ap (map (λ (e : Edit). e.does)) (filter-append on (edits_by g f r) (flat_map (edits_by g f) rs)) ∙ map-append (λ (e : Edit). e.does) (filter on (edits_by g f r)) (filter on (flat_map (edits_by g f) rs)))

  sector_is : (f : FoundSector) → doings g k (placed_in f) ≡ map (λ (e : Edit). e.does) (filter on (edits_in g f))
  sector_is f = records_are f (records_in f.1.content)

-- ---- of a transaction, below an index

window : (T i : ℕ) → i < 65536 → (f : FoundSector) → f.1.index < 65536 → is_between (T * 65536) (T * 65536 + i) f ≡ (f.1.txn == T && nat_lt f.1.index i)
window T i low f small = elim (cases_eq f.1.txn T) [
  | inl same ↦ (λ j. not (le-ltb (place_of f) (T * 65536) (omega (arith, same)) j) && nat_lt (place_of f) (T * 65536 + i)) ∙ index_is same ∙ sym (λ j. eq-eqb f.1.txn T same j && nat_lt f.1.index i)
  | inr ne ↦ elim (cases_lt f.1.txn T) [
    | inl less ↦ (λ j. not (lt-ltb (place_of f) (T * 65536) (omega (arith, less, small)) j) && nat_lt (place_of f) (T * 65536 + i)) ∙ sym (λ j. ne_eqb f.1.txn T ne j && nat_lt f.1.index i)
    | inr more ↦ and_right (not (nat_lt (place_of f) (T * 65536))) (nat_lt (place_of f) (T * 65536 + i)) (le-ltb (place_of f) (T * 65536 + i) (omega (arith, more, ne, low))) ∙ sym (λ j. ne_eqb f.1.txn T ne j && nat_lt f.1.index i)
  ]
]
  where
    index_is : f.1.txn ≡ T → nat_lt (place_of f) (T * 65536 + i) ≡ nat_lt f.1.index i
    index_is same = elim (cases_lt f.1.index i) [
      | inl less ↦ lt-ltb (place_of f) (T * 65536 + i) (omega (arith, same, less)) ∙ sym (lt-ltb f.1.index i less)
      | inr more ↦ le-ltb (place_of f) (T * 65536 + i) (omega (arith, same, more)) ∙ sym (le-ltb f.1.index i more)
    ]

module _ (g : Geometry) (few : g.inodes < 4294967296) (k : ℕ) (inside : k < g.inodes) (T i : ℕ) (low : i < 65536) where
  abbrev of_commit : Edit → Bool
  of_commit e = key_of e == T * 4294967296 + (k + 1) && nat_lt e.index i

  of_sector : (f : FoundSector) → f.1.index < 65536 → (e : Edit) → ComesFrom g f e → of_commit e ≡ (is_between (T * 65536) (T * 65536 + i) f && on g k e)
  of_sector f small e from = elim (cases_eq f.1.txn T) [
    | inl same ↦ (λ j. key_is same j && nat_lt (from.index j) i) ∙ and_swap (e.inode == k + 1) (nat_lt f.1.index i)
        ∙ sym (ap (λ b. b && e.inode == k + 1) (window T i low f small ∙ (λ j. eq-eqb f.1.txn T same j && nat_lt f.1.index i)))
    | inr ne ↦ (λ j. ne_eqb (key_of e) (T * 4294967296 + (k + 1)) (λ at. ne (other at)) j && nat_lt e.index i)
        ∙ sym (ap (λ b. b && e.inode == k + 1) (window T i low f small ∙ (λ j. ne_eqb f.1.txn T ne j && nat_lt f.1.index i)))
  ]
    where
      other : key_of e ≡ T * 4294967296 + (k + 1) → f.1.txn ≡ T
      other at = omega (arith, at, from.txn, from.high, few, inside)

      key_is : f.1.txn ≡ T → (key_of e == T * 4294967296 + (k + 1)) ≡ (e.inode == k + 1)
      key_is same = elim (cases_eq e.inode (k + 1)) [
        | inl at ↦ eq-eqb (key_of e) (T * 4294967296 + (k + 1)) (omega (arith, at, from.txn, same)) ∙ sym (eq-eqb e.inode (k + 1) at)
        | inr ne ↦ ne_eqb (key_of e) (T * 4294967296 + (k + 1)) (λ at. ne (omega (arith, at, from.txn, same))) ∙ sym (ne_eqb e.inode (k + 1) ne)
      ]

  each_part : (fs : List FoundSector) → All (λ (f : FoundSector). f.1.index < 65536) fs → doings g k (flat_map placed_in (filter (is_between (T * 65536) (T * 65536 + i)) fs)) ≡ map (λ (e : Edit). e.does) (filter of_commit (edits_of g fs))
  each_part [] small = refl
  each_part (f ∷ fs) small =
      by (is_between (T * 65536) (T * 65536 + i) f) refl (each_part fs (All-tail (λ (f : FoundSector). f.1.index < 65536) f fs small))
      ∙ sym (ap (map (λ (e : Edit). e.does)) (filter-append of_commit (edits_in g f) (edits_of g fs)) ∙ map-append (λ (e : Edit). e.does) (filter of_commit (edits_in g f)) (filter of_commit (edits_of g fs)))
    where
      rest : List PlacedRecord
      rest = flat_map placed_in (filter (is_between (T * 65536) (T * 65536 + i)) fs)

      fits : f.1.index < 65536
      fits = All-head (λ (f : FoundSector). f.1.index < 65536) f fs small

      by : (b : Bool) → is_between (T * 65536) (T * 65536 + i) f ≡ b → doings g k rest ≡ map (λ (e : Edit). e.does) (filter of_commit (edits_of g fs))
          → doings g k (flat_map placed_in (if b then f ∷ filter (is_between (T * 65536) (T * 65536 + i)) fs else filter (is_between (T * 65536) (T * 65536 + i)) fs))
          ≡ map (λ (e : Edit). e.does) (filter of_commit (edits_in g f)) ++ map (λ (e : Edit). e.does) (filter of_commit (edits_of g fs))
      by true is more =
          doings_append g k (placed_in f) rest
          ∙ (λ j. (sector_is g k f ∙ ap (map (λ (e : Edit). e.does)) (sym (filter_alike of_commit (on g k) (edits_in g f) (λ q d lt. of_sector f fits (get_or (edits_in g f) q d) (comes_in g f q d lt) ∙ ap (λ b. b && (get_or (edits_in g f) q d).inode == k + 1) is)))) j ++ more j)
      by false is more =
          more ∙ ap (λ (l : List Edit). map (λ (e : Edit). e.does) l ++ map (λ (e : Edit). e.does) (filter of_commit (edits_of g fs)))
          (sym (filter_none of_commit (edits_in g f) (λ q d lt. of_sector f fits (get_or (edits_in g f) q d) (comes_in g f q d lt) ∙ ap (λ b. b && (get_or (edits_in g f) q d).inode == k + 1) is)))

  pub placed_are : (fs : List FoundSector) → All (λ (f : FoundSector). f.1.index < 65536) fs
      → doings g k (flat_map placed_in (filter (is_between (T * 65536) (T * 65536 + i)) fs)) ≡ map (λ (e : Edit). e.does) (filter (λ (e : Edit). nat_lt e.index i) (edits_at (T * 4294967296 + (k + 1)) (edits_of g fs)))
  placed_are fs small = each_part fs small
      ∙ ap (map (λ (e : Edit). e.does)) (sym (filter_both (λ (e : Edit). key_of e == T * 4294967296 + (k + 1)) (λ (e : Edit). nat_lt e.index i) of_commit (λ e. refl) (edits_of g fs)))

-- ---- in the order of their indexes

abbrev edit_place : Edit → ℕ
edit_place e = e.txn * 65536 + e.index

up_append : (c : ℕ) (xs ys : List Edit) → All (λ (e : Edit). edit_place e ≡ c) xs → All (λ (e : Edit). c ≤ edit_place e) ys → IsNonDecreasingBy edit_place ys → IsNonDecreasingBy edit_place (xs ++ ys)
up_append c [] ys same above up = up
up_append c (x ∷ xs) ys same above up =
    let here = All-head (λ (e : Edit). edit_place e ≡ c) x xs same in
    let rest = All-tail (λ (e : Edit). edit_place e ≡ c) x xs same in
    cons_up edit_place x (xs ++ ys)
    (All-append (λ (e : Edit). edit_place x ≤ edit_place e) xs ys (λ k d lt. (let at = rest k d lt in omega (arith, at, here))) (λ k d lt. (let le = above k d lt in omega (arith, le, here))))
    (up_append c xs ys rest above up)

edits_up : (g : Geometry) (fs : List FoundSector) → IsNonDecreasingBy place_of fs → IsNonDecreasingBy edit_place (edits_of g fs)
edits_up g [] up = λ i j d le lt. absurd (omega (arith, lt))
edits_up g (f ∷ fs) up =
    up_append (place_of f) (edits_in g f) (edits_of g fs) (λ k d lt. (let from = comes_in g f k d lt in omega (arith, from.txn, from.index)))
    (each_edit g (λ (o : FoundSector). place_of f ≤ place_of o) (λ (e : Edit). place_of f ≤ edit_place e) (λ o e le from. omega (arith, le, from.txn, from.index)) fs (behind_head place_of f fs up))
    (edits_up g fs (IsNonDecreasingBy-drop place_of 1 (f ∷ fs) up))

filter_passing : (key : ℕ) (es : List Edit) → All (λ (e : Edit). (key_of e == key) ≡ true) (edits_at key es)
filter_passing key es = Rattle.std.proofs.lemmas.List.Elements.filter_passes (λ (e : Edit). key_of e == key) es

-- a chain's steps
pub steps_up : (g : Geometry) (few : g.inodes < 4294967296) (fs : List FoundSector) → IsNonDecreasingBy place_of fs → (steps : List StepValue) (key : ℕ) → map (λ (s : StepValue). s.edit) steps ≡ edits_at key (edits_of g fs) → IsNonDecreasingBy (λ (s : StepValue). s.edit.index) steps
steps_up g few fs up steps key is = λ i j d le lt.
    let long : length (edits_at key (edits_of g fs)) ≡ length steps = ap length (sym is) ∙ length-map steps (λ (s : StepValue). s.edit) in
    let at_i : get_or (edits_at key (edits_of g fs)) i d.edit ≡ (get_or steps i d).edit = ap (λ l. get_or l i d.edit) (sym is) ∙ get_or-map (λ (s : StepValue). s.edit) steps i d d.edit (omega (arith, le, lt)) in
    let at_j : get_or (edits_at key (edits_of g fs)) j d.edit ≡ (get_or steps j d).edit = ap (λ l. get_or l j d.edit) (sym is) ∙ get_or-map (λ (s : StepValue). s.edit) steps j d d.edit lt in
    let rising = IsNonDecreasingBy-filter edit_place (λ (e : Edit). key_of e == key) (edits_of g fs) (edits_up g fs up) i j d.edit le (omega (arith, lt, long)) in
    let key_i = eqb-true _ key (filter_passing key (edits_of g fs) i d.edit (omega (arith, le, lt, long))) in
    let key_j = eqb-true _ key (filter_passing key (edits_of g fs) j d.edit (omega (arith, lt, long))) in
    let small_i = small i d.edit (omega (arith, le, lt, long)) in
    let small_j = small j d.edit (omega (arith, lt, long)) in
    omega (arith, rising, key_i, key_j, small_i, small_j, few, ap (λ (e : Edit). e.index) at_i, ap (λ (e : Edit). e.index) at_j)
  where
    small : All (λ (e : Edit). e.inode ≤ g.inodes) (edits_at key (edits_of g fs))
    small = Rattle.std.proofs.lemmas.List.Elements.All-filter (λ (e : Edit). key_of e == key) (λ (e : Edit). e.inode ≤ g.inodes) (edits_of g fs) (each_edit g (λ (f : FoundSector). Unit {0}) (λ (e : Edit). e.inode ≤ g.inodes) (λ f e u from. from.high) fs (λ q d lt. tt))
