-- What keeps too many, from the standings of the inodes that records name.
use Rattle.std.proofs.Common.{◌≡◌, inl, inr, ℕ, zero, suc, ◌+◌, ◌-◌, ◌*◌, ◌<◌, ◌≤◌, List, [], ◌∷◌, ◌++◌, Bool, true, false, ◌&&◌, ◌||◌, length, take, get_or, set, refl, ap, sym, ◌∙◌, subst, arith}
use Rattle.std.specs.Prelude.{if◌then◌else◌, ◌==◌, map, nat_le, nat_lt, min}
use Rattle.std.specs.List.{All, filter, list_any, range_with_len}
use Rattle.std.proofs.lemmas.List.Elements.{All-append, All-cons, All-nil, All-head, All-tail}
use Rattle.std.proofs.lemmas.Bool.{cases_eq, eq-eqb, and_parts, leb-true, eqb-true, false≢true}
use Rattle.std.proofs.lemmas.List.{get_or-set_same, get_or-set_other, get_or-map, length-set, length-map, take_more}
use Rattle.std.proofs.lemmas.List.FromFn.{get_or-map-range_with_len, length-range_with_len}
use Rattle.ufs_base.specs.Images.{Image}
use Rattle.ufs_layout.specs.Areas.{is_inode_number}
use Rattle.ufs_image.specs.Journal.{FoundSector, PlacedRecord, Transaction}
use Rattle.ufs_layout.specs.declared.geometry.Geometry.{Geometry}
use Rattle.ufs_layout.specs.declared.records.LogRecord.{LogRecord}
use Rattle.ufs_layout.specs.declared.records.LogRecord.TheVariants.{Delta, Place, Free}
use Rattle.ufs_scan.specs.Standings.{standing_at, no_standing, changed, stepped, outkeeps, behind, rested, out_in, out_of, standings, standing_of, marked_standing, marked_standings}
use Rattle.ufs_scan.specs.declared.standing.Standing.{Standing}
use Rattle.ufs_scan.specs.Chains.{chain_key, edits_at, AreChains}
use Rattle.ufs_scan.specs.Edits.{Edit, edits_of}
use Rattle.ufs_scan.specs.Folding.{IsFit}
use Rattle.ufs_scan.specs.Gathered.{placed_below, transaction_in, HasParts}
use Rattle.ufs_scan.specs.declared.chains.Chain.{Chain}
use Rattle.ufs_scan.proofs.PerInode.{effect_of, doings}
use Rattle.ufs_scan.proofs.Placed.{placed_are}
use Rattle.ufs_scan.proofs.Names.{names, named}

or_right : (a b : Bool) → b ≡ true → (a || b) ≡ true
or_right true b is = refl
or_right false b is = is

module _ (g : Geometry) (N : ℕ → Bool) where
  -- the same where N holds
  record Agree (xs ys : List Standing) : Type 0 where
    one : length xs ≡ g.inodes
    two : length ys ≡ g.inodes
    same : (k : ℕ) (d : Standing) → k < g.inodes → N k ≡ true → get_or xs k d ≡ get_or ys k d

  abbrev Has : LogRecord → Type 0
  Has r = (k : ℕ) → k < g.inodes → names g k r ≡ true → N k ≡ true

  stand_same : (xs ys : List Standing) → Agree xs ys → (inode : ℕ) → is_inode_number g inode ≡ true → N (inode - 1) ≡ true → standing_at xs inode ≡ standing_at ys inode
  stand_same xs ys are inode is has =
      let parts = and_parts (nat_le 1 inode) (nat_le inode g.inodes) is in
      let low : 1 ≤ inode = leb-true 1 inode parts.0 in
      let high : inode ≤ g.inodes = leb-true inode g.inodes parts.1 in
      are.same (inode - 1) no_standing (omega (arith, low, high)) has

  set_same : (xs ys : List Standing) → Agree xs ys → (i : ℕ) (a b : Standing) → a ≡ b → Agree (set xs i a) (set ys i b)
  set_same xs ys are i a b is = record {
    one = length-set xs i a ∙ are.one;
    two = length-set ys i b ∙ are.two;
    same = λ k d lt has. elim (cases_eq k i) [
      | inl at ↦ (λ j. get_or (set xs i a) (at j) d) ∙ get_or-set_same xs i a d (omega (arith, at, lt, are.one)) ∙ is ∙ sym (get_or-set_same ys i b d (omega (arith, at, lt, are.two))) ∙ sym (λ j. get_or (set ys i b) (at j) d)
      | inr ne ↦ get_or-set_other xs i k a d ne ∙ are.same k d lt has ∙ sym (get_or-set_other ys i k b d ne)
    ];
  }

  it_has : (inode : ℕ) → ((k : ℕ) → k < g.inodes → (is_inode_number g inode && inode - 1 == k) ≡ true → N k ≡ true) → is_inode_number g inode ≡ true → N (inode - 1) ≡ true
  it_has inode has is =
      let parts = and_parts (nat_le 1 inode) (nat_le inode g.inodes) is in
      let low : 1 ≤ inode = leb-true 1 inode parts.0 in
      let high : inode ≤ g.inodes = leb-true inode g.inodes parts.1 in
      has (inode - 1) (omega (arith, low, high)) (λ i. is i && eq-eqb (inode - 1) (inode - 1) refl i)

  set_if : (xs ys : List Standing) → Agree xs ys → (inode : ℕ) (a b : Standing) (c : Bool) → (c ≡ true → a ≡ b) → Agree (if c then set xs (inode - 1) a else xs) (if c then set ys (inode - 1) b else ys)
  set_if xs ys are inode a b true is = set_same xs ys are (inode - 1) a b (is refl)
  set_if xs ys are inode a b false is = are

  step_same : (number : ℕ) (r : LogRecord) → Has r → (xs ys : List Standing) → Agree xs ys → Agree (stepped g number r xs) (stepped g number r ys)
  step_same number (Delta inode kind size keep extents) has xs ys are =
      set_if xs ys are inode _ _ (is_inode_number g inode) (λ is. ap (λ (s : Standing). changed number (min keep s.count + length extents) s) (stand_same xs ys are inode is (it_has inode has is)))
  step_same number (Place sector slot dentry) has xs ys are = are
  step_same number (Free inode) has xs ys are = set_if xs ys are inode _ _ (is_inode_number g inode) (λ is. ap (λ (s : Standing). changed number 0 s) (stand_same xs ys are inode is (it_has inode has is)))

  and_if : (c a b : Bool) → (c ≡ true → a ≡ b) → (c && a) ≡ (c && b)
  and_if true a b is = is refl
  and_if false a b is = refl

  keeps_same : (number : ℕ) (r : LogRecord) → Has r → (xs ys : List Standing) → Agree xs ys → outkeeps g number r xs ≡ outkeeps g number r ys
  keeps_same number (Delta inode kind size keep extents) has xs ys are =
      and_if (is_inode_number g inode) _ _ (λ is. ap (λ (s : Standing). nat_lt s.before number && nat_lt s.count keep) (stand_same xs ys are inode is (it_has inode has is)))
  keeps_same number (Place sector slot dentry) has xs ys are = refl
  keeps_same number (Free inode) has xs ys are = refl

  abbrev HasAll : List PlacedRecord → Type 0
  HasAll ps = (k : ℕ) → k < g.inodes → named g k ps ≡ true → N k ≡ true

  first_has : (p : PlacedRecord) (ps : List PlacedRecord) → HasAll (p ∷ ps) → Has p.1
  first_has p ps has k lt is = has k lt (λ i. is i || named g k ps)

  others_have : (p : PlacedRecord) (ps : List PlacedRecord) → HasAll (p ∷ ps) → HasAll ps
  others_have p ps has k lt is = has k lt (or_right (names g k p.1) (named g k ps) is)

  out_same : (number : ℕ) (ps : List PlacedRecord) → HasAll ps → (xs ys : List Standing) → Agree xs ys → out_in g number ps xs ≡ out_in g number ps ys
  out_same number [] has xs ys are = refl
  out_same number (p ∷ ps) has xs ys are = λ i.
      (if keeps_same number p.1 (first_has p ps has) xs ys are i then p.0 ∷ [] else [])
      ++ out_same number ps (others_have p ps has) (stepped g number p.1 xs) (stepped g number p.1 ys) (step_same number p.1 (first_has p ps has) xs ys are) i

  behind_same : (number : ℕ) (ps : List PlacedRecord) → HasAll ps → (xs ys : List Standing) → Agree xs ys → Agree (behind g number ps xs) (behind g number ps ys)
  behind_same number [] has xs ys are = are
  behind_same number (p ∷ ps) has xs ys are = behind_same number ps (others_have p ps has) (stepped g number p.1 xs) (stepped g number p.1 ys) (step_same number p.1 (first_has p ps has) xs ys are)

  rested_same : (xs ys : List Standing) → Agree xs ys → Agree (map rested xs) (map rested ys)
  rested_same xs ys are = record {
    one = length-map xs rested ∙ are.one;
    two = length-map ys rested ∙ are.two;
    same = λ k d lt has. get_or-map rested xs k d d (omega (arith, lt, are.one)) ∙ ap rested (are.same k d lt has) ∙ sym (get_or-map rested ys k d d (omega (arith, lt, are.two)));
  }

  abbrev named_by : ℕ → List Transaction → Bool
  named_by k ts = list_any (λ (t : Transaction). named g k t.records) ts

  all_same : (ts : List Transaction) → ((k : ℕ) → k < g.inodes → named_by k ts ≡ true → N k ≡ true) → (xs ys : List Standing) → Agree xs ys → out_of g ts xs ≡ out_of g ts ys
  all_same [] has xs ys are = refl
  all_same (t ∷ ts) has xs ys are =
      let here : HasAll t.records = λ k lt is. has k lt (λ i. is i || named_by k ts) in
      λ i. out_same t.number t.records here (map rested xs) (map rested ys) (rested_same xs ys are) i
      ++ all_same ts (λ k lt is. has k lt (or_right (named g k t.records) (named_by k ts) is)) (behind g t.number t.records (map rested xs)) (behind g t.number t.records (map rested ys)) (behind_same t.number t.records here (map rested xs) (map rested ys) (rested_same xs ys are)) i

pub marked_out : (g : Geometry) (ts : List Transaction) (marks : List Bool) (image : Image) → ((k : ℕ) → k < g.inodes → list_any (λ (t : Transaction). named g k t.records) ts ≡ true → get_or marks k false ≡ true)
    → out_of g ts (marked_standings g marks image) ≡ out_of g ts (standings g image image)
marked_out g ts marks image has = all_same g (λ k. get_or marks k false) ts has (marked_standings g marks image) (standings g image image) record {
  one = length-map (range_with_len 1 g.inodes) (marked_standing g marks image) ∙ length-range_with_len 1 g.inodes;
  two = length-map (range_with_len 1 g.inodes) (standing_of g image image) ∙ length-range_with_len 1 g.inodes;
  same = λ k d lt is.
      let at : 1 + k - 1 ≡ k = omega arith in
      get_or-map-range_with_len (marked_standing g marks image) 1 g.inodes k (1 + k) d lt refl
      ∙ (λ i. if (ap (λ n. get_or marks n false) at ∙ is) i then standing_of g image image (1 + k) else no_standing)
      ∙ sym (get_or-map-range_with_len (standing_of g image image) 1 g.inodes k (1 + k) d lt refl);
}

-- no transaction is begun
pub marked_still : (g : Geometry) (marks : List Bool) (image : Image) → map rested (marked_standings g marks image) ≡ marked_standings g marks image
marked_still g marks image = from 1 g.inodes
  where
    one : (b : Bool) (k : ℕ) → rested (if b then standing_of g image image k else no_standing) ≡ (if b then standing_of g image image k else no_standing)
    one true k = refl
    one false k = refl

    from : (a n : ℕ) → map rested (map (marked_standing g marks image) (range_with_len a n)) ≡ map (marked_standing g marks image) (range_with_len a n)
    from a zero = refl
    from a (suc n) = λ i. one (get_or marks (a - 1) false) a i ∷ from (a + 1) n i

-- ---- what the chains name

none_named : (g : Geometry) (k : ℕ) (ps : List PlacedRecord) → doings g k ps ≡ [] → named g k ps ≡ false
none_named g k [] none = refl
none_named g k (p ∷ ps) none = by (names g k p.1) refl none (none_named g k ps)
  where
    by : (b : Bool) → names g k p.1 ≡ b → (if b then effect_of p.0 p.1 ∷ [] else []) ++ doings g k ps ≡ [] → (doings g k ps ≡ [] → named g k ps ≡ false) → (names g k p.1 || named g k ps) ≡ false
    by true is nothing more = grind (arith, nothing)
    by false is nothing more = (λ i. is i || named g k ps) ∙ more nothing

chain_at : (p : Chain → Bool) (cs : List Chain) → list_any p cs ≡ true → (q : ℕ) × ((c : Chain) × ((q < length cs) × ((c ≡ get_or cs q c) × (p c ≡ true))))
chain_at p [] some = absurd (false≢true some)
chain_at p (c ∷ cs) some = pick (p c) refl some (chain_at p cs)
  where
    pick : (b : Bool) → p c ≡ b → (b || list_any p cs) ≡ true → (list_any p cs ≡ true → (q : ℕ) × ((x : Chain) × ((q < length cs) × ((x ≡ get_or cs q x) × (p x ≡ true)))))
        → (q : ℕ) × ((x : Chain) × ((q < length (c ∷ cs)) × ((x ≡ get_or (c ∷ cs) q x) × (p x ≡ true))))
    pick true is either more = (0, (c, (omega arith, (refl, is))))
    pick false is either more = let r = more either in (suc r.0, (r.1.0, (omega (arith, r.1.1.0), (r.1.1.1.0, r.1.1.1.1))))

pub marked_named : (g : Geometry) → g.inodes < 4294967296 → (all parts : List FoundSector) → HasParts all parts → All (λ (f : FoundSector). f.1.index < 65536) parts → (chains : List Chain) → AreChains (edits_of g parts) chains → All (λ (c : Chain). IsFit g.inodes c) chains
    → (marks : List Bool) → All (λ (c : Chain). get_or marks (c.inode - 1) false ≡ true) chains → (commits : List FoundSector) → All (λ (f : FoundSector). f.1.index < 65536) commits
    → (k : ℕ) → k < g.inodes → list_any (λ (t : Transaction). named g k t.records) (map (transaction_in all) commits) ≡ true → get_or marks k false ≡ true
marked_named g few all parts has small chains are fit marks marked [] low k lt some = absurd (false≢true some)
marked_named g few all parts has small chains are fit marks marked (f ∷ fs) low k lt some =
    pick (named g k (transaction_in all f).records) refl some (marked_named g few all parts has small chains are fit marks marked fs (All-tail (λ (f : FoundSector). f.1.index < 65536) f fs low) k lt)
  where
    key : ℕ
    key = f.1.txn * 4294967296 + (k + 1)

    fits : f.1.index < 65536
    fits = All-head (λ (f : FoundSector). f.1.index < 65536) f fs low

    each : doings g k (placed_below all f.1.txn f.1.index) ≡ map (λ (e : Edit). e.does) (filter (λ (e : Edit). nat_lt e.index f.1.index) (edits_at key (edits_of g parts)))
    each = ap (doings g k) (sym (has f.1.txn f.1.index fits)) ∙ placed_are g few k lt f.1.txn f.1.index fits parts small

    by : (b : Bool) → list_any (λ (c : Chain). chain_key c == key) chains ≡ b → named g k (placed_below all f.1.txn f.1.index) ≡ true → get_or marks k false ≡ true
    by true some_ is =
        let r = chain_at (λ (c : Chain). chain_key c == key) chains some_ in
        let fits_ : IsFit g.inodes r.1.0 = subst (λ (c : Chain). IsFit g.inodes c) (sym r.1.1.1.0) (fit r.0 r.1.0 r.1.1.0) in
        let keys = eqb-true (chain_key r.1.0) key r.1.1.1.1 in
        let at : r.1.0.inode - 1 ≡ k = omega (arith, keys, fits_.low, fits_.high, few, lt) in
        ap (λ n. get_or marks n false) (sym at) ∙ ap (λ (c : Chain). get_or marks (c.inode - 1) false) r.1.1.1.0 ∙ marked r.0 r.1.0 r.1.1.0
    by false none is =
        absurd (false≢true (sym (none_named g k (placed_below all f.1.txn f.1.index) (each ∙ ap (λ (l : List Edit). map (λ (e : Edit). e.does) (filter (λ (e : Edit). nat_lt e.index f.1.index) l)) (are.every key none))) ∙ is))

    pick : (b : Bool) → named g k (placed_below all f.1.txn f.1.index) ≡ b → (b || list_any (λ (t : Transaction). named g k t.records) (map (transaction_in all) fs)) ≡ true
        → (list_any (λ (t : Transaction). named g k t.records) (map (transaction_in all) fs) ≡ true → get_or marks k false ≡ true) → get_or marks k false ≡ true
    pick true is either more = by (list_any (λ (c : Chain). chain_key c == key) chains) refl is
    pick false is either more = more either

-- one mark more
pub marked_more : (chains : List Chain) (i : ℕ) (c : Chain) (marks new : List Bool) → i < length chains → c ≡ get_or chains i c → new ≡ set marks (c.inode - 1) true → c.inode - 1 < length marks
    → All (λ (x : Chain). get_or marks (x.inode - 1) false ≡ true) (take i chains) → All (λ (x : Chain). get_or new (x.inode - 1) false ≡ true) (take (i + 1) chains)
marked_more chains i c marks new lt is put inside marked =
    subst (λ (m : List Bool). All (λ (x : Chain). get_or m (x.inode - 1) false ≡ true) (take (i + 1) chains)) (sym put)
    (subst (λ (l : List Chain). All (λ (x : Chain). get_or (set marks (c.inode - 1) true) (x.inode - 1) false ≡ true) l) (sym (take_more chains i c lt ∙ ap (λ (x : Chain). take i chains ++ x ∷ []) (sym is)))
    (All-append (λ (x : Chain). get_or (set marks (c.inode - 1) true) (x.inode - 1) false ≡ true) (take i chains) (c ∷ [])
    (λ k d less. stays (get_or (take i chains) k d).inode (marked k d less))
    (All-cons (λ (x : Chain). get_or (set marks (c.inode - 1) true) (x.inode - 1) false ≡ true) c [] (get_or-set_same marks (c.inode - 1) true false inside) (All-nil (λ (x : Chain). get_or (set marks (c.inode - 1) true) (x.inode - 1) false ≡ true)))))
  where
    stays : (inode : ℕ) → get_or marks (inode - 1) false ≡ true → get_or (set marks (c.inode - 1) true) (inode - 1) false ≡ true
    stays inode there = elim (cases_eq (inode - 1) (c.inode - 1)) [
      | inl at ↦ (λ j. get_or (set marks (c.inode - 1) true) (at j) false) ∙ get_or-set_same marks (c.inode - 1) true false inside
      | inr ne ↦ get_or-set_other marks (c.inode - 1) (inode - 1) true false ne ∙ there
    ]
