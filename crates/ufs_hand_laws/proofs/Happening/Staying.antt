-- What an event without an entry leaves as it is.
use Rattle.std.proofs.Common.{◌≡◌, ℕ, ◌+◌, ◌≤◌, ◌⊎◌, false, eqb, List, [], ◌∷◌, length, ◌++◌, Option, Some, sym, refl, ap, ◌∙◌, subst, inl, inr, ⊎_elim, arith, Bool, true, eqb-true, eq-eqb}
use Rattle.std.specs.Prelude.{slice_get}
use Rattle.std.specs.FinMap as fin
use Rattle.ufs_hand_laws.specs.Owned.{Has, count, times, one, weigh}
use Rattle.ufs_hand_laws.specs.Parts.{FilePart, NamesPart, Shortage, StorePart, View, Start, only_one, uses, names_uses, store_uses, committed}
use Rattle.ufs_hand_laws.specs.Explained.{Showing}
use Rattle.ufs_hand_laws.specs.DiskBytes.{block_on, is_loaded, block_in}
use Rattle.ufs_hand_laws.specs.Marks.{value_after, IsSingle, RemakesOn, MayRemake, IsQuiet, AreAnswers, HadChanges, HasChanges, AreBlocksKept, DoNumbersRise, IsDiskKept}
use Rattle.ufs_hand_laws.specs.Events.{HadLent}
use Rattle.ufs_hand_laws.proofs.Owning.{has_find, same_some}
use Rattle.ufs_hand_laws.proofs.Keys.{itself, alike}
use Rattle.ufs_hand_laws.proofs.Exchange.{value_is}
use Rattle.ufs_model.specs.declared.data.Entry.{Entry}

-- ---- values under one name

module _ (v : View) (one : IsSingle v) where
  pub same_file : (g : ℕ) (x y : FilePart) → Has (g, x) v.files → Has (g, y) v.files → x ≡ y
  same_file g x y a b = same_some x y (sym (has_find eqb itself alike g x v.files (one.files g) a) ∙ has_find eqb itself alike g y v.files (one.files g) b)

  pub names_here : (p x : NamesPart) → p ≡ value_after v.names p → Has (tt, x) v.names → p ≡ x
  names_here p x e h = e ∙ value_is v.names p x one.names h

  pub store_here : (s x : StorePart) → s ≡ value_after v.store s → Has (tt, x) v.store → s ≡ x
  store_here s x e h = e ∙ value_is v.store s x one.store h

pub with_unassigned : (s : StorePart) (a b : List ℕ) → a ≡ b → ◌≡◌ {A = StorePart} (record s { unassigned = a }) (record s { unassigned = b })
with_unassigned s a b e = λ j. record s { unassigned = e j }

pub answers_stay : (v w : View) (s t : StorePart) → w.faults ≡ v.faults → w.stop ≡ v.stop → w.shortages ≡ v.shortages → t.faults ≡ s.faults → t.stop ≡ s.stop → t.shortages ≡ s.shortages → AreAnswers v w s t
answers_stay v w s t a b c d e f = record {
  single = λ l n. let x = l n in let y = ap (times n) d in omega arith;
  faults = λ n. let x = ap (times n) a in let y = ap (times n) d in omega arith;
  stopped = λ n x. e ∙ x;
  stops = λ n x. inl (sym b ∙ x);
  short = λ x h. subst (Has x) (sym f) h;
  shortages = λ x h. inl (subst (Has x) c h);
}

pub quiet : (s t : StorePart) → t ≡ record s { unassigned = t.unassigned } → IsQuiet s t
quiet s t e = record {
  mark = ap (λ (x : StorePart). x.mark) e;
  past = ap (λ (x : StorePart). x.past) e;
  lent = ap (λ (x : StorePart). x.lent) e;
  lent_names = ap (λ (x : StorePart). x.lent_names) e;
  state = ap (λ (x : StorePart). x.state) e;
  paths = ap (λ (x : StorePart). x.paths) e;
  names = ap (λ (x : StorePart). x.names) e;
  files = λ g. ap (λ x. committed x g) e;
}

-- the file parts are the same before and after
module _ (v w : View) (same : (g : ℕ) (x y : FilePart) → Has (g, x) v.files → Has (g, y) w.files → x ≡ y) where
  pub same_parts_keep : (g : ℕ) (x y : FilePart) → Has (g, x) v.files → Has (g, y) w.files → (b : ℕ) → Has b x.blocks ⊎ Has b x.quarantine → Has b y.blocks ⊎ Has b y.quarantine
  same_parts_keep g x y a b c h = subst (λ (u : FilePart). Has c u.blocks ⊎ Has c u.quarantine) (same g x y a b) h

  pub same_parts_know : (g : ℕ) (x y : FilePart) → Has (g, x) v.files → Has (g, y) w.files → (y.known ≡ x.known) × (y.born ≡ x.born)
  same_parts_know g x y a b = let e = sym (same g x y a b) in (ap (λ (u : FilePart). u.known) e, ap (λ (u : FilePart). u.born) e)

  pub same_parts_load : (g : ℕ) (x y : FilePart) → Has (g, x) v.files → Has (g, y) w.files → (place b : ℕ) → slice_get y.blocks place ≡ Some b → is_loaded y place ≡ false → (slice_get x.blocks place ≡ Some b) × (is_loaded x place ≡ false)
  same_parts_load g x y a b place c there out = let e = same g x y a b in (ap (λ (u : FilePart). slice_get u.blocks place) e ∙ there, ap (λ u. is_loaded u place) e ∙ out)

-- what is committed stands in blocks that are kept
pub blocks_stay : (v w : View) (s t : StorePart) (p q : NamesPart)
    → ((g : ℕ) (x y : FilePart) → Has (g, x) v.files → Has (g, y) w.files → (b : ℕ) → Has b x.blocks ⊎ Has b x.quarantine → Has b y.blocks ⊎ Has b y.quarantine)
    → ((g : ℕ) (bs : List ℕ) → fin.get t.extents g ≡ Some bs → fin.get s.extents g ≡ Some bs)
    → ((g : ℕ) (bs : List ℕ) → Has (g, bs) p.dropped → Has (g, bs) q.dropped)
    → (((b : ℕ) → Has b s.dirs → Has b p.blocks) → (b : ℕ) → Has b t.dirs → Has b q.blocks) → AreBlocksKept v w s t p q
blocks_stay v w s t p q files extents dropped dirs = record {
  live = λ g x y a b was bs c ext h. files g x y a b c (was bs c (extents g bs ext) h);
  away = λ g bs z e. extents g bs e;
  dropped = λ g z was bs c ext h. let d = was bs c (extents g bs ext) h in (d.0, dropped g d.0 d.1, d.2);
  dirs = dirs;
}

-- where nothing more is committed or told, no number rises
pub numbers_stay : (v w : View) (s t : StorePart) (p q : NamesPart) → ((g : ℕ) → committed t g ≡ committed s g) → t.names ≡ s.names
    → ((g : ℕ) (x y : FilePart) → Has (g, x) v.files → Has (g, y) w.files → (y.known ≡ x.known) × (y.born ≡ x.born)) → q.known ≡ p.known → q.born ≡ p.born → DoNumbersRise v w s t p q
numbers_stay v w s t p q number names files known born = record {
  others = λ g z. number g;
  made = λ g x a l. let e = number g in (omega arith, omega arith);
  only_born = λ g x a. inl (number g);
  names_made = λ l. (omega arith, omega arith);
  known = λ g x y a b l _. let e = (files g x y a b).0 in let c = number g in (omega arith, omega arith);
  born = λ g x y a b e. inl (sym (files g x y a b).1 ∙ e);
  names_known = λ l _. (omega arith, omega arith);
  names_born = λ g h. inl (subst (Has g) born h);
}

-- the disk keeps the blocks of others, and has those of the hand's files that aren't in memory
pub disk_stays : (k : Start) (v w : View) (s t : StorePart) → ((b : ℕ) → uses b v ≡ 0 → 1 ≤ uses b k.view → block_on t.state b ≡ block_on s.state b)
    → ((g : ℕ) (x y : FilePart) → Has (g, x) v.files → Has (g, y) w.files → (place b : ℕ) → slice_get y.blocks place ≡ Some b → is_loaded y place ≡ false → (slice_get x.blocks place ≡ Some b) × (is_loaded x place ≡ false))
    → ((g : ℕ) (x : FilePart) → Has (g, x) v.files → (place b : ℕ) → slice_get x.blocks place ≡ Some b → is_loaded x place ≡ false → (block_on t.state b ≡ block_in x.bytes place) ⊎ (block_on t.state b ≡ block_on s.state b))
    → IsDiskKept k v w s t
disk_stays k v w s t others parts own = record {
  disk = others;
  loaded = λ g x y a b place c there out. let r = parts g x y a b place c there out in ⊎_elim inl (λ e. inr (r.0, r.1, e)) (own g x a place c r.0 r.1);
}

-- the one part of the names, which goes on but for what the history tells
pub names_remade : (ps : List (Unit {0} × NamesPart)) (p r : NamesPart) → ps ≡ (tt, p) ∷ [] → r ≡ record p { born = r.born; blocks = r.blocks; dropped = r.dropped; spare = r.spare; known = r.known }
    → (u : Unit {0}) (q : NamesPart) → Has {A = Unit {0} × NamesPart} (u, q) ((tt, r) ∷ [])
    → (x : NamesPart) × Has {A = Unit {0} × NamesPart} (u, x) ps × (q ≡ record x { born = q.born; blocks = q.blocks; dropped = q.dropped; spare = q.spare; known = q.known })
names_remade ps p r is goes u q h = ⊎_elim
    (λ (e : (u, q) ≡ (tt, r)). let same = ap (λ (z : Unit {0} × NamesPart). z.1) e in (
      p,
      subst (Has {A = Unit {0} × NamesPart} (tt, p)) (sym is) (inl refl),
      subst (λ (z : NamesPart). z ≡ record p { born = z.born; blocks = z.blocks; dropped = z.dropped; spare = z.spare; known = z.known }) (sym same) goes,
    ))
    (λ e. absurd e) h

-- ---- small facts

pub times_append : (b : ℕ) (xs ys : List ℕ) → times b (xs ++ ys) ≡ times b xs + times b ys
times_append b [] ys = omega arith
times_append b (x ∷ xs) ys = let i = times_append b xs ys in omega arith

pub times_has : (b : ℕ) (xs : List ℕ) → Has b xs → 1 ≤ times b xs
times_has b [] h = absurd h
times_has b (x ∷ xs) (inl e) = let t : one (eqb b x) ≡ 1 = ap one (eq-eqb b x e) in omega arith
times_has b (x ∷ xs) (inr h) = let i = times_has b xs h in omega arith

pub has_times : (b : ℕ) (xs : List ℕ) → 1 ≤ times b xs → Has b xs
has_times b [] l = absurd (omega arith)
has_times b (x ∷ xs) l = at (eqb b x) refl l (has_times b xs)
  where
    at : (c : Bool) → eqb b x ≡ c → 1 ≤ one c + times b xs → (1 ≤ times b xs → Has b xs) → (b ≡ x) ⊎ Has b xs
    at true e m r = inl (eqb-true b x e)
    at false e m r = inr (r (omega arith))

module _ (k : Start) (v : View) (single : IsSingle v) (s : StorePart) (p : NamesPart) (there : p ≡ value_after v.names p) (h : List Entry) where
  pub lent_had : HadChanges k v s p h → HadLent k v s h
  lent_had had = record {
    files = had.files;
    names = λ q a e. let same = names_here v single p q there a in had.names (e ∙ ap (λ (x : NamesPart). length x.changes) (sym same)) ∙ ap (λ (x : NamesPart). x.changes) same;
  }

  pub lent_has : HasChanges k v p h → HadLent k v s h
  lent_has has = record {
    files = λ g x a e. has.files g x a;
    names = λ q a e. has.names ∙ ap (λ (x : NamesPart). x.changes) (names_here v single p q there a);
  }

-- ---- events of the store alone, and of the store and the names

module _ (S : Showing) (k : Start) (n : ℕ) (v : View) (s0 t0 : StorePart) (faults : List ℕ) (stop : Option ℕ) (shortages : List Shortage) (has : v.store ≡ (tt, s0) ∷ []) (blocks : t0.unassigned ≡ s0.unassigned) where
  abbrev pub with_store : View
  with_store = record v { store = (tt, t0) ∷ []; seen = n; faults = faults; stop = stop; shortages = shortages }

  pub store_remakes : ((single : IsSingle v) (p : NamesPart) → p ≡ value_after v.names p → RemakesOn S k n v with_store s0 t0 p p) → MayRemake S k n v with_store
  store_remakes here = record {
    clients = refl;
    asked = refl;
    clock = refl;
    seen = refl;
    file_names = λ g. refl;
    pool_names = λ g. refl;
    has_names = λ u. refl;
    has_store = λ u. ap (count only_one u) (sym has);
    uses_stay = λ b. let e = ap (times b) blocks in let s : weigh (store_uses b) v.store ≡ weigh (store_uses b) ((tt, s0) ∷ []) = ap (weigh (store_uses b)) has in omega arith;
    files = λ g y h. (y, h, refl);
    names = λ u q h. (q, h, refl);
    on = λ single s t p q store names.
        let a : s ≡ s0 = store.0 ∙ ap (λ l. value_after l s) has in
        let b : q ≡ p = names.1 ∙ sym names.0 in
        subst (λ (u : StorePart × StorePart × NamesPart). RemakesOn S k n v with_store u.0 u.1 p u.2) (λ j. (sym a j, sym store.1 j, sym b j)) (here single p names.0);
  }

module _ (S : Showing) (k : Start) (n : ℕ) (v : View) (p0 q0 : NamesPart) (s0 t0 : StorePart) (has_names : v.names ≡ (tt, p0) ∷ []) (has_store : v.store ≡ (tt, s0) ∷ [])
    (goes : q0 ≡ record p0 { born = q0.born; blocks = q0.blocks; dropped = q0.dropped; spare = q0.spare; known = q0.known })
    (blocks : (b : ℕ) → names_uses b (tt, q0) + store_uses b (tt, t0) ≡ names_uses b (tt, p0) + store_uses b (tt, s0)) where
  abbrev pub with_both : View
  with_both = record v { names = (tt, q0) ∷ []; store = (tt, t0) ∷ []; seen = n }

  pub both_remake : (IsSingle v → RemakesOn S k n v with_both s0 t0 p0 q0) → MayRemake S k n v with_both
  both_remake here = record {
    clients = refl;
    asked = refl;
    clock = refl;
    seen = refl;
    file_names = λ g. refl;
    pool_names = λ g. refl;
    has_names = λ u. ap (count only_one u) (sym has_names);
    has_store = λ u. ap (count only_one u) (sym has_store);
    uses_stay = λ b.
        let e = blocks b in
        let f : weigh (names_uses b) v.names ≡ weigh (names_uses b) ((tt, p0) ∷ []) = ap (weigh (names_uses b)) has_names in
        let s : weigh (store_uses b) v.store ≡ weigh (store_uses b) ((tt, s0) ∷ []) = ap (weigh (store_uses b)) has_store in
        omega arith;
    files = λ g y h. (y, h, refl);
    names = names_remade v.names p0 q0 has_names goes;
    on = λ single s t p q store names.
        let a : s ≡ s0 = store.0 ∙ ap (λ l. value_after l s) has_store in
        let b : p ≡ p0 = names.0 ∙ ap (λ l. value_after l p) has_names in
        subst (λ (u : StorePart × StorePart × NamesPart × NamesPart). RemakesOn S k n v with_both u.0 u.1 u.2 u.3) (λ j. (sym a j, sym store.1 j, sym b j, sym names.1 j)) (here single);
  }
