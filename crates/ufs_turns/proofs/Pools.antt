-- Blocks go between a pool and the store.
use Rattle.std.proofs.Common.{◌≡◌, ◌≤◌, ◌⊎◌, inl, inr, ◌||◌, ◌&&◌, not, eqb, ℕ, Bool, true, false, List, [], ◌∷◌, sym, refl, ap, ◌∙◌, subst, arith}
use Rattle.std.specs.FinSet as set
use Rattle.ufs_bitmap.specs.Blocks.{BlockSet}
use Rattle.ufs_bitmap.specs.Space.{Space}
use Rattle.ufs_bitmap.proofs.SetLemmas.{has-difference, has-empty, has-union}
use Rattle.ufs_disk.specs.Moments.{Moments}
use Rattle.ufs_layout.specs.Areas.{first_of_data}
use Rattle.ufs_layout.specs.declared.geometry.Geometry.{Geometry}
use Rattle.ufs_hand_laws.specs.Owned.{Has, count, each}
use Rattle.ufs_store.specs.Blocks.{AreApart, AreInside, MovesLowest}
use Rattle.ufs_store.specs.State.{StoreState}
use Rattle.ufs_promise_laws.specs.Parts.{Parts, ThePool, Unassigned}
use Rattle.ufs_joint.specs.Cells.{Start, StoreCell, View}
use Rattle.ufs_joint.specs.Disks.{cell_of}
use Rattle.ufs_joint.specs.Known.{Knows}
use Rattle.ufs_joint.specs.Moves.{IsIn, MayMoveBlocks, blocks_moved}
use Rattle.ufs_joint.specs.Rule.{looked_at}
use Rattle.ufs_joint.specs.Whole.{no_blocks, pooled}
use Rattle.ufs_turns.specs.HeldStore.{IsStoreIn, moved_in, moved_view}
use Rattle.ufs_turns.specs.Lent.{IsBesidePools}

-- ---- one pool

or_true : (b : Bool) → (b || true) ≡ true
or_true true = refl
or_true false = refl

or_none : (b : Bool) → (b || false) ≡ b
or_none true = refl
or_none false = refl

pooled_is : (name : ℕ) (p : BlockSet) (b : ℕ) → set.contains (pooled ((name, p) ∷ [])) b ≡ set.contains p b
pooled_is name p b = has-union p no_blocks b ∙ ap (λ (x : Bool). set.contains p b || x) (has-empty b) ∙ or_none (set.contains p b)

in_one : (name : ℕ) (p free : BlockSet) (b : ℕ) → IsIn ((name, p) ∷ []) free b → (set.contains free b || set.contains p b) ≡ true
in_one name p free b (inl is) = ap (λ (x : Bool). x || set.contains p b) is
in_one name p free b (inr is) = ap (λ (x : Bool). set.contains free b || x) (sym (pooled_is name p b) ∙ is) ∙ or_true (set.contains free b)

one_of : (name : ℕ) (p free : BlockSet) (b : ℕ) → (set.contains free b || set.contains p b) ≡ true → IsIn ((name, p) ∷ []) free b
one_of name p free b is = by (set.contains free b) refl is
  where
    by : (x : Bool) → set.contains free b ≡ x → (x || set.contains p b) ≡ true → IsIn ((name, p) ∷ []) free b
    by true e is = inl e
    by false e is = inr (pooled_is name p b ∙ is)

pub may_move : (v : View) (was : StoreCell) (name : ℕ) (had pool rest : BlockSet) → v.store ≡ (tt, was) ∷ [] → v.pools ≡ (name, had) ∷ [] → ((b : ℕ) → (set.contains rest b || set.contains pool b) ≡ (set.contains was.unassigned.free b || set.contains had b))
    → ((b : ℕ) → set.contains pool b ≡ true → set.contains rest b ≡ false) → MayMoveBlocks v was ((name, pool) ∷ []) rest
may_move v was name had pool rest store pools same apart = record {
  has_store = store;
  same_pools = λ n. sym (ap (count eqb n) pools);
  from = λ b is. subst (λ (ps : List (ℕ × BlockSet)). IsIn ps was.unassigned.free b) (sym pools) (one_of name had was.unassigned.free b (sym (same b) ∙ in_one name pool rest b is));
  to = λ b is. one_of name pool rest b (same b ∙ in_one name had was.unassigned.free b (subst (λ (ps : List (ℕ × BlockSet)). IsIn ps was.unassigned.free b) pools is));
  apart = λ n m one other b x y _ _. first n one x ∙ sym (first m other y);
  off_store = λ b is. apart b (sym (pooled_is name pool b) ∙ is);
}
  where
    first : (n : ℕ) (p : BlockSet) → Has {A = ℕ × BlockSet} (n, p) ((name, pool) ∷ []) → n ≡ name
    first n p (inl is) = ap (λ (q : ℕ × BlockSet). q.0) is
    first n p (inr is) = absurd is

-- ---- what the hand knows of its pool

module _ (k : Start) (m : ℕ) (v : View) (knows : Knows k m v) (was : StoreCell) (store : v.store ≡ (tt, was) ∷ []) (name : ℕ) (had : BlockSet) (pools : v.pools ≡ (name, had) ∷ []) where
  in_parts : (b : ℕ) → set.contains had b ≡ true → set.contains knows.parts.pool b ≡ true
  in_parts b is = ap (λ (p : BlockSet). set.contains p b) (knows.around.pool ∙ ap pooled pools) ∙ pooled_is name had b ∙ is

  -- none of it is unassigned
  pub pool_apart : AreApart had was.unassigned.free
  pool_apart b is = by (set.contains was.unassigned.free b) refl
    where
      by : (x : Bool) → set.contains was.unassigned.free b ≡ x → set.contains was.unassigned.free b ≡ false
      by false e = e
      by true e = (let clash = knows.around.server.apart ThePool Unassigned b (in_parts b is) (knows.unassigned tt was (subst (Has (tt, was)) (sym store) (inl refl)) b e) in absurd cc)

  -- and all of it is of the data area
  pub pool_inside : (space : Space) → space.first ≡ first_of_data k.geometry → space.blocks ≡ k.geometry.blocks → AreInside space had
  pool_inside space first blocks b is = (let here = knows.around.server.inside ThePool b (in_parts b is) in let from = here.from in let under = here.under in (omega (arith, first, from), omega (arith, blocks, under)))

-- ---- which blocks move

pub given_same : (want : ℕ) (from kept to gained : BlockSet) → MovesLowest want from kept to gained → (b : ℕ) → (set.contains kept b || set.contains gained b) ≡ (set.contains from b || set.contains to b)
given_same want from kept to gained moves b =
    ap (λ (x : Bool). set.contains kept b || x) (ap (λ (s : BlockSet). set.contains s b) moves.given ∙ has-union to (set.difference from kept) b ∙ ap (λ (c : Bool). set.contains to b || c) (has-difference from kept b))
    ∙ by (set.contains kept b) (set.contains from b) (set.contains to b) (moves.within b)
  where
    by : (kept from to : Bool) → (kept ≡ true → from ≡ true) → (kept || (to || (from && not kept))) ≡ (from || to)
    by true from to within = sym (ap (λ (x : Bool). x || to) (within refl))
    by false true true within = refl
    by false true false within = refl
    by false false true within = refl
    by false false false within = refl

pub given_apart : (want : ℕ) (from kept to gained : BlockSet) → MovesLowest want from kept to gained → AreApart to from → (b : ℕ) → set.contains gained b ≡ true → set.contains kept b ≡ false
given_apart want from kept to gained moves apart b is =
    by (set.contains kept b) (set.contains from b) (set.contains to b) (moves.within b) (apart b)
    (sym (ap (λ (s : BlockSet). set.contains s b) moves.given ∙ has-union to (set.difference from kept) b ∙ ap (λ (c : Bool). set.contains to b || c) (has-difference from kept b)) ∙ is)
  where
    by : (kept from to : Bool) → (kept ≡ true → from ≡ true) → (to ≡ true → from ≡ false) → (to || (from && not kept)) ≡ true → kept ≡ false
    by false from to within apart e = refl
    by true true true within apart e = (let clash = apart refl in absurd cc)
    by true false to within apart e = (let clash = within refl in absurd cc)
    by true true false within apart e = absurd cc

pub back_same : (from had : BlockSet) (b : ℕ) → (set.contains (set.union from had) b || set.contains no_blocks b) ≡ (set.contains from b || set.contains had b)
back_same from had b = (λ i. has-union from had b i || has-empty b i) ∙ or_none (set.contains from b || set.contains had b)

pub none_there : (b : ℕ) (c : Bool) → set.contains no_blocks b ≡ true → c ≡ false
none_there b c is = (let clash : true ≡ false = sym is ∙ has-empty b in absurd cc)

-- ---- once they have moved

module _ (k : Start) (origin : Moments) (visible keeps : Bool) (m : ℕ) (v w z : View) (s t : StoreState) (home : IsStoreIn k origin visible keeps v s) (looked : w ≡ looked_at v m) (name : ℕ) (had pool : BlockSet) (pools : v.pools ≡ (name, had) ∷ [])
    (rest : t ≡ record s { unassigned = record (s.unassigned) { free = t.unassigned.free } }) (moved : z ≡ moved_view pool t w) where
  abbrev was : StoreCell
  was = cell_of home.stamp home.past s

  store_in : w.store ≡ (tt, was) ∷ []
  store_in = ap (λ (q : View). q.store) looked ∙ home.has

  pools_in : w.pools ≡ (name, had) ∷ []
  pools_in = ap (λ (q : View). q.pools) looked ∙ pools

  moved_is : z ≡ blocks_moved ((name, pool) ∷ []) t.unassigned.free was w
  moved_is = moved ∙ (λ i. moved_in pool t w (store_in i)) ∙ (λ i. blocks_moved (each (λ _ had. pool) (pools_in i)) t.unassigned.free was w)

  pub pools_then : z.pools ≡ (name, pool) ∷ []
  pools_then = ap (λ (q : View). q.pools) moved_is

  pub store_then : IsStoreIn k origin visible keeps z t
  store_then = subst (IsStoreIn k origin visible keeps z) (sym rest) (record {
    stamp = home.stamp;
    past = home.past;
    has = ap (λ (q : View). q.store) moved_is;
    sees = home.sees;
    formed = home.formed;
    size = home.size;
    grown = home.grown;
    since = home.since;
    covers = home.covers;
    passes = home.passes;
  })

  pub beside_then : v.seen ≤ m → IsBesidePools v z
  beside_then later = record {
    clients = ap (λ (q : View). q.clients) moved_is ∙ ap (λ (q : View). q.clients) looked;
    asked = ap (λ (q : View). q.asked) moved_is ∙ ap (λ (q : View). q.asked) looked;
    files = ap (λ (q : View). q.files) moved_is ∙ ap (λ (q : View). q.files) looked;
    names = ap (λ (q : View). q.names) moved_is ∙ ap (λ (q : View). q.names) looked;
    faults = ap (λ (q : View). q.faults) moved_is ∙ ap (λ (q : View). q.faults) looked;
    seen = (let e = ap (λ (q : View). q.seen) moved_is in let f = ap (λ (q : View). q.seen) looked in omega (arith, e, f, later));
  }
