-- A store, a file and a pool go on being ready.
use Rattle.std.proofs.Common.{◌≡◌, ℕ, zero, suc, ◌-◌, ◌⊎◌, inl, inr, List, [], ◌∷◌, ◌++◌, ◌||◌, ◌&&◌, Bool, true, false, not, eqb, ap, sym, refl, ◌∙◌, subst, arith}
use Rattle.std.specs.FinSet as set
use Rattle.std.specs.Prelude.{All, Result, Ok, Err, OnOk, OnErr, Some, nat_eq}
use Rattle.std.specs.List.{AllByRecursion, IsDistinct, slice_get}
use Rattle.std.proofs.lemmas.Bool.Decides.{nat_tests}
use Rattle.std.proofs.lemmas.List.{append-nil}
use Rattle.std.proofs.lemmas.List.Elements.{All-cons, All-head, All-nil, All-tail}
use Rattle.ufs_bitmap.specs.Blocks.{BlockSet}
use Rattle.ufs_bitmap.specs.Space.{IsInside, Space}
use Rattle.ufs_bitmap.specs.Taking.{IsApart, has, set_of}
use Rattle.ufs_bitmap.proofs.SetLemmas.{has-blocks_between, has-difference, has-empty, has-insert, has-union}
use Rattle.ufs_bitmap.proofs.TakingLemmas.{distinct-none, distinct_apart, distinct_back, distinct_front, has-append, has-none, in_run}
use Rattle.ufs_file_commits.specs.State.{DurableState, IsNoted, blocks_held, file_committed}
use Rattle.ufs_file_commits.specs.Writes.{AreDataBlocks}
use Rattle.ufs_extent.specs.declared.Run.{Run}
use Rattle.ufs_extent.specs.Runs.{IsRun, blocks_in, blocks_of, end_of}
use Rattle.ufs_layout.specs.Areas.{is_inode_number}
use Rattle.ufs_layout.specs.declared.geometry.Geometry.{Geometry}
use Rattle.ufs_ledger.specs.Ledger.{IsDataBlock}
use Rattle.ufs_store.specs.Blocks.{MayReturn, MovesLowest}
use Rattle.ufs_store.specs.State.{StoreState, geometry_of_store}
use Rattle.ufs_file_commits_tests.specs.Ready.{IsHere, IsReady, all_free, small}

-- ---- sets

clash : {P : Type 0} (b : Bool) → b ≡ true → b ≡ false → P
clash b on off = let wrong : true ≡ false = sym on ∙ off in absurd cc

in_either : (x y : Bool) → (x || y) ≡ true → (x ≡ true) ⊎ (y ≡ true)
in_either true y e = inl refl
in_either false y e = inr e

in_both : (x y : Bool) → (x && y) ≡ true → (x ≡ true) × (y ≡ true)
in_both true y e = (refl, e)
in_both false y e = let wrong = e in absurd cc

not_in : (x : Bool) → not x ≡ true → x ≡ false
not_in true e = let wrong = e in absurd cc
not_in false e = refl

or_true : (b : Bool) → (b || true) ≡ true
or_true true = refl
or_true false = refl

off_unless : (b : Bool) → (b ≡ true → ⊥) → b ≡ false
off_unless true no_more = absurd (no_more refl)
off_unless false no_more = refl

of_union : (s t : BlockSet) (b : ℕ) → set.contains (set.union s t) b ≡ true → (set.contains s b ≡ true) ⊎ (set.contains t b ≡ true)
of_union s t b e = in_either (set.contains s b) (set.contains t b) (sym (has-union s t b) ∙ e)

to_union : (s t : BlockSet) (b : ℕ) → (set.contains s b ≡ true) ⊎ (set.contains t b ≡ true) → set.contains (set.union s t) b ≡ true
to_union s t b (inl is) = has-union s t b ∙ ap (λ (x : Bool). x || set.contains t b) is
to_union s t b (inr is) = has-union s t b ∙ ap (λ (x : Bool). set.contains s b || x) is ∙ or_true (set.contains s b)

in_front : (xs ys : List ℕ) (b : ℕ) → has xs b ≡ true → has (xs ++ ys) b ≡ true
in_front xs ys b is = has-append xs ys b ∙ ap (λ (x : Bool). x || has ys b) is

in_back : (xs ys : List ℕ) (b : ℕ) → has ys b ≡ true → has (xs ++ ys) b ≡ true
in_back xs ys b is = has-append xs ys b ∙ ap (λ (x : Bool). has xs b || x) is ∙ or_true (has xs b)

-- ---- lists of blocks

data_blocks : (xs : List ℕ) → ((b : ℕ) → has xs b ≡ true → IsHere b) → AllByRecursion (IsDataBlock small) xs
data_blocks [] here = tt
data_blocks (x ∷ xs) here =
    let self : eqb x x ≡ true = grind (arith, nat_tests) in
    let first = here x (has-insert (set.from_list xs) x x ∙ ap (λ (t : Bool). t || has xs x) self) in (
      record { from = first.0; under = first.1 },
      data_blocks xs (λ b is. here b (has-insert (set.from_list xs) x b ∙ ap (λ (t : Bool). eqb b x || t) is ∙ or_true (eqb b x))),
    )

inside_all : (s : Space) (runs : List Run) → s.first ≡ 14 → s.blocks ≡ 256 → All IsRun runs → ((b : ℕ) → has (blocks_of runs) b ≡ true → IsHere b) → All (IsInside s) runs
inside_all s [] first last valid here = All-nil (IsInside s)
inside_all s (r ∷ rs) first last valid here =
    let is : IsRun r = All-head IsRun r rs valid in
    let some = is.0 in
    let low = here r.start (in_front (blocks_in r) (blocks_of rs) r.start (in_run r r.start (omega arith) (omega (arith, some)))) in
    let high = here (end_of r - 1) (in_front (blocks_in r) (blocks_of rs) (end_of r - 1) (in_run r (end_of r - 1) (omega (arith, some)) (omega (arith, some)))) in
    let from = low.0 in
    let under = high.1 in
    All-cons (IsInside s) r rs (omega (arith, first, from), omega (arith, last, under, some))
    (inside_all s rs first last (All-tail IsRun r rs valid) (λ b there. here b (in_back (blocks_in r) (blocks_of rs) b there)))

-- ---- the start

pub ready_at_first : (s : StoreState) (f : DurableState) (pool : BlockSet) → geometry_of_store s ≡ small → s.unassigned ≡ all_free → f.file.file ≡ 1 → f.file.inode ≡ 2 → f.file.extents ≡ [] → f.dropped ≡ [] → IsNoted f
    → pool ≡ set.empty → IsReady s f pool
ready_at_first s f pool geometry free number inode none dropped noted is = record {
  geometry = geometry;
  first = ap (λ (x : Space). x.first) free;
  blocks = ap (λ (x : Space). x.blocks) free;
  number = number;
  inode = inode;
  noted = noted;
  free_here = λ b there. has-blocks_between 14 256 b (sym (ap (λ (x : Space). set.contains x.free b) free) ∙ there);
  pool_here = λ b there. clash (set.contains pool b) there (out b);
  held_here = λ b there. clash (has (blocks_held f) b) there (unheld b);
  apart = λ b there. clash (set.contains pool b) there (out b);
  from_pool = record { absent = λ b there. out b; once = once };
  from_free = record { absent = λ b there. clash (has (blocks_held f) b) there (unheld b); once = once };
}
  where
    held : blocks_held f ≡ []
    held = λ i. blocks_of (none i) ++ blocks_of (dropped i)

    out : (b : ℕ) → set.contains pool b ≡ false
    out b = ap (λ (p : BlockSet). set.contains p b) is ∙ has-empty b

    unheld : (b : ℕ) → has (blocks_held f) b ≡ false
    unheld b = ap (λ (l : List ℕ). has l b) held ∙ has-none b

    once : IsDistinct nat_eq (blocks_held f)
    once = subst (IsDistinct nat_eq) (sym held) distinct-none

module _ (s : StoreState) (f : DurableState) (pool : BlockSet) (ready : IsReady s f pool) where
  -- ---- what the calls ask

  pub are_data_blocks : AreDataBlocks (geometry_of_store s) (blocks_of f.file.extents)
  are_data_blocks = subst (λ (g : Geometry). AllByRecursion (IsDataBlock g) (blocks_of f.file.extents)) (sym ready.geometry)
      (data_blocks (blocks_of f.file.extents) (λ b is. ready.held_here b (in_front (blocks_of f.file.extents) (blocks_of f.dropped) b is)))

  pub is_data_block : (b : ℕ) → has (blocks_of f.file.extents) b ≡ true → IsDataBlock (geometry_of_store s) b
  is_data_block b is =
      let here = ready.held_here b (in_front (blocks_of f.file.extents) (blocks_of f.dropped) b is) in
      subst (λ (g : Geometry). IsDataBlock g b) (sym ready.geometry) (record { from = here.0; under = here.1 })

  pub may_return : All IsRun f.dropped → MayReturn s.unassigned f.dropped
  may_return valid = record {
    inside = inside_all s.unassigned f.dropped ready.first ready.blocks valid (λ b is. ready.held_here b (in_back (blocks_of f.file.extents) (blocks_of f.dropped) b is));
    apart = record {
      absent = λ b is. ready.from_free.absent b (in_back (blocks_of f.file.extents) (blocks_of f.dropped) b is);
      once = distinct_back (blocks_of f.file.extents) (blocks_of f.dropped) ready.from_free.once;
    };
  }

  pub is_number : is_inode_number (geometry_of_store s) f.file.inode ≡ true
  is_number = λ i. is_inode_number (ready.geometry i) (ready.inode i)

  -- ---- what they leave

  pub ready_still : (t : StoreState) (g : DurableState) → geometry_of_store t ≡ geometry_of_store s → t.unassigned ≡ s.unassigned → g ≡ f → IsReady t g pool
  ready_still t g geometry free same = subst (λ (x : DurableState). IsReady t x pool) (sym same) (record {
    geometry = geometry ∙ ready.geometry;
    first = ap (λ (x : Space). x.first) free ∙ ready.first;
    blocks = ap (λ (x : Space). x.blocks) free ∙ ready.blocks;
    number = ready.number;
    inode = ready.inode;
    noted = ready.noted;
    free_here = λ b there. ready.free_here b (sym (ap (λ (x : Space). set.contains x.free b) free) ∙ there);
    pool_here = ready.pool_here;
    held_here = ready.held_here;
    apart = λ b there. ap (λ (x : Space). set.contains x.free b) free ∙ ready.apart b there;
    from_pool = ready.from_pool;
    from_free = subst (λ (x : Space). IsApart x.free (blocks_held f)) (sym free) ready.from_free;
  })

  -- the file with the same blocks, and a store with the same ones unassigned
  pub ready_read : (t : StoreState) (g : DurableState) → geometry_of_store t ≡ geometry_of_store s → t.unassigned ≡ s.unassigned → g.file.file ≡ 1 → g.file.inode ≡ 2 → blocks_held g ≡ blocks_held f → IsNoted g → IsReady t g pool
  ready_read t g geometry free number inode same noted = record {
    geometry = geometry ∙ ready.geometry;
    first = ap (λ (x : Space). x.first) free ∙ ready.first;
    blocks = ap (λ (x : Space). x.blocks) free ∙ ready.blocks;
    number = number;
    inode = inode;
    noted = noted;
    free_here = λ b there. ready.free_here b (sym (ap (λ (x : Space). set.contains x.free b) free) ∙ there);
    pool_here = ready.pool_here;
    held_here = λ b held. ready.held_here b (ap (λ (l : List ℕ). has l b) (sym same) ∙ held);
    apart = λ b there. ap (λ (x : Space). set.contains x.free b) free ∙ ready.apart b there;
    from_pool = subst (IsApart pool) (sym same) ready.from_pool;
    from_free = subst (λ (x : Space). IsApart x.free (blocks_held g)) (sym free) (subst (IsApart s.unassigned.free) (sym same) ready.from_free);
  }

  pub ready_kept : (t : StoreState) (same : BlockSet) → t ≡ s → same ≡ pool → IsReady t f same
  ready_kept t same e is = subst (λ (p : BlockSet). IsReady t f p) (sym is) (subst (λ (x : StoreState). IsReady x f pool) (sym e) ready)

  pub ready_filled : (t : StoreState) (gained : BlockSet) (want : ℕ) → t ≡ record s { unassigned = record (s.unassigned) { free = t.unassigned.free } }
      → MovesLowest want s.unassigned.free t.unassigned.free pool gained → IsReady t f gained
  ready_filled t gained want rest moves = record {
    geometry = ap (λ (x : StoreState). geometry_of_store x) rest ∙ ready.geometry;
    first = ap (λ (x : StoreState). x.unassigned.first) rest ∙ ready.first;
    blocks = ap (λ (x : StoreState). x.unassigned.blocks) rest ∙ ready.blocks;
    number = ready.number;
    inode = ready.inode;
    noted = ready.noted;
    free_here = λ b there. ready.free_here b (moves.within b there);
    pool_here = λ b there. here b (from b there);
    held_here = ready.held_here;
    apart = λ b there. free_of b (from b there);
    from_pool = record { absent = λ b held. off_unless (set.contains gained b) (λ there. out b held (from b there)); once = ready.from_pool.once };
    from_free = record { absent = λ b held. off_unless (set.contains t.unassigned.free b) (λ there. clash (set.contains s.unassigned.free b) (moves.within b there) (ready.from_free.absent b held)); once = ready.from_free.once };
  }
    where
      Comes : ℕ → Type 0
      Comes b = (set.contains pool b ≡ true) ⊎ ((set.contains s.unassigned.free b ≡ true) × (set.contains t.unassigned.free b ≡ false))

      from : (b : ℕ) → set.contains gained b ≡ true → Comes b
      from b there = by (of_union pool (set.difference s.unassigned.free t.unassigned.free) b (sym (ap (λ (p : BlockSet). set.contains p b) moves.given) ∙ there))
        where
          by : (set.contains pool b ≡ true) ⊎ (set.contains (set.difference s.unassigned.free t.unassigned.free) b ≡ true) → Comes b
          by (inl is) = inl is
          by (inr is) =
              let both = in_both (set.contains s.unassigned.free b) (not (set.contains t.unassigned.free b)) (sym (has-difference s.unassigned.free t.unassigned.free b) ∙ is) in
              inr (both.0, not_in (set.contains t.unassigned.free b) both.1)

      here : (b : ℕ) → Comes b → IsHere b
      here b (inl is) = ready.pool_here b is
      here b (inr is) = ready.free_here b is.0

      free_of : (b : ℕ) → Comes b → set.contains t.unassigned.free b ≡ false
      free_of b (inl is) = off_unless (set.contains t.unassigned.free b) (λ there. clash (set.contains s.unassigned.free b) (moves.within b there) (ready.apart b is))
      free_of b (inr is) = is.1

      out : (b : ℕ) → has (blocks_held f) b ≡ true → Comes b → ⊥
      out b held (inl is) = clash (set.contains pool b) is (ready.from_pool.absent b held)
      out b held (inr is) = clash (set.contains s.unassigned.free b) is.0 (ready.from_free.absent b held)

  pub ready_served : (g : DurableState) (left : BlockSet) → g.file.file ≡ f.file.file → g.file.inode ≡ f.file.inode → IsNoted g
      → set.union left (set.from_list (blocks_held g)) ≡ set.union pool (set.from_list (blocks_held f)) → ((b : ℕ) → set.contains left b ≡ true → set.contains pool b ≡ true)
      → IsApart left (blocks_held g) → IsReady s g left
  ready_served g left number inode noted together taken apart = record {
    geometry = ready.geometry;
    first = ready.first;
    blocks = ready.blocks;
    number = number ∙ ready.number;
    inode = inode ∙ ready.inode;
    noted = noted;
    free_here = ready.free_here;
    pool_here = λ b there. ready.pool_here b (taken b there);
    held_here = λ b held. here b (from b held);
    apart = λ b there. ready.apart b (taken b there);
    from_pool = apart;
    from_free = record { absent = λ b held. unfree b (from b held); once = apart.once };
  }
    where
      from : (b : ℕ) → has (blocks_held g) b ≡ true → (set.contains pool b ≡ true) ⊎ (has (blocks_held f) b ≡ true)
      from b held =
          of_union pool (set.from_list (blocks_held f)) b (sym (ap (λ (p : BlockSet). set.contains p b) together) ∙ to_union left (set.from_list (blocks_held g)) b (inr held))

      here : (b : ℕ) → (set.contains pool b ≡ true) ⊎ (has (blocks_held f) b ≡ true) → IsHere b
      here b (inl is) = ready.pool_here b is
      here b (inr is) = ready.held_here b is

      unfree : (b : ℕ) → (set.contains pool b ≡ true) ⊎ (has (blocks_held f) b ≡ true) → set.contains s.unassigned.free b ≡ false
      unfree b (inl is) = ready.apart b is
      unfree b (inr is) = ready.from_free.absent b is

  pub ready_synced : (t : StoreState) (g : DurableState) → geometry_of_store t ≡ geometry_of_store s → t.unassigned ≡ record (s.unassigned) { free = set.union s.unassigned.free (set_of f.dropped) }
      → g ≡ file_committed f → IsNoted g → IsReady t g pool
  ready_synced t g geometry free same noted = subst (λ (x : DurableState). IsReady t x pool) (sym same) (record {
    geometry = geometry ∙ ready.geometry;
    first = ap (λ (x : Space). x.first) free ∙ ready.first;
    blocks = ap (λ (x : Space). x.blocks) free ∙ ready.blocks;
    number = ready.number;
    inode = ready.inode;
    noted = subst IsNoted same noted;
    free_here = λ b there. here b (from b there);
    pool_here = ready.pool_here;
    held_here = λ b held. ready.held_here b (own b held);
    apart = λ b there. off_unless (set.contains t.unassigned.free b) (λ is. out b there (from b is));
    from_pool = record { absent = λ b held. ready.from_pool.absent b (own b held); once = once };
    from_free = record { absent = λ b held. off_unless (set.contains t.unassigned.free b) (λ is. not_free b held (from b is)); once = once };
  })
    where
      xs : List ℕ
      xs = blocks_of f.file.extents

      ys : List ℕ
      ys = blocks_of f.dropped

      from : (b : ℕ) → set.contains t.unassigned.free b ≡ true → (set.contains s.unassigned.free b ≡ true) ⊎ (has ys b ≡ true)
      from b there = of_union s.unassigned.free (set_of f.dropped) b (sym (ap (λ (x : Space). set.contains x.free b) free) ∙ there)

      here : (b : ℕ) → (set.contains s.unassigned.free b ≡ true) ⊎ (has ys b ≡ true) → IsHere b
      here b (inl is) = ready.free_here b is
      here b (inr is) = ready.held_here b (in_back xs ys b is)

      first_own : (b : ℕ) → has (xs ++ []) b ≡ true → has xs b ≡ true
      first_own b held = by (in_either (has xs b) (has [] b) (sym (has-append xs [] b) ∙ held))
        where
          by : (has xs b ≡ true) ⊎ (has [] b ≡ true) → has xs b ≡ true
          by (inl is) = is
          by (inr is) = clash (has [] b) is (has-none b)

      own : (b : ℕ) → has (xs ++ []) b ≡ true → has (xs ++ ys) b ≡ true
      own b held = in_front xs ys b (first_own b held)

      out : (b : ℕ) → set.contains pool b ≡ true → (set.contains s.unassigned.free b ≡ true) ⊎ (has ys b ≡ true) → ⊥
      out b there (inl is) = clash (set.contains s.unassigned.free b) is (ready.apart b there)
      out b there (inr is) = clash (set.contains pool b) there (ready.from_pool.absent b (in_back xs ys b is))

      not_free : (b : ℕ) → has (xs ++ []) b ≡ true → (set.contains s.unassigned.free b ≡ true) ⊎ (has ys b ≡ true) → ⊥
      not_free b held (inl is) = clash (set.contains s.unassigned.free b) is (ready.from_free.absent b (own b held))
      not_free b held (inr is) = clash (has ys b) is (distinct_apart xs ys ready.from_free.once b (first_own b held))

      once : IsDistinct nat_eq (xs ++ [])
      once = subst (IsDistinct nat_eq) (sym (append-nil xs)) (distinct_front xs ys ready.from_free.once)

-- ---- either way that a call ends

pub either_end : {A E X Y P : Type 0} → (r : Result A E) → OnOk r X → OnErr r Y → (X → P) → (Y → P) → P
either_end (Ok x) ok err f g = f ok
either_end (Err e) ok err f g = g err

-- a block of the list
pub has_at : (xs : List ℕ) (i b : ℕ) → slice_get xs i ≡ Some b → has xs b ≡ true
has_at [] i b e = let wrong = e in absurd cc
has_at (x ∷ xs) zero b e =
    let same : eqb b x ≡ true = (let is = e in let one : x ≡ b = cc in grind (arith, nat_tests, one)) in
    has-insert (set.from_list xs) x b ∙ ap (λ (t : Bool). t || has xs b) same
has_at (x ∷ xs) (suc i) b e = has-insert (set.from_list xs) x b ∙ ap (λ (t : Bool). eqb b x || t) (has_at xs i b e) ∙ or_true (eqb b x)

-- two facts of the same end
pub both_ends : {A E X Y V W P : Type 0} → (r : Result A E) → OnOk r X → OnErr r Y → OnOk r V → OnErr r W → (X → V → P) → (Y → W → P) → P
both_ends (Ok x) ok err more less f g = f ok more
both_ends (Err e) ok err more less f g = g err less
