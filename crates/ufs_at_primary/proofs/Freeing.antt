-- No block is lost where room is made: sets of blocks that come together.
use Rattle.std.proofs.Common.{◌≡◌, ℕ, zero, suc, Bool, true, false, ◌||◌, List, [], ◌∷◌, Option, Some, None, is_some, refl, sym, ap, ◌∙◌, subst}
use Rattle.std.specs.FinSet as set
use Rattle.ufs_bitmap.specs.Blocks.{BlockSet}
use Rattle.ufs_bitmap.specs.Taking.{set_of}
use Rattle.ufs_bitmap.proofs.SetLemmas.{has-empty, has-union, same_blocks}
use Rattle.ufs_held_names.specs.SyncAll.{freed_by}
use Rattle.ufs_home.specs.Home.{HomeState}
use Rattle.ufs_joint.specs.Cells.{FileCell, NamesCell, View}
use Rattle.ufs_serving.specs.Pools.{AreConserved}
use Rattle.ufs_turns.specs.Lent.{AreTold, free_in}
use Rattle.ufs_at_primary.specs.Room.{free_of, free_with}
use Rattle.ufs_at_primary.specs.Stock.{StockState, stock_of}

or_false : (a : Bool) → (a || false) ≡ a
or_false true = refl
or_false false = refl

or_assoc : (a b c : Bool) → ((a || b) || c) ≡ (a || (b || c))
or_assoc true b c = refl
or_assoc false b c = refl

or_swap : (a b c : Bool) → ((a || b) || c) ≡ ((a || c) || b)
or_swap true b c = refl
or_swap false true true = refl
or_swap false true false = refl
or_swap false false true = refl
or_swap false false false = refl

pub union_none : (a : BlockSet) → set.union a set.empty ≡ a
union_none a = same_blocks _ _ (λ q. has-union a set.empty q ∙ ap (λ (b : Bool). set.contains a q || b) (has-empty q) ∙ or_false (set.contains a q))

none_union : (a : BlockSet) → set.union set.empty a ≡ a
none_union a = same_blocks _ _ (λ q. has-union set.empty a q ∙ ap (λ (b : Bool). b || set.contains a q) (has-empty q))

union_assoc : (a b c : BlockSet) → set.union (set.union a b) c ≡ set.union a (set.union b c)
union_assoc a b c = same_blocks _ _ (λ q.
    has-union (set.union a b) c q
    ∙ ap (λ (x : Bool). x || set.contains c q) (has-union a b q)
    ∙ or_assoc (set.contains a q) (set.contains b q) (set.contains c q)
    ∙ sym (has-union a (set.union b c) q ∙ ap (λ (x : Bool). set.contains a q || x) (has-union b c q)))

pub union_swap : (a b c : BlockSet) → set.union (set.union a b) c ≡ set.union (set.union a c) b
union_swap a b c = same_blocks _ _ (λ q.
    has-union (set.union a b) c q
    ∙ ap (λ (x : Bool). x || set.contains c q) (has-union a b q)
    ∙ or_swap (set.contains a q) (set.contains b q) (set.contains c q)
    ∙ sym (has-union (set.union a c) b q ∙ ap (λ (x : Bool). x || set.contains b q) (has-union a c q)))

-- what files dropped comes to what was there
pub freed_beside : (k : ℕ) (cs : List FileCell) (had : BlockSet) → freed_by k cs had ≡ set.union had (freed_by k cs set.empty)
freed_beside zero cs had = sym (union_none had)
freed_beside (suc k) [] had = sym (union_none had)
freed_beside (suc k) (c ∷ cs) had =
    let d = set_of c.value.dropped in
    freed_beside k cs (set.union had d)
    ∙ union_assoc had d (freed_by k cs set.empty)
    ∙ ap (set.union had) (ap (λ (x : BlockSet). set.union x (freed_by k cs set.empty)) (sym (none_union d)) ∙ sym (freed_beside k cs (set.union set.empty d)))

-- ---- where it is told

-- So many files were committed, and no block was dropped by the names, or taken from what they had dropped.
pub free_freed : (o w : Option View) (a b : BlockSet) (k : ℕ) (cs : List FileCell) → b ≡ a → AreTold o w (λ had has. has ≡ freed_by k cs had) → AreTold o w (λ had has. set.union has b ≡ set.union (set.union had a) (freed_by k cs set.empty))
free_freed None w a b k cs same told = tt
free_freed (Some v) None a b k cs same told = tt
free_freed (Some v) (Some w) a b k cs same told =
    (λ i. set.union ((told ∙ freed_beside k cs (free_in v.store)) i) (same i)) ∙ union_swap (free_in v.store) (freed_by k cs set.empty) a

-- And then what they had dropped came back.
pub free_back : (o m w : Option View) (a b c : BlockSet) (k : ℕ) (cs : List FileCell) → is_some m ≡ is_some o → b ≡ a → c ≡ set.empty → AreTold o m (λ had has. has ≡ freed_by k cs had) → AreTold m w (λ had has. has ≡ set.union had b)
    → AreTold o w (λ had has. set.union has c ≡ set.union (set.union had a) (freed_by k cs set.empty))
free_back None m w a b c k cs telling same none told back = tt
free_back (Some v) None w a b c k cs telling same none told back = absurd cc
free_back (Some v) (Some u) None a b c k cs telling same none told back = tt
free_back (Some v) (Some u) (Some w) a b c k cs telling same none told back =
    ap (set.union (free_in w.store)) none ∙ union_none (free_in w.store) ∙ back ∙ (λ i. set.union ((told ∙ freed_beside k cs (free_in v.store)) i) (same i)) ∙ union_swap (free_in v.store) (freed_by k cs set.empty) a

-- Or it didn't.
pub free_kept : (o m w : Option View) (a b c : BlockSet) (k : ℕ) (cs : List FileCell) → is_some m ≡ is_some o → b ≡ a → c ≡ b → AreTold o m (λ had has. has ≡ freed_by k cs had) → AreTold m w (λ had has. has ≡ had)
    → AreTold o w (λ had has. set.union has c ≡ set.union (set.union had a) (freed_by k cs set.empty))
free_kept None m w a b c k cs telling same still told back = tt
free_kept (Some v) None w a b c k cs telling same still told back = absurd cc
free_kept (Some v) (Some u) None a b c k cs telling same still told back = tt
free_kept (Some v) (Some u) (Some w) a b c k cs telling same still told back =
    (λ i. set.union ((back ∙ told ∙ freed_beside k cs (free_in v.store)) i) ((still ∙ same) i)) ∙ union_swap (free_in v.store) (freed_by k cs set.empty) a

-- ---- what is at the primary

-- Nothing is done.
pub none_freed : (o : Option View) (s : StockState) → AreTold o o (λ had has. free_of has s ≡ set.union (free_of had s) set.empty)
none_freed None s = tt
none_freed (Some v) s = sym (union_none (free_of (free_in v.store) s))

-- The same set was freed.
pub free_so : (o w : Option View) (s t : StockState) (x y : BlockSet) → y ≡ x → AreTold o w (λ had has. free_of has t ≡ set.union (free_of had s) x) → AreTold o w (λ had has. free_of has t ≡ set.union (free_of had s) y)
free_so o w s t x y same told = subst (λ (b : BlockSet). AreTold o w (λ had has. free_of has t ≡ set.union (free_of had s) b)) (sym same) told

-- The pool alone changed.
pub free_pool : (o w : Option View) (s : StockState) (pool : BlockSet) → AreConserved o w s.pool pool → AreTold o w (λ had has. free_of has (record s { pool = pool }) ≡ free_of had s)
free_pool None w s pool told = tt
free_pool (Some v) None s pool told = tt
free_pool (Some v) (Some w) s pool told =
    let d = s.names.dropped in
    union_swap (free_in w.store) d pool ∙ ap (λ (x : BlockSet). set.union x d) (sym told) ∙ union_swap (free_in v.store) s.pool d

-- The names alone changed, and have dropped what they had.
pub free_names : (o w : Option View) (s : StockState) (names : NamesCell) → names.dropped ≡ s.names.dropped → AreTold o w (λ had has. has ≡ had) → AreTold o w (λ had has. free_of has (record s { names = names }) ≡ free_of had s)
free_names None w s names same told = tt
free_names (Some v) None s names same told = tt
free_names (Some v) (Some w) s names same told = (λ i. set.union (set.union (told i) (same i)) s.pool)

-- That was all.
pub free_first : (o w : Option View) (s n t : StockState) → t ≡ n → AreTold o w (λ had has. free_of has n ≡ free_of had s) → AreTold o w (λ had has. free_of has t ≡ set.union (free_of had s) set.empty)
free_first None w s n t same told = tt
free_first (Some v) None s n t same told = tt
free_first (Some v) (Some w) s n t same told = ap (free_of (free_in w.store)) same ∙ told ∙ sym (union_none (free_of (free_in v.store) s))

-- And then the rest was done.
pub free_then : (o m w : Option View) (s n t : StockState) (x y : BlockSet) → is_some m ≡ is_some o → y ≡ x → AreTold o m (λ had has. free_of has n ≡ free_of had s) → AreTold m w (λ had has. free_of has t ≡ set.union (free_of had n) x)
    → AreTold o w (λ had has. free_of has t ≡ set.union (free_of had s) y)
free_then None m w s n t x y telling same first then = tt
free_then (Some v) None w s n t x y telling same first then = absurd cc
free_then (Some v) (Some u) None s n t x y telling same first then = tt
free_then (Some v) (Some u) (Some w) s n t x y telling same first then = then ∙ (λ i. set.union (first i) (sym same i))

-- All files were lent for it.
pub free_files : (o w : Option View) (old new : NamesCell) (h k : HomeState) (pool freed : BlockSet) → AreTold o w (λ had has. free_with has new ≡ set.union (free_with had old) freed)
    → AreTold o w (λ had has. free_of has (stock_of new k pool) ≡ set.union (free_of had (stock_of old h pool)) freed)
free_files None w old new h k pool freed told = tt
free_files (Some v) None old new h k pool freed told = tt
free_files (Some v) (Some w) old new h k pool freed told = ap (λ (x : BlockSet). set.union x pool) told ∙ union_swap (free_with (free_in v.store) old) freed pool
