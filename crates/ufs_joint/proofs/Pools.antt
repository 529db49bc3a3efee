-- Free blocks move.
use Rattle.std.proofs.Common.{◌≡◌, ℕ, ◌⊎◌, ◌||◌, inl, inr, Bool, true, false, List, ap, sym, refl, ◌∙◌}
use Rattle.std.specs.FinSet as set
use Rattle.ufs_bitmap.specs.Blocks.{BlockSet}
use Rattle.ufs_bitmap.proofs.SetLemmas.{has-union}
use Rattle.ufs_model.specs.PosixTree.{PosixTree}
use Rattle.ufs_model.specs.declared.data.Entry.{Entry}
use Rattle.ufs_promise_laws.specs.FileRequests.{with_free}
use Rattle.ufs_promise_laws.proofs.EventsGoing.{same_ledger}
use Rattle.ufs_store.specs.State.{StoreState}
use Rattle.ufs_promise_laws.specs.Known.{IsKeptGoing, IsKeptStopped, Known}
use Rattle.ufs_promise_laws.specs.Parts.{Parts, ThePool, Unassigned}
use Rattle.ufs_promise_laws.proofs.Pools.{blocks_move}
use Rattle.ufs_joint.specs.Pools.{PoolsJoin, PoolsPart, PoolsStayKept}

pub pools_stay : PoolsStayKept
pools_stay s start history p known pool rest moves (inl k) = inl (record {
  going = record {
    ledger = k.going.ledger;
    counts = k.going.counts;
    has = same_ledger s rest k.going.ledger k.going.has;
    formed = k.going.formed;
    stored = blocks_move k.going.ledger s.unassigned.free rest start history k.going.counts p pool moves k.going.stored;
  };
  covers = k.covers;
  numbered = k.numbered;
})
pools_stay s start history p known pool rest moves (inr k) = inr (record {
  stopped = record {
    stopped = k.stopped.stopped;
    ledger = k.stopped.ledger;
    now = k.stopped.now;
    maybe = k.stopped.maybe;
    has = k.stopped.has;
    formed = k.stopped.formed;
    tree = k.stopped.tree;
    legal = k.stopped.legal;
    kept = k.stopped.kept;
    parts = record { names = k.stopped.parts.names; files = k.stopped.parts.files; inodes = k.stopped.parts.inodes; here = k.stopped.parts.here };
    clean = k.stopped.clean;
  };
  now = k.now;
  maybe = k.maybe;
})

-- ---- a turn of the store

off_true : (b : Bool) → (b ≡ true → ⊥) → b ≡ false
off_true true not = absurd (not refl)
off_true false not = refl

either : (one other : BlockSet) (block : ℕ) → set.contains (set.union one other) block ≡ true → (set.contains one block ≡ true) ⊎ (set.contains other block ≡ true)
either one other block is = by (set.contains one block) refl
  where
    by : (b : Bool) → set.contains one block ≡ b → (set.contains one block ≡ true) ⊎ (set.contains other block ≡ true)
    by true e = inl e
    by false e = inr (sym (ap (λ (v : Bool). v || set.contains other block) e) ∙ sym (has-union one other block) ∙ is)

first : (one other : BlockSet) (block : ℕ) → set.contains one block ≡ true → set.contains (set.union one other) block ≡ true
first one other block is = has-union one other block ∙ ap (λ (v : Bool). v || set.contains other block) is

last : (one other : BlockSet) (block : ℕ) → set.contains other block ≡ true → set.contains (set.union one other) block ≡ true
last one other block is = by (set.contains one block) refl
  where
    by : (b : Bool) → set.contains one block ≡ b → set.contains (set.union one other) block ≡ true
    by true e = first one other block e
    by false e = has-union one other block ∙ ap (λ (v : Bool). v || set.contains other block) e ∙ is

-- of a store that goes on no block of the pool is unassigned
pool_off : (s : StoreState) (start : PosixTree) (history : List Entry) (p : Parts) (known : Known) → IsKeptGoing s start history p known → (block : ℕ) → set.contains p.pool block ≡ true → set.contains s.unassigned.free block ≡ true → ⊥
pool_off s start history p known k block pooled free = let clash = k.going.stored.spaced.apart ThePool Unassigned block pooled free in cc

-- of one that has stopped nothing is said of free blocks
stopped_free : (s : StoreState) (start : PosixTree) (history : List Entry) (p : Parts) (known : Known) (pool rest : BlockSet) → IsKeptStopped s start history p known → IsKeptStopped (with_free rest s) start history (record p { pool = pool }) known
stopped_free s start history p known pool rest k = record {
  stopped = record {
    stopped = k.stopped.stopped;
    ledger = k.stopped.ledger;
    now = k.stopped.now;
    maybe = k.stopped.maybe;
    has = k.stopped.has;
    formed = k.stopped.formed;
    tree = k.stopped.tree;
    legal = k.stopped.legal;
    kept = k.stopped.kept;
    parts = record { names = k.stopped.parts.names; files = k.stopped.parts.files; inodes = k.stopped.parts.inodes; here = k.stopped.parts.here };
    clean = k.stopped.clean;
  };
  now = k.now;
  maybe = k.maybe;
}

pub pools_join : PoolsJoin
pools_join s start history p known others apart (inr k) = inr (stopped_free (with_free (set.union s.unassigned.free others) s) start history p known (set.union p.pool others) s.unassigned.free k)
pools_join s start history p known others apart (inl k) =
    pools_stay (with_free (set.union s.unassigned.free others) s) start history p known (set.union p.pool others) s.unassigned.free
    (record {
      pool = λ block is. by block (either p.pool others block is);
      store = λ block is. inr (first s.unassigned.free others block is);
      apart = λ block is. off block (either p.pool others block is);
    }) (inl k)
  where
    by : (block : ℕ) → (set.contains p.pool block ≡ true) ⊎ (set.contains others block ≡ true) → (set.contains p.pool block ≡ true) ⊎ (set.contains (set.union s.unassigned.free others) block ≡ true)
    by block (inl pooled) = inl pooled
    by block (inr other) = inr (last s.unassigned.free others block other)

    off : (block : ℕ) → (set.contains p.pool block ≡ true) ⊎ (set.contains others block ≡ true) → set.contains s.unassigned.free block ≡ false
    off block (inl pooled) = off_true (set.contains s.unassigned.free block) (λ free. pool_off (with_free (set.union s.unassigned.free others) s) start history p known k block pooled (first s.unassigned.free others block free))
    off block (inr other) = apart block other

pub pools_part : PoolsPart
pools_part s start history p known pool others is apart (inr k) = inr (stopped_free s start history p known pool (set.union s.unassigned.free others) k)
pools_part s start history p known pool others is apart (inl k) =
    pools_stay s start history p known pool (set.union s.unassigned.free others)
    (record {
      pool = λ block pooled. inl (in_pool block (first pool others block pooled));
      store = λ block free. by block (either s.unassigned.free others block free);
      apart = λ block pooled. off_true (set.contains (set.union s.unassigned.free others) block) (λ free. off block pooled (either s.unassigned.free others block free));
    }) (inl k)
  where
    in_pool : (block : ℕ) → set.contains (set.union pool others) block ≡ true → set.contains p.pool block ≡ true
    in_pool block has = ap (λ (b : BlockSet). set.contains b block) is ∙ has

    by : (block : ℕ) → (set.contains s.unassigned.free block ≡ true) ⊎ (set.contains others block ≡ true) → (set.contains p.pool block ≡ true) ⊎ (set.contains s.unassigned.free block ≡ true)
    by block (inl free) = inr free
    by block (inr other) = inl (in_pool block (last pool others block other))

    off : (block : ℕ) → set.contains pool block ≡ true → (set.contains s.unassigned.free block ≡ true) ⊎ (set.contains others block ≡ true) → ⊥
    off block pooled (inl free) = pool_off s start history p known k block (in_pool block (first pool others block pooled)) free
    off block pooled (inr other) = (let clash = sym other ∙ apart block pooled in cc)
