-- Free blocks of a server go out of those that count as unassigned, and back: so pools of other servers count as unassigned while
-- one of them acts.
use Rattle.std.specs.Prelude.{ℕ, ◌≡◌, List, true, false}
use Rattle.ufs_bitmap.specs.Blocks.{BlockSet}
use Rattle.ufs_model.specs.PosixTree.{PosixTree}
use Rattle.ufs_model.specs.declared.data.Entry.{Entry}
use Rattle.std.specs.FinSet as set
use Rattle.ufs_promise_laws.specs.FileRequests.{with_free}
use Rattle.ufs_store.specs.State.{StoreState}
use Rattle.ufs_promise_laws.specs.Laws.{MovesBlocks}
use Rattle.ufs_promise_laws.specs.Parts.{Parts}
use Rattle.ufs_promise_laws.specs.Known.{IsDiskKept, Known}

abbrev pub PoolsStayKept : Type 0
PoolsStayKept = (s : StoreState) (start : PosixTree) (history : List Entry) (p : Parts) (known : Known) (pool rest : BlockSet) → MovesBlocks p.pool s.unassigned.free pool rest
    → IsDiskKept s start history p known → IsDiskKept (with_free rest s) start history (record p { pool = pool }) known

-- ---- a turn of the store

-- Between turns the pools of all servers count as unassigned. For a turn they count as the pool of the server that has it, since its
-- calls tell of the store's own unassigned blocks,
abbrev pub PoolsJoin : Type 0
PoolsJoin = (s : StoreState) (start : PosixTree) (history : List Entry) (p : Parts) (known : Known) (others : BlockSet) → ((block : ℕ) → set.contains others block ≡ true → set.contains s.unassigned.free block ≡ false)
    → IsDiskKept (with_free (set.union s.unassigned.free others) s) start history p known → IsDiskKept s start history (record p { pool = set.union p.pool others }) known

-- and behind it as unassigned again.
abbrev pub PoolsPart : Type 0
PoolsPart = (s : StoreState) (start : PosixTree) (history : List Entry) (p : Parts) (known : Known) (pool others : BlockSet) → p.pool ≡ set.union pool others → ((block : ℕ) → set.contains pool block ≡ true → set.contains others block ≡ false)
    → IsDiskKept s start history p known → IsDiskKept (with_free (set.union s.unassigned.free others) s) start history (record p { pool = pool }) known
