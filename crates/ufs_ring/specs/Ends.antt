-- What a contract sees of an end of a shared ring.
use Rattle.std.specs.Prelude.{◌≡◌, ℕ, List, [], ◌∷◌, ◌++◌, Option, refl}
use Rattle.std.specs.Coded.{Coded, code_by, coded×, coded_list, coded_ℕ}
use Rattle.atomic_table.specs.Seated.{TableId, table_id_coded}
use Rattle.crossbeam_queue.specs.Fifo.{Held}
use Rattle.crossbeam_queue.specs.Passes.{Pass, view, ruled_capacity}
use Rattle.crossbeam_queue.specs.declared.array_queue.Doing.{Doing}
use Rattle.crossbeam_queue.specs.declared.array_queue.Slotted.{Slotted}
use Rattle.ufs_ring.specs.Orders.{Seen, trail}
use Rattle.ufs_ring.specs.declared.ruled.Trail.{Trail}

-- which ring it is of, how many items that has room for, and what the end has put and taken, each in order
pub record End (T : Type 0) : Type 0 where
  pub ring : TableId
  pub capacity : ℕ
  pub put : List T
  pub taken : List T

module _ {T : Type 0} where
  abbrev pub end : TableId → ℕ → List T → List T → End T
  end ring capacity put taken = record { ring = ring; capacity = capacity; put = put; taken = taken }

  abbrev pub end_code : Coded T → Coded (End T)
  end_code c = code_by (TableId × (ℕ × (List T × List T))) (coded× table_id_coded (coded× coded_ℕ (coded× (coded_list c) (coded_list c)))) (λ e. (e.ring, (e.capacity, (e.put, e.taken)))) (λ p. end p.0 p.1.0 p.1.1.0 p.1.1.1) (λ _. refl)

  -- The end has put the item.
  abbrev pub HasPut : End T → T → End T → Type 0
  HasPut s x t = t ≡ end s.ring s.capacity (s.put ++ x ∷ []) s.taken

  -- It has taken the item.
  abbrev pub HasTaken : End T → T → End T → Type 0
  HasTaken s x t = t ≡ end s.ring s.capacity s.put (s.taken ++ x ∷ [])

  -- The ring was full at a moment, by what this end has put and taken.
  abbrev pub WasFull : End T → Type 0
  WasFull e = Held e.capacity (Seen (trail e.put e.taken))

  abbrev pub WasEmpty : End T → Type 0
  WasEmpty e = Held 0 (Seen (trail e.put e.taken))

-- the queue that the ends share
abbrev pub Shared : Type 0 → Type 0 → Type 0 → Type 0
Shared T Q A = Slotted (Option T) (Doing T (Trail T)) Q A

module _ {T Q A : Type 0} where
  -- which ring it is
  abbrev pub id_of : Shared T Q A → TableId
  id_of queue = queue.table.shared.table_id

  -- how many items it has room for
  abbrev pub room_of : Shared T Q A → ℕ
  room_of queue = ruled_capacity queue

  abbrev pub end_of : Shared T Q A → Pass T (Trail T) → End T
  end_of queue pass = end (id_of queue) (room_of queue) (view pass).put (view pass).taken

  -- an end of it that has put and taken nothing
  abbrev pub new_end : Shared T Q A → End T
  new_end queue = end (id_of queue) (room_of queue) [] []
