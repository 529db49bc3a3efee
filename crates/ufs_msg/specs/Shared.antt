-- The rings between threads, and the ends that an actor has of them.
use Rattle.std.specs.Prelude.{ℕ, ◌-◌, ◌≡◌, List, Some, map, replicate, slice_get}
use Rattle.ufs_model.specs.declared.data.Actor.{Actor}
use Rattle.ufs_model.specs.declared.data.Actor.TheVariants as actor
use Rattle.ufs_ring.specs.Ends.{End, Shared, new_end, room_of}
use Rattle.ufs_msg.specs.declared.servers.PerServer.{PerServer}

module _ {A Q B : Type 0} where
  -- So many rings have this room each.
  abbrev pub HaveRooms : ℕ → ℕ → List (Shared A Q B) → Type 0
  HaveRooms count room rings = map (λ r. room_of r) rings ≡ replicate count room

  -- The primary's ring and those of so many workers have this room each.
  pub record HaveRoom (workers room : ℕ) (rings : PerServer (Shared A Q B) (Shared A Q B)) : Type 0 where
    pub primary : room_of rings.primary ≡ room
    pub others : HaveRooms workers room rings.workers.items

  -- new ends of these rings, of each one
  abbrev pub new_ends : List (Shared A Q B) → List (End A)
  new_ends rings = map (λ r. new_end r) rings

  -- They are new ends of these rings, each server's of its own.
  pub record AreEndsOf (rings : PerServer (Shared A Q B) (Shared A Q B)) (ends : PerServer (End A) (End A)) : Type 0 where
    pub primary : ends.primary ≡ new_end rings.primary
    pub others : ends.workers.items ≡ new_ends rings.workers.items

  -- It is a new end of the ring at this place.
  abbrev pub IsEndAt : List (Shared A Q B) → ℕ → End A → Type 0
  IsEndAt rings place end = (ring : Shared A Q B) × (slice_get rings place ≡ Some ring) × (end ≡ new_end ring)

  -- It is a new end of this server's ring.
  abbrev pub IsEndFor : PerServer (Shared A Q B) (Shared A Q B) → Actor → End A → Type 0
  IsEndFor rings actor.Primary end = end ≡ new_end rings.primary
  IsEndFor rings (actor.Worker worker) end = IsEndAt rings.workers.items (worker - 1) end
  IsEndFor rings (actor.Client client) end = ⊥
