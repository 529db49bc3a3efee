-- The rings of one thread, as they begin and as they stay.
use Rattle.std.specs.Prelude.{ℕ, ◌≡◌, List, [], Some, replicate, slice_get}
use Rattle.circular_buffer.specs.Buffer.{Buffer, buffer}
use Rattle.ufs_hand_laws.specs.Owned.{Has}
use Rattle.ufs_msg.specs.Addressed.{IsAnswerTo}
use Rattle.ufs_msg.specs.declared.answer.Answer.{Answer}
use Rattle.ufs_msg.specs.declared.servers.PerServer.{PerServer}

module _ {A : Type 0} where
  -- a ring that holds nothing, with room for so many
  abbrev pub empty : ℕ → Buffer A
  empty room = buffer [] room

  -- The primary and so many workers have rings that hold nothing, with this room.
  pub record AreEmpty (workers room : ℕ) (rings : PerServer (Buffer A) (Buffer A)) : Type 0 where
    pub primary : rings.primary ≡ empty room
    pub others : rings.workers.items ≡ replicate workers (empty room)

module _ {N : Type 0} where
  -- Each ring of a client has answers to it alone.
  abbrev pub AreAddressed : List (Buffer (Answer N)) → Type 0
  AreAddressed rings = (client : ℕ) (ring : Buffer (Answer N)) (x : Answer N) → slice_get rings client ≡ Some ring → Has x ring.items → IsAnswerTo client x
