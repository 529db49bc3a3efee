-- What a put and a take do to a ring of one thread.
use Rattle.std.specs.Prelude.{◌≡◌, ◌<◌, ◌≤◌, [], ◌∷◌, ◌++◌, length}
use Rattle.circular_buffer.specs.Buffer.{Buffer, buffer}

module _ {T : Type 0} where
  -- There was room, and the item went behind all others.
  abbrev pub HasGained : Buffer T → T → Buffer T → Type 0
  HasGained s x t = (length s.items < s.capacity) × (t ≡ buffer (s.items ++ x ∷ []) s.capacity)

  -- The item stood in front, and is gone.
  abbrev pub HasLost : Buffer T → T → Buffer T → Type 0
  HasLost s x t = (s.items ≡ x ∷ t.items) × (t.capacity ≡ s.capacity)

  abbrev pub IsFull : Buffer T → Type 0
  IsFull s = s.capacity ≤ length s.items

  abbrev pub IsEmpty : Buffer T → Type 0
  IsEmpty s = s.items ≡ []
