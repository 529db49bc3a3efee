-- Words of all forms: numbers and zeros among bytes, the value that bytes spell, the first refusal.
use Rattle.std.specs.Prelude.{ℕ, zero, suc, ◌-◌, ◌<◌, ◌≤◌, List, [], ◌∷◌, ◌++◌, length, take, drop, replicate, slice_index, Bool, ◌==◌, nat_le, if◌then◌else◌, Option, ◌&&◌, ◌≡◌}
use Rattle.std.specs.List.{list_all}
use Rattle.std.specs.Str.{bytes_eq}
use Rattle.byteorder.specs.Endian.{little_number}
use Rattle.ufs_base.specs.Choices.{some_if}

-- the little-endian number of so many bytes that stands at this place
abbrev pub number_at : ℕ → ℕ → List ℕ → ℕ
number_at size at bytes = little_number size (drop at bytes)

-- the byte at this place
abbrev pub byte_at : ℕ → List ℕ → ℕ
byte_at at bytes = slice_index bytes at

-- a list filled up to this length
abbrev pub padded : {X : Type 0} → X → ℕ → List X → List X
padded filler size xs = xs ++ replicate (size - length xs) filler

-- The list has this length, and behind the first `count` stands the filler alone.
pub record IsPadded {X : Type 0} (filler : X) (size count : ℕ) (xs : List X) : Type 0 where
  pub counted : count ≤ size
  pub sized : length xs ≡ size
  pub rest : drop count xs ≡ replicate (size - count) filler

-- how many there are
abbrev pub count_of : {X : Type 0} → List X → ℕ
count_of xs = length xs

-- zeros behind the bytes, up to this length
abbrev pub filled_to : ℕ → List ℕ → List ℕ
filled_to size bytes = padded 0 size bytes

-- nothing but zeros
abbrev pub is_zeros : List ℕ → Bool
is_zeros bytes = list_all (λ b. b == 0) bytes

-- so many pieces of this size
abbrev pub pieces : ℕ → ℕ → List ℕ → List (List ℕ)
pieces zero size bytes = []
pieces (suc count) size bytes = take size bytes ∷ pieces count size (drop size bytes)

-- The value whose spelling the bytes are: the fields of any bytes give one, and its spelling has to be these bytes.
abbrev pub spelled : {X : Type 0} → (List ℕ → X) → (X → List ℕ) → (X → Bool) → List ℕ → Option X
spelled fields spelling is_form bytes = let v = fields bytes in some_if (is_form v && bytes_eq (spelling v) bytes) v

-- put into a list that rises by a number, before those with the same one
abbrev pub placed_by : {X : Type 0} → (X → ℕ) → X → List X → List X
placed_by key x [] = x ∷ []
placed_by key x (y ∷ ys) = if nat_le (key x) (key y) then x ∷ y ∷ ys else y ∷ placed_by key x ys

-- by rising number; those with the same one keep their order
abbrev pub rising_by : {X : Type 0} → (X → ℕ) → List X → List X
rising_by key [] = []
rising_by key (x ∷ xs) = placed_by key x (rising_by key xs)
