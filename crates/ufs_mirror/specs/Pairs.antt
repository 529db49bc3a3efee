-- What a pair of legs was and is, and what a mirror has by it.
use Rattle.std.specs.Prelude.{◌≡◌, ◌⊎◌, ℕ, Bool, IsTrue, List, [], ◌∷◌, ◌++◌, length, drop, map, if◌then◌else◌, nat_lt, ⊤}
use Rattle.std.specs.List.{AllByRecursion}
use Rattle.ufs_disk.specs.Disk.{Cell, State, possible}
use Rattle.ufs_disk.specs.Moments.{Moments, Passes, all}
use Rattle.ufs_mirror.specs.declared.legs.Picks.{Picks}
use Rattle.ufs_mirror.specs.declared.legs.Picks.TheVariants.{Either, First, Second}

-- one moment of the two legs, and which of them opening a pair of their images may pick
pub record Pair : Type 0 where
  pub first : State
  pub second : State
  pub picks : Picks

-- what either may have left; a read gives the first's
abbrev pub joint : Cell → Cell → Cell
joint first second = record { older = possible second ++ first.older; seen = first.seen }

abbrev pub cell_of : Picks → Cell → Cell → Cell
cell_of Either first second = joint first second
cell_of First first second = first
cell_of Second first second = second

-- past a disk's end
abbrev pub nothing : Cell
nothing = record { older = []; seen = [] }

-- What the mirror has: in each sector but the legs' last, what a leg that may be picked has there.
abbrev pub state_of : ℕ → Pair → State
state_of size pair sector = if nat_lt sector size then cell_of pair.picks (pair.first sector) (pair.second sector) else nothing

-- the two legs between two calls
pub record Snap : Type 0 where
  pub first : Moments
  pub second : Moments
  pub picks : Picks

abbrev pub present : Snap → Pair
present snap = record { first = snap.first.state; second = snap.second.state; picks = snap.picks }

-- the moment that the pair is in, and those that it was in before, in order; and the two legs, as they are now
pub record Pairs : Type 0 where
  pub earlier : List Pair
  pub now : Pair
  pub legs : Snap

abbrev pub all_pairs : Pairs → List Pair
all_pairs pairs = pairs.earlier ++ pairs.now ∷ []

-- the mirror's moments
abbrev pub moments_of : ℕ → Pairs → Moments
moments_of size pairs = record { earlier = map (state_of size) pairs.earlier; state = state_of size pairs.now }

-- the states that a leg passed from one to the other
abbrev pub passed : Moments → Moments → List State
passed old new = drop (length (all old)) (all new)

-- the moments from one to the next: the first leg's call, then the second's
abbrev pub inside : Snap → Snap → List Pair
inside old new = map (λ state. record { first = state; second = old.second.state; picks = old.picks }) (passed old.first new.first)
    ++ map (λ state. record { first = new.first.state; second = state; picks = old.picks }) (passed old.second new.second)

abbrev pub next : List Snap → Snap → Snap
next [] now = now
next (snap ∷ rest) now = snap

-- the moments from the first that was noted up to now
abbrev pub leads : List Snap → Snap → List Pair
leads [] now = []
leads (snap ∷ rest) now = present snap ∷ inside snap (next rest now) ++ leads rest now

abbrev pub pairs_of : List Snap → Snap → Pairs
pairs_of noted now = record { earlier = leads noted now; now = present now; legs = now }

-- what was noted, by the moments of each leg
abbrev pub watched : {E : Type 0} → (E → Moments) → (E → Moments) → List (E × Picks) → E → Picks → Pairs
watched first second noted now picks =
    pairs_of (map (λ e. record { first = first e.0; second = second e.0; picks = e.1 }) noted) (record { first = first now; second = second now; picks = picks })

-- the state is one of these
abbrev pub IsOneOf : State → List State → Type 0
IsOneOf state [] = ⊥
IsOneOf state (other ∷ rest) = (state ≡ other) ⊎ IsOneOf state rest

-- Each state that a leg went through stands in one of these moments of the pair.
pub record WentBy (pairs : List Pair) (old new : Snap) : Type 0 where
  pub first : Passes (λ state. IsOneOf state (map (λ (pair : Pair). pair.first) pairs)) old.first new.first
  pub second : Passes (λ state. IsOneOf state (map (λ (pair : Pair). pair.second) pairs)) old.second new.second

-- From the old moment to the new one, both included, the pair was only in moments that have R, and each leg in no other state than
-- in these. Of legs of which one keeps no moments this is known of the two moments alone.
pub record Runs (keeps : Bool) (R : Pair → Type 0) (old new : Pairs) : Type 0 where
  pub before : R old.now
  pub after : R new.now
  pub between : IsTrue keeps → (list : List Pair) × (all_pairs new ≡ all_pairs old ++ list) × AllByRecursion R list × WentBy list old.legs new.legs

-- so it is, whatever these moments are
abbrev pub Follows : Bool → Pairs → Pairs → Type 0
Follows keeps old new = Runs keeps (λ pair. ⊤) old new

-- The pair was in no other moment.
abbrev pub RunsStill : Bool → Pairs → Pairs → Type 0
RunsStill keeps old new = Runs keeps (λ pair. pair ≡ old.now) old new
