-- Rings by their places.
use Rattle.std.specs.Prelude.{ℕ, ◌≡◌, List, slice_get, slice_set, Some}

module _ {G : Type 0} where
  -- the ring at this place is so
  abbrev pub IsSoAt : (G → Type 0) → List G → ℕ → Type 0
  IsSoAt so rings place = (ring : G) × (slice_get rings place ≡ Some ring) × so ring

module _ {G A : Type 0} where
  -- The ring at this place gained the item, or lost it; the others are as they were.
  pub record HappensAt (step : G → A → G → Type 0) (old : List G) (place : ℕ) (item : A) (new : List G) : Type 0 where
    pub was : G
    pub is : G
    pub stood : slice_get old place ≡ Some was
    pub stands : new ≡ slice_set old place is
    pub so : step was item is
