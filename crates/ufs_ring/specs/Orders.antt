-- What the rule of a shared ring says.
use Rattle.std.specs.Prelude.{◌≡◌, ◌≤◌, ◌==◌, ℕ, Bool, true, List, [], ◌∷◌, ◌++◌, length, if◌then◌else◌}
use mathlib.Core.Option.{some}
use lib.ListN.{get_elem?}
use Rattle.ufs_ring.specs.declared.ruled.Trail.{Trail}

module _ {T : Type 0} where
  abbrev pub trail : List T → List T → Trail T
  trail put taken = record { put = put; taken = taken }

  -- the items of a log that end p moved
  abbrev pub by : ℕ → List (ℕ × T) → List T
  by p [] = []
  by p (e ∷ es) = if e.0 == p then e.1 ∷ by p es else by p es

  abbrev pub items_of : List (ℕ × T) → List T
  items_of [] = []
  items_of (e ∷ es) = e.1 ∷ items_of es

  -- what end p did stands in the logs
  pub record Fits (put taken : List (ℕ × T)) (p : ℕ) (v : Trail T) : Type 0 where
    pub puts : v.put ≡ by p put
    pub takes : v.taken ≡ by p taken

  pub record Keeps (items : List T) (views : List (Trail T)) : Type 0 where
    pub put : List (ℕ × T)
    pub taken : List (ℕ × T)
    pub order : items_of put ≡ items_of taken ++ items
    pub new_put : (p : ℕ) → length views ≤ p → by p put ≡ []
    pub new_taken : (p : ℕ) → length views ≤ p → by p taken ≡ []
    pub fits : (p : ℕ) (v : Trail T) → get_elem? views p ≡ some v → Fits put taken p v

  -- what an end knows of the items in the ring
  pub record Seen (v : Trail T) (items : List T) : Type 0 where
    pub p : ℕ
    pub put : List (ℕ × T)
    pub taken : List (ℕ × T)
    pub order : items_of put ≡ items_of taken ++ items
    pub mine : Fits put taken p v

  -- ---- what all ends have put and taken

  -- each item passes the test
  abbrev pub AllPass : (T → Bool) → List T → Type 0
  AllPass test [] = Unit {0}
  AllPass test (x ∷ xs) = (test x ≡ true) × AllPass test xs

  abbrev pub HavePut : (T → Bool) → List (Trail T) → Type 0
  HavePut test ends = (p : ℕ) (v : Trail T) → get_elem? ends p ≡ some v → AllPass test v.put

  abbrev pub HaveTaken : (T → Bool) → List (Trail T) → Type 0
  HaveTaken test ends = (p : ℕ) (v : Trail T) → get_elem? ends p ≡ some v → AllPass test v.taken
