-- What the pointers say: what comes after and before each node of a list, and which list a node is on.
use Rattle.std.specs.Prelude.{◌≡◌, ◌≢◌, ℕ, Option, None, Some, IsSome, slice_index_or, option_and_then, vec_len}
use Rattle.std.specs.Option.{option_map}
use Rattle.ufs_links.specs.declared.pointers.Place.{Place}
use Rattle.ufs_links.specs.declared.pointers.Ends.{Ends}
use Rattle.ufs_links.specs.declared.pointers.Pointers.{Pointers}

abbrev pub place_at : Pointers → ℕ → Option Place
place_at p node = slice_index_or p.places.items node None

abbrev pub no_ends : Ends
no_ends = record { front = None; back = None }

abbrev pub ends_at : Pointers → ℕ → Ends
ends_at p list = slice_index_or p.ends.items list no_ends

-- `None` stands at both ends of a list
abbrev pub after_of : Pointers → ℕ → Option ℕ → Option ℕ
after_of p list None = (ends_at p list).front
after_of p list (Some node) = option_and_then (λ place. place.after) (place_at p node)

abbrev pub before_of : Pointers → ℕ → Option ℕ → Option ℕ
before_of p list None = (ends_at p list).back
before_of p list (Some node) = option_and_then (λ place. place.before) (place_at p node)

abbrev pub list_of : Pointers → ℕ → Option ℕ
list_of p node = option_map (λ place. place.list) (place_at p node)

abbrev pub IsPlaced : Pointers → Option ℕ → Type 0
IsPlaced p None = Unit {0}
IsPlaced p (Some node) = IsSome (place_at p node)

-- how many nodes and lists there are room for
pub record SameSizes (old new : Pointers) : Type 0 where
  pub places : vec_len new.places ≡ vec_len old.places
  pub ends : vec_len new.ends ≡ vec_len old.ends

-- one pointer of a list is set, and the others stay
pub record AfterSet (old new : Pointers) (list : ℕ) (at to : Option ℕ) : Type 0 where
  pub there : after_of new list at ≡ to
  pub others : (l : ℕ) (q : Option ℕ) → q ≢ at → after_of new l q ≡ after_of old l q
  pub fronts : (l : ℕ) → l ≢ list → after_of new l None ≡ after_of old l None
  pub before : (l : ℕ) (q : Option ℕ) → before_of new l q ≡ before_of old l q
  pub lists : (n : ℕ) → list_of new n ≡ list_of old n
  pub sizes : SameSizes old new

pub record BeforeSet (old new : Pointers) (list : ℕ) (at to : Option ℕ) : Type 0 where
  pub there : before_of new list at ≡ to
  pub others : (l : ℕ) (q : Option ℕ) → q ≢ at → before_of new l q ≡ before_of old l q
  pub backs : (l : ℕ) → l ≢ list → before_of new l None ≡ before_of old l None
  pub after : (l : ℕ) (q : Option ℕ) → after_of new l q ≡ after_of old l q
  pub lists : (n : ℕ) → list_of new n ≡ list_of old n
  pub sizes : SameSizes old new

-- a node has this place, and the others stay
pub record PlaceSet (old new : Pointers) (node : ℕ) (place : Option Place) : Type 0 where
  pub there : place_at new node ≡ place
  pub others : (n : ℕ) → n ≢ node → place_at new n ≡ place_at old n
  pub ends : new.ends.items ≡ old.ends.items
  pub sizes : SameSizes old new

-- a node stands between two others of a list
pub record Joined (old new : Pointers) (list node : ℕ) (before after : Option ℕ) : Type 0 where
  pub after_before : after_of new list before ≡ Some node
  pub before_after : before_of new list after ≡ Some node
  pub after_node : before ≢ Some node → after_of new list (Some node) ≡ after
  pub before_node : after ≢ Some node → before_of new list (Some node) ≡ before
  pub list_node : list_of new node ≡ Some list
  pub afters : (l : ℕ) (q : Option ℕ) → q ≢ before → q ≢ Some node → after_of new l q ≡ after_of old l q
  pub befores : (l : ℕ) (q : Option ℕ) → q ≢ after → q ≢ Some node → before_of new l q ≡ before_of old l q
  pub fronts : (l : ℕ) → l ≢ list → after_of new l None ≡ after_of old l None
  pub backs : (l : ℕ) → l ≢ list → before_of new l None ≡ before_of old l None
  pub lists : (n : ℕ) → n ≢ node → list_of new n ≡ list_of old n
  pub sizes : SameSizes old new

-- a node is taken out between two others
pub record Parted (old new : Pointers) (node : ℕ) (place : Place) : Type 0 where
  pub after_before : place.before ≢ Some node → after_of new place.list place.before ≡ place.after
  pub before_after : place.after ≢ Some node → before_of new place.list place.after ≡ place.before
  pub afters : (l : ℕ) (q : Option ℕ) → q ≢ place.before → q ≢ Some node → after_of new l q ≡ after_of old l q
  pub befores : (l : ℕ) (q : Option ℕ) → q ≢ place.after → q ≢ Some node → before_of new l q ≡ before_of old l q
  pub fronts : (l : ℕ) → l ≢ place.list → after_of new l None ≡ after_of old l None
  pub backs : (l : ℕ) → l ≢ place.list → before_of new l None ≡ before_of old l None
  pub lists : (n : ℕ) → n ≢ node → list_of new n ≡ list_of old n
  pub off : list_of new node ≡ None
  pub sizes : SameSizes old new
