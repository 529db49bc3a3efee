-- The states that a disk was in, and what a crash at one of them leaves.
use Rattle.std.specs.Prelude.{◌≡◌, Bool, IsTrue, List, [], ◌∷◌, ◌++◌}
use Rattle.std.specs.List.{AllByRecursion}
use Rattle.ufs_base.specs.Images.{Image}
use Rattle.ufs_disk.specs.Disk.{State, Leaves, seen}

-- the state that the disk is in, and those that it was in before, in order
pub record Moments : Type 0 where
  pub earlier : List State
  pub state : State

-- all of them: the last is the state that the disk is in
abbrev pub all : Moments → List State
all moments = moments.earlier ++ moments.state ∷ []

-- what a read gives now
abbrev pub reads : Moments → Image
reads moments = seen moments.state

-- the disk went to another state
abbrev pub gone_to : State → Moments → Moments
gone_to state moments = record { earlier = all moments; state = state }

-- of a disk that isn't visible
abbrev pub unseen : Moments
unseen = record { earlier = []; state = λ sector. record { older = []; seen = [] } }

-- From the old moment on the disk was only in states that have P.
pub record Passes (P : State → Type 0) (old new : Moments) : Type 0 where
  pub inside : List State
  pub whole : all new ≡ all old ++ inside
  pub each : AllByRecursion P inside

-- From the old moment on the disk was in no other state.
pub record IsStill (keeps : Bool) (old new : Moments) : Type 0 where
  pub state : new.state ≡ old.state
  pub between : IsTrue keeps → Passes (λ state. state ≡ old.state) old new

-- At each moment from the old one to the new one, both included, a crash leaves only images that have P. Of a disk
-- that keeps no moments this is known of the two alone.
pub record LeavesOnly (keeps : Bool) (P : Image → Type 0) (old new : Moments) : Type 0 where
  pub before : Leaves P old.state
  pub after : Leaves P new.state
  pub between : IsTrue keeps → Passes (Leaves P) old new
