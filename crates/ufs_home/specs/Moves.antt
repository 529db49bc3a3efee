-- What an order to move a file comes to.
use Rattle.std.specs.Prelude.{ℕ, zero, suc, ◌≡◌, ◌==◌, ◌⊎◌, Bool, true, false, cond, Some}
use Rattle.ufs_base.specs.declared.lack.Lack.{Lack as Lack'}
use Rattle.ufs_joint.specs.Cells.{FileCell}
use Rattle.ufs_owner.specs.Owners.{owner_at, with_owner}
use Rattle.ufs_owner.specs.declared.owner.Owner.{Owner}
use Rattle.ufs_owner.specs.declared.owner.Owner.TheVariants.{Primary, Worker, Coming, Going}
use Rattle.ufs_home.specs.Home.{HomeState, called_back, sent}
use Rattle.ufs_home.specs.Places.{file_here}
use Rattle.ufs_home.specs.declared.moved.Moved.{Moved}
use Rattle.ufs_home.specs.declared.moved.Moved.TheVariants.{Sent, Recalled, Renoted, Nothing, Lack}

-- a worker has the file, or is to have it
abbrev pub moved_from : ℕ → ℕ → Moved
moved_from worker to = cond (worker == to) Nothing Recalled

-- the file is at the primary, and a client waits for it or doesn't
abbrev pub moved_here : ℕ → Bool → Moved
moved_here zero waited = Nothing
moved_here (suc n) true = Nothing
moved_here (suc n) false = Sent

-- By who has the file: it is to go to this worker, or to the primary for 0. Where it is there nothing is done, and where a client waits for
-- it at the primary it stays.
abbrev pub order_of : Owner → Bool → ℕ → Moved
order_of Primary waited to = moved_here to waited
order_of (Worker worker) waited to = moved_from worker to
order_of (Going worker) waited to = moved_from worker to
order_of (Coming worker) waited to = Renoted

-- these need room for a letter
abbrev pub wants_room : Moved → Bool
wants_room Sent = true
wants_room Recalled = true
wants_room _ = false

-- What it comes to, or want of room for that.
abbrev pub IsOrdered : Moved → Moved → Type 0
IsOrdered wanted made = (made ≡ wanted) ⊎ ((lack : Lack') × (made ≡ Lack lack) × (wants_room wanted ≡ true))

-- what lacked is so
abbrev pub IfLack : Moved → (Lack' → Type 0) → Type 0
IfLack (Lack lack) So = So lack
IfLack _ So = Unit {0}

-- What it did.
abbrev pub IsMoved : HomeState → HomeState → ℕ → ℕ → Moved → Type 0
IsMoved h g file to Sent = (c : FileCell) × (file_here h.places file ≡ Some c) × (g ≡ sent h file c to)
IsMoved h g file to Recalled = g ≡ called_back h file to
IsMoved h g file to Renoted = g ≡ record h { owners = with_owner h.owners file (owner_at h.owners file) to }
IsMoved h g file to Nothing = g ≡ h
IsMoved h g file to (Lack lack) = g ≡ h
