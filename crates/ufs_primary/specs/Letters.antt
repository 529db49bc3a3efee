-- What the front letter of the primary comes to: its files then, and the file that waits for room.
use Rattle.std.specs.Prelude.{◌≡◌, ◌⊎◌, true, false, IsSome, Option, Some, None}
use Rattle.ufs_joint.specs.Cells.{FileCell}
use Rattle.ufs_at_primary.specs.OfHome.{HomeState, come_on, onward}
use Rattle.ufs_at_primary.specs.OfHome.{file_here}
use Rattle.ufs_msg.specs.declared.letter.Letter.{Letter}
use Rattle.ufs_msg.specs.declared.letter.Letter.TheVariants.{Parcel, Recall, Report}
use Rattle.ufs_owner.specs.Lacks.{IsLackOut}
use Rattle.ufs_owner.specs.Owners.{is_coming, owner_at}
use Rattle.ufs_primary.specs.declared.turn.PrimaryTurn.{PrimaryTurn}
use Rattle.ufs_primary.specs.declared.turn.PrimaryTurn.TheVariants as turn

-- The file was coming: it is here, or goes on where a worker is noted and nobody waits for it. Or there was no room for that, and it waits;
-- as it would where it wasn't coming, or its number is here, and then it makes no turn.
abbrev pub IsSettled : HomeState → HomeState → Option FileCell → FileCell → Option PrimaryTurn → Type 0
IsSettled h g waits c (Some turn.Settled) = (is_coming (owner_at h.owners c.value.file.file) ≡ true) × (g ≡ come_on h c (onward h.owners c.value.file.file)) × (waits ≡ None)
IsSettled h g waits c (Some (turn.Lack lack)) = (is_coming (owner_at h.owners c.value.file.file) ≡ true) × IsLackOut h.owners lack × (g ≡ h) × (waits ≡ Some c)
IsSettled h g waits c None = ((is_coming (owner_at h.owners c.value.file.file) ≡ false) ⊎ IsSome (file_here h.places c.value.file.file)) × (g ≡ h) × (waits ≡ Some c)
IsSettled h g waits c _ = ⊥

-- A worker's report makes a turn; the recall of a file is for workers alone.
abbrev pub IsLetterDone : HomeState → HomeState → Option FileCell → Letter FileCell → Option PrimaryTurn → Type 0
IsLetterDone h g waits (Parcel c) o = IsSettled h g waits c o
IsLetterDone h g waits (Recall file) o = (o ≡ None) × (g ≡ h) × (waits ≡ None)
IsLetterDone h g waits (Report loads) o = (o ≡ Some turn.Noted) × (g ≡ h) × (waits ≡ None)

module _ {Q : Type 0} (same : Q → Q → Type 0) (gets : Q → Letter FileCell → Q → Type 0) (none : Q → Type 0) where
  -- the front letter of the ring is done
  abbrev pub IsNextDone : HomeState → HomeState → Option FileCell → Q → Q → Option PrimaryTurn → Type 0
  IsNextDone h g waits p q o = (same p q × none p × (o ≡ None) × (g ≡ h) × (waits ≡ None)) ⊎ ((l : Letter FileCell) × gets p l q × IsLetterDone h g waits l o)

  -- A file that waits for room comes first.
  abbrev pub IsFrontDone : Option FileCell → HomeState → HomeState → Option FileCell → Q → Q → Option PrimaryTurn → Type 0
  IsFrontDone (Some c) h g waits p q o = IsSettled h g waits c o × (q ≡ p)
  IsFrontDone None h g waits p q o = IsNextDone h g waits p q o
