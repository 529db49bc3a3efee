-- What a command over two legs answers, and what it does to them.
use Rattle.std.specs.Prelude.{ℕ, ◌≡◌, ◌⊎◌, ◌&&◌, IsTrue, List, [], Option, Some, None}
use Rattle.ufs_mirror.specs.Opens.{OpenRight}
use Rattle.ufs_mirror.specs.Pairs.{Follows}
use Rattle.ufs_mirror.specs.declared.fault.MirrorFault.{MirrorFault}
use Rattle.ufs_command.specs.Endings.{IsAnswer, IsFixed, IsLine}
use Rattle.ufs_command.specs.Ends.{Ends}
use Rattle.ufs_command.specs.Lacked.{Lacks}
use Rattle.ufs_command.specs.Left.{LeavesDisk}
use Rattle.ufs_command.specs.Seen.{Reading, Writing}
use Rattle.ufs_command.specs.Told.{Tells}
use Rattle.ufs_command.specs.declared.ending.Ending.{Ending}
use Rattle.ufs_command.specs.declared.ending.Ending.TheVariants.{NotBuilt, OutOfMemory, Usage}
use Rattle.ufs_command.specs.declared.words.Command.{Command}
use Rattle.ufs_command.specs.declared.words.Command.TheVariants as command
use Rattle.ufs_process.specs.Counts.{HasFailed}
use Rattle.ufs_process.specs.Joining.{Joins, Unjoined, works_on_disk}
use Rattle.ufs_process.specs.Refusals.{mirror_ending, mirror_line}
use Rattle.ufs_process.specs.Throughout.{OpensOn}
use Rattle.ufs_process.specs.Views.{Handed, Kind, View, course_of, formatting_of, moments_in, pairs_in}

-- The source is as it was.
abbrev pub IsUnread : Reading → Type 0
IsUnread r = (r.rest ≡ r.left) × (r.now ≡ r.before)

-- How a command ends that calls no leg: its words are none, or one that isn't built; or there was no memory for them.
abbrev pub EndsAlone : Option Command → Ending → List ℕ → Type 0
EndsAlone None ending text = IsFixed Usage ending text ⊎ IsFixed OutOfMemory ending text
EndsAlone (Some command.NotBuilt) ending text = IsFixed NotBuilt ending text ⊎ IsFixed OutOfMemory ending text
EndsAlone _ ending text = IsFixed OutOfMemory ending text

-- No leg was called.
pub record LeavesLegs {A B : Type 0} (words : Option Command) (r : Reading) (w : Writing) (h : Handed A B) : Type 0 where
  pub first : h.first_now ≡ h.first
  pub second : h.second_now ≡ h.second
  pub told : h.told ≡ []
  pub unread : IsUnread r
  pub answer : IsAnswer (EndsAlone words) w h.status

-- The legs make no mirror, and the sink got the line of the cause, before the source was read.
pub record RefusesLegs {A B : Type 0} (one : Kind A) (other : Kind B) (words : Option Command) (r : Reading) (w : Writing) (h : Handed A B) : Type 0 where
  pub works : IsTrue (works_on_disk words)
  pub fault : MirrorFault
  pub why : Unjoined one other words h.first h.second h.first_now h.second_now fault
  pub told : h.told ≡ []
  pub unread : IsUnread r
  pub answer : IsAnswer (IsLine (mirror_ending fault) (mirror_line fault)) w h.status

-- They make one, and all that holds of the command over a disk holds over it.
pub record ServesMirror {A B : Type 0} (one : Kind A) (other : Kind B) (words : Option Command) (r : Reading) (w : Writing) (h : Handed A B) : Type 0 where
  pub works : IsTrue (works_on_disk words)
  pub before : View A B
  pub after : View A B
  pub joins : Joins one other words h.first h.second before
  pub first : h.first_now ≡ after.legs.first
  pub second : h.second_now ≡ after.legs.second
  pub answer : IsAnswer (Ends words r (formatting_of one other before after) h.told) w h.status
  pub tells : Tells words r (formatting_of one other before after) h.told w h.status
  pub disk : LeavesDisk words h.told h.status (course_of one other before after)
  pub lacked : Lacks words (one.visible && other.visible) (one.keeps && other.keeps) h.status h.lacked (moments_in one other before) (moments_in one other after)
  -- A call of it fails only where a call of each leg has failed.
  pub failed : (after.faults ≡ 0 → ⊥) → HasFailed (one.faults h.first) (one.faults h.first_now) × HasFailed (other.faults h.second) (other.faults h.second_now)
  -- From the one to the other each leg was only in states that stand in moments of the pair.
  pub follows : ∥ (IsTrue one.visible → IsTrue other.visible → Follows (one.keeps && other.keeps) (pairs_in one other before) (pairs_in one other after)) ∥₁
  -- At each moment, whatever pair of images the legs may have left: where it opens, it opens to an image of the mirror,
  pub right : ∥ (IsTrue one.visible → IsTrue other.visible → OpenRight (one.keeps && other.keeps) after.sectors (pairs_in one other after)) ∥₁
  -- so to one that the command allows a crash to leave there.
  pub opens : ∥ (IsTrue one.visible → IsTrue other.visible → OpensOn one other words h.told before after) ∥₁

-- what a command over two legs does
abbrev pub AnswersOver : {A B : Type 0} → Kind A → Kind B → Option Command → Reading → Writing → Handed A B → Type 0
AnswersOver one other words r w h = LeavesLegs words r w h ⊎ (RefusesLegs one other words r w h ⊎ ServesMirror one other words r w h)
