-- What making and opening a mirror promise.
use Rattle.std.specs.Prelude.{ℕ, ◌≡◌, ◌≤◌, ◌+◌, ◌-◌, Bool, true, false, Option, Some, None, IsTrue, List}
use Rattle.ufs_disk.specs.Disk.{IsSettled}
use Rattle.ufs_disk.specs.Moments.{reads}
use Rattle.ufs_mirror.specs.Joined.{IsCalm, next_generation}
use Rattle.ufs_mirror.specs.Labels.{generation}
use Rattle.ufs_mirror.specs.Opens.{MayOpen, Opening, OpensOnly, opened, unlabelled}
use Rattle.ufs_mirror.specs.Pairs.{watched}
use Rattle.ufs_mirror.specs.Ready.{AreLive, HaveLabel, greater}
use Rattle.ufs_mirror.specs.Refused.{IsMakeFault, IsOpenFault}
use Rattle.ufs_mirror.specs.declared.fault.MirrorFault.{MirrorFault}
use Rattle.ufs_mirror.specs.declared.fault.MirrorFault.TheVariants.{NoLabel}
use Rattle.ufs_mirror.specs.declared.legs.Legpair.{Legpair}
use Rattle.ufs_mirror.specs.declared.legs.Picks.{Picks}
use Rattle.ufs_mirror.specs.declared.legs.Picks.TheVariants.{Either}
use Rattle.ufs_command.specs.declared.words.Command.{Command}
use Rattle.ufs_command.specs.declared.words.Command.TheVariants as command
use Rattle.ufs_process.specs.Views.{Kind, View, moments_in, pairs_in}

-- the command works on a disk
abbrev pub works_on_disk : Option Command → Bool
works_on_disk None = false
works_on_disk (Some command.NotBuilt) = false
works_on_disk _ = true

-- it is `mkfs`
abbrev pub is_mkfs : Option Command → Bool
is_mkfs (Some (command.Mkfs blocks inodes journal)) = true
is_mkfs _ = false

-- ---- a mirror

-- The legs open to what the mirror has, and nothing is pending on it.
pub record IsWritten {A B : Type 0} (one : Kind A) (other : Kind B) (m : View A B) : Type 0 where
  pub settled : IsSettled (moments_in one other m).state
  pub opens : opened m.sectors (reads (one.moments m.legs.first)) (reads (other.moments m.legs.second)) ≡ Some (reads (moments_in one other m))

-- Both legs were made one: it has what the first one had, but for its last sector. No call of either failed.
pub record IsMade {A B : Type 0} (one : Kind A) (other : Kind B) (first : A) (second : B) (m : View A B) : Type 0 where
  pub size : (m.sectors + 1 ≡ one.size first) × (m.sectors + 1 ≡ other.size second)
  pub least : 2 ≤ one.size first
  pub faults : m.faults ≡ 0
  pub both : m.picks ≡ Either
  pub passed : (one.faults m.legs.first ≡ one.faults first) × (other.faults m.legs.second ≡ other.faults second)
  pub content : IsTrue one.visible → IsTrue other.visible → reads (moments_in one other m) ≡ unlabelled (one.size first - 1) (reads (one.moments first))
  pub written : IsTrue one.visible → IsTrue other.visible → IsWritten one other m
  pub labels : IsTrue one.visible → IsTrue other.visible → HaveLabel m.sectors 1 (reads (one.moments m.legs.first)) (reads (other.moments m.legs.second))

-- Two legs were opened as one: it has what opening them as they read gives.
pub record IsOpened {A B : Type 0} (one : Kind A) (other : Kind B) (first : A) (second : B) (m : View A B) : Type 0 where
  pub size : (m.sectors + 1 ≡ one.size first) × (m.sectors + 1 ≡ other.size second)
  pub least : 2 ≤ one.size first
  pub faults : m.faults ≡ 0
  -- a leg is let go only where it failed
  pub live : AreLive m.picks (one.faults first) (one.faults m.legs.first) (other.faults second) (other.faults m.legs.second)
  pub content : IsTrue one.visible → IsTrue other.visible → opened (one.size first - 1) (reads (one.moments first)) (reads (other.moments second)) ≡ Some (reads (moments_in one other m))
  pub written : IsTrue one.visible → IsTrue other.visible → IsWritten one other m
  pub labels : IsTrue one.visible → IsTrue other.visible → m.picks ≡ Either
      → HaveLabel m.sectors (next_generation (greater (generation (reads (one.moments first) (one.size first - 1))) (generation (reads (other.moments second) (one.size first - 1)))))
      (reads (one.moments m.legs.first)) (reads (other.moments m.legs.second))
  -- at each moment of the opening, whatever pair of images the legs leave: where it opens, it opens to an image that it might
  -- have opened to before
  pub crash : IsTrue one.visible → IsTrue other.visible
      → Opening one.keeps other.keeps (IsCalm (one.size first - 1) (MayOpen (one.size first - 1) (one.moments first).state (other.moments second).state)) (one.moments first) (other.moments second) (pairs_in one other m)

-- `mkfs` makes a mirror, every other command opens one.
abbrev pub Joins : {A B : Type 0} → Kind A → Kind B → Option Command → A → B → View A B → Type 0
Joins one other (Some (command.Mkfs blocks inodes journal)) first second m = IsMade one other first second m
Joins one other _ first second m = IsOpened one other first second m

-- ---- none

-- why the legs are none
abbrev pub IsJoinFault : Option Command → ℕ → ℕ → ℕ → ℕ → ℕ → ℕ → MirrorFault → Type 0
IsJoinFault (Some (command.Mkfs blocks inodes journal)) one other one_faults one_now other_faults other_now fault = IsMakeFault one other one_faults one_now other_faults other_now fault
IsJoinFault _ one other one_faults one_now other_faults other_now fault = IsOpenFault one other one_faults one_now other_faults other_now fault

-- Two legs made no mirror, for this cause.
pub record Unjoined {A B : Type 0} (one : Kind A) (other : Kind B) (words : Option Command) (first : A) (second : B) (first_now : A) (second_now : B) (fault : MirrorFault) : Type 0 where
  pub cause : IsJoinFault words (one.size first) (other.size second) (one.faults first) (one.faults first_now) (other.faults second) (other.faults second_now) fault
  pub sizes : (one.size first_now ≡ one.size first) × (other.size second_now ≡ other.size second)
  -- legs without a label open to nothing
  pub no_label : IsTrue one.visible → IsTrue other.visible → fault ≡ NoLabel → opened (one.size first - 1) (reads (one.moments first)) (reads (other.moments second)) ≡ None
  -- at each moment of an opening that was refused, whatever pair of images the legs leave: where it opens, it opens to an
  -- image that it might have opened to before
  pub crash : is_mkfs words ≡ false → IsTrue one.visible → IsTrue other.visible → (noted : List (Legpair A B × Picks)) × (picks : Picks)
      × Opening one.keeps other.keeps (OpensOnly (one.size first - 1) (MayOpen (one.size first - 1) (one.moments first).state (other.moments second).state)) (one.moments first) (other.moments second)
      (watched (λ l. one.moments l.first) (λ l. other.moments l.second) noted (record { first = first_now; second = second_now }) picks)
