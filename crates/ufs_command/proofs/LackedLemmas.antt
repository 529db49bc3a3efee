-- What was lacking where a command ended for want of something.
use Rattle.std.proofs.Common.{◌≡◌, ◌⊎◌, ◌∙◌, inl, inr, ℕ, List, Option, Some, None, sym, subst, refl}
use Rattle.std.specs.Prelude.{Bool, IsTrue}
use Rattle.ufs_base.specs.declared.lack.Lack.TheVariants as lack
use Rattle.ufs_base.specs.declared.memory.Memory.{Memory}
use Rattle.ufs_disk.specs.Moments.{Moments, reads}
use Rattle.ufs_image.specs.Volume.{superblock_of}
use Rattle.ufs_metadata.specs.Faults.{LacksMemory}
use Rattle.ufs_metadata.specs.Reading.{IsReadOnly}
use Rattle.ufs_metadata.specs.declared.fault.RecoverFault.{RecoverFault}
use Rattle.ufs_metadata.specs.declared.fault.RecoverFault.TheVariants as recover
use Rattle.ufs_recovery.specs.Recovered.{IsAtEnd, LacksForRecovery, LacksNumbers}
use Rattle.ufs_command.specs.declared.ending.Ending.{Ending}
use Rattle.ufs_command.specs.declared.ending.Ending.TheVariants.{Done, Usage, BadGeometry, NotBuilt, BadScript, TooSmall, NoTree, DeviceFault, OutOfMemory, SourceFault, Damaged, Illegal}
use Rattle.ufs_command.specs.declared.words.Command.{Command}
use Rattle.ufs_command.specs.declared.words.Command.TheVariants as command
use Rattle.ufs_command.specs.Endings.{IsAnswer, ending_of, lack_of, sink_status, status_of}
use Rattle.ufs_command.specs.Lacked.{Lacks, LacksReading, LacksRecovery}
use Rattle.ufs_command.specs.Seen.{Writing}

-- ---- which endings have status 5

five_is : (ending : Ending) → status_of ending ≡ 5 → ending ≡ OutOfMemory
five_is Done five = cc
five_is Usage five = cc
five_is (BadGeometry bad) five = cc
five_is NotBuilt five = cc
five_is BadScript five = cc
five_is TooSmall five = cc
five_is NoTree five = cc
five_is DeviceFault five = cc
five_is OutOfMemory five = refl
five_is SourceFault five = cc
five_is Damaged five = cc
five_is Illegal five = cc

-- What never ends for want of memory hasn't.
other_five : (E : Ending → List ℕ → Type 0) → ((text : List ℕ) → E OutOfMemory text → ⊥) → (status : ℕ) (ending : Ending) (text : List ℕ) → status ≡ status_of ending → E ending text → status ≡ 5 → ⊥
other_five E never status ending text is e five = never text (subst (λ (x : Ending). E x text) (five_is ending (sym is ∙ five)) e)

pub never_five : (E : Ending → List ℕ → Type 0) (w : Writing) (status : ℕ) → ((text : List ℕ) → E OutOfMemory text → ⊥) → IsAnswer E w status → status ≡ 5 → ⊥
never_five E w status never a five = let x = a.whole (λ seven. cc) in other_five E never status x.0 x.1 x.2 x.3 five

starved_or : (status : ℕ) → (status ≡ status_of OutOfMemory) ⊎ (status ≡ sink_status) → (status ≡ 5 → ⊥) → (status ≡ 7 → ⊥) → ⊥
starved_or status (inl five) other sink = other five
starved_or status (inr seven) other sink = sink seven

-- what has this status, or that of the sink's fault, hasn't status 5
other_status : (n status : ℕ) → (status ≡ n) ⊎ (status ≡ sink_status) → (n ≡ 5 → ⊥) → status ≡ 5 → ⊥
other_status n status (inl is) other five = other (sym is ∙ five)
other_status n status (inr seven) other five = cc

-- ---- of a command that only reads an image

pub reading_whole : (status : ℕ) → (status ≡ 5 → ⊥) → LacksReading status None
reading_whole status other = record { wanting = λ five. absurd (other five); whole = λ five seven. refl; memory = tt }

pub reading_starved : (status : ℕ) (m : Memory) → (status ≡ status_of OutOfMemory) ⊎ (status ≡ sink_status) → LacksReading status (Some (lack.Memory m))
reading_starved status m is = record { wanting = λ five none. cc; whole = λ five seven. absurd (starved_or status is five seven); memory = tt }

pub reading_refused : (f : RecoverFault) (status : ℕ) → LacksMemory f → (status ≡ status_of (ending_of f)) ⊎ (status ≡ sink_status) → LacksReading status (lack_of f)
reading_refused (recover.Lack (lack.Memory m)) status memory is = reading_starved status m is
reading_refused (recover.Lack lack.AtEnd) status memory is = absurd memory
reading_refused (recover.Lack lack.Unsound) status memory is = absurd memory
reading_refused (recover.Lack lack.Told) status memory is = absurd memory
reading_refused recover.NoSuperblock status memory is = reading_whole status (other_status 3 status is (λ e. cc))
reading_refused (recover.BadVersion found) status memory is = reading_whole status (other_status 3 status is (λ e. cc))
reading_refused (recover.BadGeometry number) status memory is = reading_whole status (other_status 3 status is (λ e. cc))
reading_refused (recover.BadRecord sector) status memory is = reading_whole status (other_status 3 status is (λ e. cc))
reading_refused (recover.BadTree inode) status memory is = reading_whole status (other_status 3 status is (λ e. cc))
reading_refused (recover.Device fault) status memory is = reading_whole status (other_status 4 status is (λ e. cc))

-- ---- of `recover`

module _ (visible keeps : Bool) (from to : Moments) where
  pub recovery_whole : (status : ℕ) → (status ≡ 5 → ⊥) → LacksRecovery visible keeps status None from to
  recovery_whole status other = record {
    wanting = λ five. absurd (other five);
    whole = λ five seven. refl;
    numbers = tt;
    lack = λ known. tt;
    unasked = λ known clean. tt;
    early = λ known at. cc;
  }

  pub recovery_starved : (status : ℕ) (m : Memory) → (status ≡ status_of OutOfMemory) ⊎ (status ≡ sink_status) → LacksRecovery visible keeps status (Some (lack.Memory m)) from to
  recovery_starved status m is = record {
    wanting = λ five none. cc;
    whole = λ five seven. absurd (starved_or status is five seven);
    numbers = tt;
    lack = λ known. tt;
    unasked = λ known clean. tt;
    early = λ known at. cc;
  }

  pub recovery_lacks : (f : RecoverFault) (status : ℕ) → LacksNumbers f → (IsTrue visible → LacksForRecovery (reads from) f) → (IsTrue visible → IsTrue (superblock_of (reads from)).clean → LacksMemory f) → (IsTrue visible → IsAtEnd f → IsReadOnly keeps from to)
      → (status ≡ status_of (ending_of f)) ⊎ (status ≡ sink_status) → LacksRecovery visible keeps status (lack_of f) from to
  recovery_lacks (recover.Lack (lack.Memory m)) status numbers why unasked early is = recovery_starved status m is
  recovery_lacks (recover.Lack lack.AtEnd) status numbers why unasked early is = record {
    wanting = λ five none. cc;
    whole = λ five seven. absurd (starved_or status is five seven);
    numbers = tt;
    lack = why;
    unasked = unasked;
    early = λ known at. early known tt;
  }
  recovery_lacks (recover.Lack lack.Unsound) status numbers why unasked early is = absurd numbers
  recovery_lacks (recover.Lack lack.Told) status numbers why unasked early is = absurd numbers
  recovery_lacks recover.NoSuperblock status numbers why unasked early is = recovery_whole status (other_status 3 status is (λ e. cc))
  recovery_lacks (recover.BadVersion found) status numbers why unasked early is = recovery_whole status (other_status 3 status is (λ e. cc))
  recovery_lacks (recover.BadGeometry number) status numbers why unasked early is = recovery_whole status (other_status 3 status is (λ e. cc))
  recovery_lacks (recover.BadRecord sector) status numbers why unasked early is = recovery_whole status (other_status 3 status is (λ e. cc))
  recovery_lacks (recover.BadTree inode) status numbers why unasked early is = recovery_whole status (other_status 3 status is (λ e. cc))
  recovery_lacks (recover.Device fault) status numbers why unasked early is = recovery_whole status (other_status 4 status is (λ e. cc))

  -- There was no memory for the words, whatever they are.
  pub lacking_lacked : (words : Option Command) (status : ℕ) (m : Memory) → (status ≡ status_of OutOfMemory) ⊎ (status ≡ sink_status) → Lacks words visible keeps status (Some (lack.Memory m)) from to
  lacking_lacked None status m is = tt
  lacking_lacked (Some command.NotBuilt) status m is = tt
  lacking_lacked (Some (command.Play trace)) status m is = tt
  lacking_lacked (Some command.Tree) status m is = reading_starved status m is
  lacking_lacked (Some command.Check) status m is = reading_starved status m is
  lacking_lacked (Some command.Audit) status m is = tt
  lacking_lacked (Some command.Recover) status m is = recovery_starved status m is
  lacking_lacked (Some (command.Bench seed)) status m is = tt
  lacking_lacked (Some (command.Mkfs blocks inodes journal)) status m is = tt
