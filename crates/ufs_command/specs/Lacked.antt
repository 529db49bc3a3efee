-- For want of what a command ended.
use Rattle.std.specs.Prelude.{ℕ, ◌≡◌, ◌≢◌, ⊤, Bool, Option, Some, None, IsTrue, IfSome}
use Rattle.ufs_base.specs.declared.lack.Lack.{Lack}
use Rattle.ufs_base.specs.declared.lack.Lack.TheVariants.{AtEnd}
use Rattle.ufs_disk.specs.Moments.{Moments, reads}
use Rattle.ufs_image.specs.Volume.{superblock_of}
use Rattle.ufs_metadata.specs.Lacks.{IsOfMemory, IsOfNumbers}
use Rattle.ufs_metadata.specs.Reading.{IsReadOnly}
use Rattle.ufs_recovery.specs.Recovered.{IsLackOfRecovery}
use Rattle.ufs_command.specs.declared.words.Command.{Command}
use Rattle.ufs_command.specs.declared.words.Command.TheVariants as command

-- a command that only reads an image
pub record LacksReading (status : ℕ) (lacked : Option Lack) : Type 0 where
  -- Status 5: something was lacking. With any other status but 7 nothing was.
  pub wanting : status ≡ 5 → lacked ≢ None
  pub whole : status ≢ 5 → status ≢ 7 → lacked ≡ None
  -- It was memory: to read an image nothing is counted that could come to an end.
  pub memory : IfSome lacked IsOfMemory

-- `recover`
pub record LacksRecovery (visible keeps : Bool) (status : ℕ) (lacked : Option Lack) (from to : Moments) : Type 0 where
  -- Status 5: something was lacking. With any other status but 7 nothing was.
  pub wanting : status ≡ 5 → lacked ≢ None
  pub whole : status ≢ 5 → status ≢ 7 → lacked ≡ None
  -- It was memory or a number.
  pub numbers : IfSome lacked IsOfNumbers
  -- A number was lacking only where a visible disk's image has the last epoch, or where no commit number is left above those of all
  -- inodes, as the transactions leave them, and of all transactions,
  pub lack : IsTrue visible → IfSome lacked (IsLackOfRecovery (reads from))
  -- of no image that is marked clean,
  pub unasked : IsTrue visible → IsTrue (superblock_of (reads from)).clean → IfSome lacked IsOfMemory
  -- and before anything was written.
  pub early : IsTrue visible → lacked ≡ Some AtEnd → IsReadOnly keeps from to

-- What a command lacked. Nothing is said of one that writes a new image, serves clients or reads a source.
abbrev pub Lacks : Option Command → (visible keeps : Bool) → (status : ℕ) → Option Lack → (from to : Moments) → Type 0
Lacks (Some command.Recover) visible keeps status lacked from to = LacksRecovery visible keeps status lacked from to
Lacks (Some command.Tree) visible keeps status lacked from to = LacksReading status lacked
Lacks (Some command.Check) visible keeps status lacked from to = LacksReading status lacked
Lacks _ visible keeps status lacked from to = ⊤
