-- Why a disk isn't formatted.
use Rattle.std.specs.Prelude.{◌≡◌, ℕ}
use Rattle.ufs_base.specs.Faults.{RoseTo}
use Rattle.ufs_recover.specs.declared.fault.FormatFault.{FormatFault}
use Rattle.ufs_recover.specs.declared.fault.FormatFault.TheVariants.{TooSmall, Device}

-- what a refusal says of the disk's count of faults
abbrev pub HasFaultCause : ℕ → ℕ → FormatFault → Type 0
HasFaultCause before now TooSmall = now ≡ before
HasFaultCause before now (Device fault) = RoseTo before now fault
