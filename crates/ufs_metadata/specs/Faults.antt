-- Why an image isn't read.
use Rattle.std.specs.Prelude.{◌≡◌, ℕ, Option, Some, Result, Err}
use Rattle.ufs_base.specs.Faults.{RoseTo}
use Rattle.ufs_image.specs.Volume.{Refusal}
use Rattle.ufs_image.specs.Volume as image
use Rattle.ufs_metadata.specs.Lacks.{IsOfMemory, IsOfNumbers}
use Rattle.ufs_metadata.specs.declared.fault.RecoverFault.{RecoverFault}
use Rattle.ufs_metadata.specs.declared.fault.RecoverFault.TheVariants.{NoSuperblock, BadVersion, BadGeometry, BadRecord, BadTree, Device, Lack}

-- what a fault says of the disk's count of faults
abbrev pub HasFaultCause : ℕ → ℕ → RecoverFault → Type 0
HasFaultCause before now NoSuperblock = now ≡ before
HasFaultCause before now (BadVersion found) = now ≡ before
HasFaultCause before now (BadGeometry number) = now ≡ before
HasFaultCause before now (BadRecord sector) = now ≡ before
HasFaultCause before now (BadTree inode) = now ≡ before
HasFaultCause before now (Device fault) = RoseTo before now fault
HasFaultCause before now (Lack _) = now ≡ before

-- It is no cause that the image has: a call of the disk failed, or memory or a number is wanting.
abbrev pub IsOutside : RecoverFault → Type 0
IsOutside (Device fault) = Unit {0}
IsOutside (Lack why) = IsOfNumbers why
IsOutside _ = ⊥

-- The refusal is the one that is found; a fault that comes from outside says nothing of the image.
abbrev pub IsRefusal : Option Refusal → RecoverFault → Type 0
IsRefusal found NoSuperblock = found ≡ Some image.NoSuperblock
IsRefusal found (BadVersion version) = found ≡ Some (image.BadVersion version)
IsRefusal found (BadGeometry number) = found ≡ Some (image.BadGeometry number)
IsRefusal found (BadRecord sector) = found ≡ Some (image.BadRecord sector)
IsRefusal found (BadTree inode) = found ≡ Some (image.BadTree inode)
IsRefusal found (Device fault) = Unit {0}
IsRefusal found (Lack why) = IsOfNumbers why

-- The same of what an image gives, or of why it gives nothing.
abbrev pub IsWhyNot : {X : Type 0} → Result X Refusal → RecoverFault → Type 0
IsWhyNot given NoSuperblock = given ≡ Err image.NoSuperblock
IsWhyNot given (BadVersion version) = given ≡ Err (image.BadVersion version)
IsWhyNot given (BadGeometry number) = given ≡ Err (image.BadGeometry number)
IsWhyNot given (BadRecord sector) = given ≡ Err (image.BadRecord sector)
IsWhyNot given (BadTree inode) = given ≡ Err (image.BadTree inode)
IsWhyNot given (Device fault) = Unit {0}
IsWhyNot given (Lack why) = IsOfNumbers why

-- It blames no inode.
abbrev pub BlamesNone : RecoverFault → Type 0
BlamesNone (BadTree inode) = ⊥
BlamesNone _ = Unit {0}

-- What it lacks, if it is for want of anything, is memory: nothing is counted that could come to an end.
abbrev pub LacksMemory : RecoverFault → Type 0
LacksMemory (Lack why) = IsOfMemory why
LacksMemory _ = Unit {0}
