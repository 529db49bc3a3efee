-- What a plan lacks, and what a recovery lacks by it.
use Rattle.std.proofs.Common.{◌≡◌, ℕ, ◌≤◌, ◌<◌, inl, inr, List, Option, ap, sym, ◌∙◌, subst}
use Rattle.ufs_base.specs.Images.{Image}
use Rattle.ufs_base.specs.declared.lack.Lack.{Lack}
use Rattle.ufs_base.specs.declared.lack.Lack.TheVariants.{Memory, AtEnd, Unsound, Told}
use Rattle.ufs_layout.specs.InodeForm.{InodeForm}
use Rattle.ufs_layout.specs.Superblock.{geometry_of}
use Rattle.ufs_layout.specs.declared.geometry.Geometry.{Geometry}
use Rattle.ufs_layout.specs.declared.superblock.Super.{Super}
use Rattle.ufs_metadata.specs.Faults.{IsOutside, LacksMemory}
use Rattle.ufs_metadata.specs.Lacks.{IsOfMemory, IsOfNumbers}
use Rattle.ufs_metadata.specs.declared.fault.RecoverFault.{RecoverFault}
use Rattle.ufs_metadata.specs.declared.fault.RecoverFault.TheVariants.{NoSuperblock, BadVersion, BadGeometry, BadRecord, BadTree, Device, Lack as lacks}
use Rattle.ufs_image.specs.Volume.{superblock_of, volume_of}
use Rattle.ufs_volume.specs.Volumes.{folded_image}
use Rattle.ufs_volume.specs.declared.volume.FoldedVolume.{FoldedVolume}
use Rattle.ufs_damage.specs.Findings.{CatalogRead}
use Rattle.ufs_recovery.specs.Orphans.{AreNumbersBelow, IsLackOfPlan, LacksForPlan}
use Rattle.ufs_recovery.specs.Recovered.{AreCommitsBelow, AreInodesBelow, IsAtEnd, IsLackOfRecovery, LacksForRecovery, LacksNumbers, log_of}
use Rattle.ufs_recovery.proofs.Ends.{below_highest, folded_same, superblock_same}
use Rattle.ufs_recovery.proofs.Planned.{numbers_below}
use Rattle.ufs_recovery.proofs.Reread.{IsReadWhole}

pub of_numbers : (superblock : Super) (forms : List (Option InodeForm)) (used : ℕ) (w : Lack) → IsLackOfPlan superblock forms used w → IsOfNumbers w
of_numbers superblock forms used (Memory refused) is = tt
of_numbers superblock forms used AtEnd is = tt
of_numbers superblock forms used Unsound is = absurd is
of_numbers superblock forms used Told is = absurd is

-- ---- what lacks memory alone

memory_of_plan : (superblock : Super) (forms : List (Option InodeForm)) (used : ℕ) (w : Lack) → IsOfMemory w → IsLackOfPlan superblock forms used w
memory_of_plan superblock forms used (Memory refused) is = tt
memory_of_plan superblock forms used AtEnd is = absurd is
memory_of_plan superblock forms used Unsound is = absurd is
memory_of_plan superblock forms used Told is = absurd is

pub memory_for_plan : (superblock : Super) (forms : List (Option InodeForm)) (used : ℕ) (f : RecoverFault) → LacksMemory f → LacksForPlan superblock forms used f
memory_for_plan superblock forms used NoSuperblock is = tt
memory_for_plan superblock forms used (BadVersion found) is = tt
memory_for_plan superblock forms used (BadGeometry number) is = tt
memory_for_plan superblock forms used (BadRecord sector) is = tt
memory_for_plan superblock forms used (BadTree inode) is = tt
memory_for_plan superblock forms used (Device fault) is = tt
memory_for_plan superblock forms used (lacks why) is = memory_of_plan superblock forms used why is

memory_of_recovery : (image : Image) (w : Lack) → IsOfMemory w → IsLackOfRecovery image w
memory_of_recovery image (Memory refused) is = tt
memory_of_recovery image AtEnd is = absurd is
memory_of_recovery image Unsound is = absurd is
memory_of_recovery image Told is = absurd is

pub memory_for_recovery : (image : Image) (f : RecoverFault) → LacksMemory f → LacksForRecovery image f
memory_for_recovery image NoSuperblock is = tt
memory_for_recovery image (BadVersion found) is = tt
memory_for_recovery image (BadGeometry number) is = tt
memory_for_recovery image (BadRecord sector) is = tt
memory_for_recovery image (BadTree inode) is = tt
memory_for_recovery image (Device fault) is = tt
memory_for_recovery image (lacks why) is = memory_of_recovery image why is

-- ---- what the plan of an image in use lacks, a recovery of it lacks

module _ (sectors : ℕ) (image : Image) (v : FoldedVolume) (findings : CatalogRead) (is : IsReadWhole sectors image v findings) where
  same_geometry : v.superblock.geometry ≡ geometry_of (superblock_of image)
  same_geometry = v.superblock.same ∙ ap geometry_of (superblock_same sectors image v is.taken)

  ends : (n : ℕ) → 1 ≤ n → AreInodesBelow (geometry_of (superblock_of image)) (volume_of (superblock_of image) image).image n → AreCommitsBelow (log_of image) n → (v.highest < n) × AreNumbersBelow findings.forms n
  ends n some inodes commits = (
    below_highest sectors image v is.taken is.highest n some commits,
    numbers_below v.superblock.geometry (folded_image v image) findings.forms is.found.forms n
        (subst (λ (x : Geometry × Image). AreInodesBelow x.0 x.1 n) (λ i. (sym same_geometry i, sym (folded_same sectors image v is.taken) i)) inodes),
  )

  of_plan : (w : Lack) → IsLackOfPlan v.superblock.superblock findings.forms v.highest w → IsLackOfRecovery image w
  of_plan (Memory refused) lacked = tt
  of_plan AtEnd (inl epoch) = inl (ap (λ (h : Super). h.epoch) (sym (superblock_same sectors image v is.taken)) ∙ epoch)
  of_plan AtEnd (inr all) = inr (λ n some inodes commits. let at = ends n some inodes commits in all n at.0 at.1)
  of_plan Unsound lacked = absurd lacked
  of_plan Told lacked = absurd lacked

  pub lacks_recovery : (f : RecoverFault) → LacksForPlan v.superblock.superblock findings.forms v.highest f → LacksForRecovery image f
  lacks_recovery NoSuperblock lacked = tt
  lacks_recovery (BadVersion found) lacked = tt
  lacks_recovery (BadGeometry number) lacked = tt
  lacks_recovery (BadRecord sector) lacked = tt
  lacks_recovery (BadTree inode) lacked = tt
  lacks_recovery (Device fault) lacked = tt
  lacks_recovery (lacks why) lacked = of_plan why lacked

-- ---- want of memory is no end of numbers

pub not_at_end : {X : Type 0} (f : RecoverFault) → LacksMemory f → IsAtEnd f → X
not_at_end NoSuperblock is at = absurd at
not_at_end (BadVersion found) is at = absurd at
not_at_end (BadGeometry number) is at = absurd at
not_at_end (BadRecord sector) is at = absurd at
not_at_end (BadTree inode) is at = absurd at
not_at_end (Device fault) is at = absurd at
not_at_end (lacks (Memory refused)) is at = absurd at
not_at_end (lacks AtEnd) is at = absurd is
not_at_end (lacks Unsound) is at = absurd is
not_at_end (lacks Told) is at = absurd is

numbers_of_memory : (w : Lack) → IsOfMemory w → IsOfNumbers w
numbers_of_memory (Memory refused) is = tt
numbers_of_memory AtEnd is = absurd is
numbers_of_memory Unsound is = absurd is
numbers_of_memory Told is = absurd is

pub numbers_by_memory : (f : RecoverFault) → LacksMemory f → LacksNumbers f
numbers_by_memory NoSuperblock is = tt
numbers_by_memory (BadVersion found) is = tt
numbers_by_memory (BadGeometry number) is = tt
numbers_by_memory (BadRecord sector) is = tt
numbers_by_memory (BadTree inode) is = tt
numbers_by_memory (Device fault) is = tt
numbers_by_memory (lacks why) is = numbers_of_memory why is

pub numbers_by_outside : (f : RecoverFault) → IsOutside f → LacksNumbers f
numbers_by_outside NoSuperblock is = tt
numbers_by_outside (BadVersion found) is = tt
numbers_by_outside (BadGeometry number) is = tt
numbers_by_outside (BadRecord sector) is = tt
numbers_by_outside (BadTree inode) is = tt
numbers_by_outside (Device fault) is = tt
numbers_by_outside (lacks why) is = is
