-- What is committed in a journal, or why it isn't read.
use Rattle.std.specs.Prelude.{◌≡◌, ℕ, List, Option, Some, IsTrue}
use Rattle.std.specs.List.{list_all, AllByRecursion}
use Rattle.ufs_base.specs.declared.lack.Lack.TheVariants as lack
use Rattle.ufs_layout.specs.Records.{is_record}
use Rattle.ufs_layout.specs.declared.geometry.Geometry.{Geometry}
use Rattle.ufs_layout.specs.declared.records.Committed.{Committed}
use Rattle.ufs_image.specs.Fold.{is_in_range}
use Rattle.ufs_scan.specs.declared.fault.ScanFault.{ScanFault}
use Rattle.ufs_scan.specs.declared.fault.ScanFault.TheVariants as scan
use Rattle.ufs_metadata.specs.Lacks.{IsOfNumbers}
use Rattle.ufs_metadata.specs.declared.fault.RecoverFault.{RecoverFault}
use Rattle.ufs_metadata.specs.declared.fault.RecoverFault.TheVariants.{NoSuperblock, BadVersion, BadGeometry, BadRecord, BadTree, Device, Lack}

-- Each record of the transaction is on its form and in range.
pub record IsFoldable (g : Geometry) (c : Committed) : Type 0 where
  pub form : IsTrue (list_all is_record c.records)
  pub in_range : IsTrue (list_all (is_in_range g) c.records)

abbrev pub AreFoldable : Geometry → List Committed → Type 0
AreFoldable g = AllByRecursion (IsFoldable g)

-- the same fault in the words of the whole image
abbrev pub of_scan : ScanFault → RecoverFault
of_scan (scan.BadRecord sector) = BadRecord sector
of_scan (scan.Device fault) = Device fault
of_scan (scan.Memory memory) = Lack (lack.Memory memory)

-- A sector is named where it is the lowest that is off.
abbrev pub IsJournalRefusal : Option ℕ → RecoverFault → Type 0
IsJournalRefusal lowest NoSuperblock = ⊥
IsJournalRefusal lowest (BadVersion found) = ⊥
IsJournalRefusal lowest (BadGeometry number) = ⊥
IsJournalRefusal lowest (BadRecord sector) = lowest ≡ Some sector
IsJournalRefusal lowest (BadTree inode) = ⊥
IsJournalRefusal lowest (Device fault) = Unit {0}
IsJournalRefusal lowest (Lack why) = IsOfNumbers why
