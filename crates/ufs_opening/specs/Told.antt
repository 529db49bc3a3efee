-- Why an image stands for no tree.
use Rattle.std.specs.Prelude.{ℕ, ◌≡◌, Option, Some}
use Rattle.ufs_base.specs.Images.{Image}
use Rattle.ufs_image.specs.Opens.{opens}
use Rattle.ufs_metadata.specs.Faults.{IsWhyNot}
use Rattle.ufs_metadata.specs.Lacks.{IsOfNumbers}
use Rattle.ufs_metadata.specs.declared.fault.RecoverFault.{RecoverFault}
use Rattle.ufs_metadata.specs.declared.fault.RecoverFault.TheVariants.{BadTree, Lack}

-- The cause is the one for which the image stands for no tree. Faults from outside say nothing of it.
abbrev pub TellsWhy : ℕ → Image → RecoverFault → Type 0
TellsWhy sectors disk = IsWhyNot (opens sectors disk)

-- ---- the steps

abbrev pub IsBlame : Option ℕ → RecoverFault → Type 0
IsBlame lowest (BadTree inode) = lowest ≡ Some inode
IsBlame lowest (Lack why) = IsOfNumbers why
IsBlame lowest _ = ⊥
