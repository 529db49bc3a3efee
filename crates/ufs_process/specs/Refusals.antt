-- What is told where two legs make no mirror.
use Rattle.std.specs.Prelude.{ℕ, List, codes}
use Rattle.ufs_mirror.specs.declared.fault.MirrorFault.{MirrorFault}
use Rattle.ufs_mirror.specs.declared.fault.MirrorFault.TheVariants.{NoLabel, Unequal, TooSmall, Device}
use Rattle.ufs_print.specs.Lines.{line}
use Rattle.ufs_command.specs.Texts.{device_line}
use Rattle.ufs_command.specs.declared.ending.Ending.{Ending}
use Rattle.ufs_command.specs.declared.ending.Ending.TheVariants.{DeviceFault, NoTree}

-- Its status is 4 for a fault of a leg, and else 3, as where an image stands for no tree.
abbrev pub mirror_ending : MirrorFault → Ending
mirror_ending (Device fault) = DeviceFault
mirror_ending _ = NoTree

abbrev pub mirror_line : MirrorFault → List ℕ
mirror_line NoLabel = line (codes "ufs: mirror: NoLabel")
mirror_line (Unequal first second) = line (codes "ufs: mirror: Unequal")
mirror_line TooSmall = line (codes "ufs: mirror: TooSmall")
mirror_line (Device fault) = device_line fault
