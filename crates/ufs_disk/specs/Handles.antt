-- What became of a disk's file.
use Rattle.ufs_disk.specs.File.{FileState}
use Rattle.ufs_disk.specs.File as file
use Rattle.ufs_disk.specs.declared.file.Handle.{Handle}
use Rattle.ufs_disk.specs.declared.file.Handle.TheVariants.{Unopened, Missing, Open, Refused}

abbrev pub state_of : Handle → FileState
state_of Unopened = file.Unopened
state_of Missing = file.Missing
state_of (Open opened) = file.Open
state_of Refused = file.Refused
