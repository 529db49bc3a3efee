-- What a medium was and is, by what it held at first and its calls.
use Rattle.std.specs.Prelude.{ℕ, length}
use Rattle.ufs_disk.specs.Bytes.{begun}
use Rattle.ufs_base.specs.Images.{Image}
use Rattle.ufs_disk.specs.Disk.{State}
use Rattle.ufs_disk.specs.Moments.{Moments, reads}
use Rattle.ufs_disk.specs.Calls.{after_calls}
use Rattle.ufs_disk.specs.declared.medium.Medium.{Medium}

abbrev pub medium_moments : Medium → Moments
medium_moments medium = after_calls medium.calls.items (begun medium.first.items)

abbrev pub medium_state : Medium → State
medium_state medium = (medium_moments medium).state

-- what a read gives
abbrev pub medium_reads : Medium → Image
medium_reads medium = reads (medium_moments medium)

-- the number of the next call
abbrev pub next_call : Medium → ℕ
next_call medium = length medium.calls.items
