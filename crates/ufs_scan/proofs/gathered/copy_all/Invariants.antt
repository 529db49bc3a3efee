use Rattle.std.proofs.Common.{◌≡◌, take}
use Rattle.std.specs.Prelude.{map}
use Rattle.ufs_image.specs.Journal.{committed_of}
use Rattle.ufs_scan.proofs.gathered.copy_all.Given as goal

abbrev pub invariant-loop-one : goal.invariant-loop-one
invariant-loop-one l = l.list.items ≡ map committed_of (take l.one-index l.all)
