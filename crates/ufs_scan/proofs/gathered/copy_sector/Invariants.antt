use Rattle.std.proofs.Common.{◌≡◌, ◌++◌, take}
use Rattle.ufs_image.specs.Journal.{records_in}
use Rattle.ufs_scan.proofs.gathered.copy_sector.Given as goal

abbrev pub invariant-loop-change : goal.invariant-loop-change
invariant-loop-change l = l.list.items ≡ l.fn.list.items ++ take l.change-index (records_in l.one.1.content)
