use Rattle.std.proofs.Common.{ap, ◌∙◌}
use Rattle.std.specs.FinMap as map
use Rattle.std.specs.Ordering.{nat_cmp}
use Rattle.ufs_file.specs.Hand.{FileState}
use Rattle.ufs_files.specs.Files.{Files}
use Rattle.ufs_noted.proofs.known.make_place.Goals as goal

pub make-requires : goal.make-requires
make-requires c = record { absent = ap (λ (fs : Files). map.get fs c.file.result) c.new-files.ensures ∙ map.get-empty {X = FileState} nat_cmp c.file.result }
