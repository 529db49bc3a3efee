-- What folding takes of steps.
use Rattle.std.specs.Prelude.{List, map, min}
use Rattle.ufs_scan.specs.Edits.{StepValue}
use Rattle.ufs_scan.specs.declared.chains.Chain.{Chain}
use Rattle.ufs_scan.specs.declared.net.Net.{Net}

abbrev pub net_of : StepValue → Net
net_of s = record { index = s.edit.index; kept = s.kept; gained = min s.gained 255 }

abbrev pub nets_of : Chain → List Net
nets_of c = map net_of c.steps.items
