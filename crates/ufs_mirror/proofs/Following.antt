-- How a pair follows from an earlier one, whatever its moments are.
use Rattle.std.proofs.Common.{Bool}
use Rattle.std.specs.Prelude.{⊤}
use Rattle.ufs_mirror.specs.Pairs.{Follows, Pair, Pairs, Runs}
use Rattle.ufs_mirror.proofs.Runs.{joined, started, weaker}

pub follows_none : (keeps : Bool) (now : Pairs) → Follows keeps now now
follows_none keeps now = started keeps (λ pair. ⊤) now tt

pub follows_by : (keeps : Bool) (R : Pair → Type 0) (old new : Pairs) → Runs keeps R old new → Follows keeps old new
follows_by keeps R old new run = weaker keeps R (λ pair. ⊤) (λ pair is. tt) old new run

pub follows_on : (keeps : Bool) (first mid new : Pairs) → Follows keeps first mid → Follows keeps mid new → Follows keeps first new
follows_on keeps first mid new front back = joined keeps (λ pair. ⊤) first mid new front back
