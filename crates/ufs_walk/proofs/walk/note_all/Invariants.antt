use Rattle.std.proofs.Common.{◌≡◌, List, length}
use Rattle.std.specs.FinMap as map
use Rattle.ufs_walk.specs.Waits.{left}
use Rattle.ufs_walk.specs.Walked.{Place}
use Rattle.ufs_walk.proofs.Waits.{IsPartlyNoted}
use Rattle.ufs_walk.proofs.walk.note_all.Given as goal

abbrev pub decreases-loop-next : goal.decreases-loop-next
decreases-loop-next l = length (left l.dirs l.index l.waiting.items)

abbrev pub invariant-loop-next : goal.invariant-loop-next
invariant-loop-next l = (es : List Place) → l.fn.found ≡ map.from_entries es → IsPartlyNoted (left l.dirs l.index l.fn.waiting.items) es l.found (left l.dirs l.index l.waiting.items)
