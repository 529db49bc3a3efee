use Rattle.std.proofs.Common.{ℕ, List, sym, subst}
use Rattle.std.specs.FinMap as map
use Rattle.std.specs.Ordering.{nat_cmp}
use Rattle.ufs_calls.specs.Seen.{keyed}
use Rattle.ufs_file.specs.Hand.{FileState}
use Rattle.ufs_files.specs.Files.{AreNumbered}
use Rattle.ufs_files.proofs.MapLemmas.{numbered_none}
use Rattle.ufs_files.proofs.file_hands.FileHands.new.Goals as goal

pub invariant_of-result : goal.invariant_of-result
invariant_of-result c =
    subst (λ (es : List (ℕ × FileState)). AreNumbered (map.from_entries (keyed nat_cmp (λ k. k) es))) (sym c.new.ensures.empty) numbered_none
