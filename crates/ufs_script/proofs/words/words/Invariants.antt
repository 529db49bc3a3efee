use Rattle.std.proofs.Common.{◌≡◌, ◌++◌, map, length}
use Rattle.ufs_script.specs.Words.{words_of}
use Rattle.ufs_script.proofs.words.words.Given as goal

abbrev pub invariant-loop-cut : goal.invariant-loop-cut
invariant-loop-cut l = map (λ w. w.now) l.words.items ++ words_of l.rest ≡ words_of l.line

abbrev pub decreases-loop-cut : goal.decreases-loop-cut
decreases-loop-cut l = length l.rest
