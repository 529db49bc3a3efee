use Rattle.std.proofs.Common.{◌≡◌, ◌++◌}
use Rattle.ufs_model.specs.Order.{path_cmp}
use Rattle.ufs_calls.specs.Seen.{keyed}
use Rattle.ufs_walk.specs.Walked.{pairs_of}
use Rattle.ufs_walk.proofs.places.PlaceMap.into_places.Given as goal

-- what was taken, and what is left
abbrev pub invariant-loop-path : goal.invariant-loop-path
invariant-loop-path l = pairs_of l.places.items ++ keyed path_cmp (λ k. k.items) l.path-iterator ≡ keyed path_cmp (λ k. k.items) l.initial.path-iterator
