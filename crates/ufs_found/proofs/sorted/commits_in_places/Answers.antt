use Rattle.std.proofs.Common.{rules}
use Rattle.std.proofs.lemmas.List.Sorted.{IsNonDecreasingBy-from_sort_by_key}
use Rattle.ufs_found.specs.Sorted.{place_of}
use Rattle.ufs_found.proofs.sorted.commits_in_places.Goals as goal

pub returns-clause-in_order : goal.returns-clause-in_order
returns-clause-in_order c = IsNonDecreasingBy-from_sort_by_key (λ b. place_of b.now) _ c.in_ok-sort_by_key.ensures.sorted (λ a r q k. search rules)
