use Rattle.std.proofs.Common.{rules, map, List, subst}
use Rattle.std.specs.List.Sorted.{IsPermutation}
use Rattle.std.proofs.lemmas.List.Sorted.{IsNonDecreasingBy-from_sort_by_key, IsPermutation-map}
use Rattle.ufs_image.specs.Journal.{FoundSector}
use Rattle.ufs_found.specs.Sorted.{place_of}
use Rattle.ufs_found.proofs.sorted.in_places.Goals as goal

pub returns-clause-in_order : goal.returns-clause-in_order
returns-clause-in_order c = IsNonDecreasingBy-from_sort_by_key (λ b. place_of b.now) _ c.in_ok-sort_by_key.ensures.sorted (λ a r q k. search rules)

pub returns-clause-same : goal.returns-clause-same
returns-clause-same c =
    subst (λ (l : List FoundSector). IsPermutation l (map (λ b. b.now) c.sort_by_key.new.self.items)) c.in_ok-list.ensures (IsPermutation-map (λ b. b.now) _ _ c.sort_by_key.ensures.permutation)
