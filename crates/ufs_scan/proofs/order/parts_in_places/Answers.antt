use Rattle.std.proofs.Common.{rules, map, List, subst, ◌<◌}
use Rattle.std.specs.List.Sorted.{IsPermutation}
use Rattle.std.proofs.lemmas.List.Sorted.{IsNonDecreasingBy-from_sort_by_key, IsPermutation-map, All-permutation, answers_always}
use Rattle.ufs_image.specs.Journal.{FoundSector}
use Rattle.ufs_found.specs.Sorted.{place_of}
use Rattle.ufs_scan.proofs.PartsInOrder.{parts_in}
use Rattle.ufs_scan.proofs.Edits.{of_all}
use Rattle.ufs_scan.proofs.order.parts_in_places.Goals as goal

pub returns-clause-in_order : goal.returns-clause-in_order
returns-clause-in_order c = IsNonDecreasingBy-from_sort_by_key (λ b. place_of b.now) _ c.in_ok-sort_by_key.ensures.sorted (λ a r q k. search rules)

pub returns-clause-parts : goal.returns-clause-parts
returns-clause-parts c =
    parts_in (λ b. b.now) c.args.all.now c.in_ok-list.list.items c.sort_by_key.new.self.items c.in_ok-list.ensures.kept c.in_ok-list.ensures.small
    (IsNonDecreasingBy-from_sort_by_key (λ b. place_of b.now) _ c.in_ok-sort_by_key.ensures.sorted (λ a r q k. search rules))
    (c.sort_by_key.ensures.stable (λ b. place_of b.now) (answers_always _ _ _ (λ f a r q k. search rules)))

pub returns-clause-same : goal.returns-clause-same
returns-clause-same c =
    subst (λ (l : List FoundSector). IsPermutation l (map (λ b. b.now) c.sort_by_key.new.self.items)) c.in_ok-list.ensures.kept (IsPermutation-map (λ b. b.now) _ _ c.sort_by_key.ensures.permutation)

pub returns-clause-small : goal.returns-clause-small
returns-clause-small c =
    All-permutation (λ (f : FoundSector). f.1.index < 65536) (map (λ b. b.now) c.in_ok-list.list.items) (map (λ b. b.now) c.sort_by_key.new.self.items) (IsPermutation-map (λ b. b.now) _ _ c.sort_by_key.ensures.permutation)
    (of_all (λ b. b.now) (λ (f : FoundSector). f.1.index < 65536) c.in_ok-list.list.items c.in_ok-list.ensures.small)
