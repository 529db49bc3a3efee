use Rattle.std.proofs.Common.{◌<◌, rules, ap, sym, ◌∙◌}
use Rattle.std.specs.Prelude.{map}
use Rattle.std.proofs.lemmas.List.Sorted.{IsNonDecreasingBy-from_sort_by_key, IsPermutation-map, All-permutation, answers_always}
use Rattle.ufs_image.specs.Journal.{FoundSector}
use Rattle.ufs_scan.proofs.Edits.{of_all}
use Rattle.ufs_layout.specs.Words.{rising_by}
use Rattle.ufs_found.specs.Sorted.{number_of}
use Rattle.ufs_scan.proofs.Stable.{stable_is, rising_map}
use Rattle.ufs_scan.proofs.order.commits_in_order.Goals as goal

pub returns-clause-commits : goal.returns-clause-commits
returns-clause-commits c =
    ap (map (λ b. b.now)) (stable_is (λ b. number_of b.now) c.in_ok-list.list.items c.sort_by_key.new.self.items
    (IsNonDecreasingBy-from_sort_by_key (λ b. number_of b.now) _ c.in_ok-sort_by_key.ensures.sorted (λ a r q k. search rules))
    (c.sort_by_key.ensures.stable (λ b. number_of b.now) (answers_always _ _ _ (λ f a r q k. search rules))))
    ∙ sym (rising_map (λ b. b.now) number_of c.in_ok-list.list.items) ∙ ap (rising_by number_of) c.in_ok-list.ensures.kept

pub returns-clause-small : goal.returns-clause-small
returns-clause-small c =
    All-permutation (λ (f : FoundSector). f.1.index < 65536) (map (λ b. b.now) c.in_ok-list.list.items) (map (λ b. b.now) c.sort_by_key.new.self.items) (IsPermutation-map (λ b. b.now) _ _ c.sort_by_key.ensures.permutation)
    (of_all (λ b. b.now) (λ (f : FoundSector). f.1.index < 65536) c.in_ok-list.list.items c.in_ok-list.ensures.small)
