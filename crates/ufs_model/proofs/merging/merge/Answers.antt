use Rattle.std.proofs.Common.{arith, rules, ◌≡◌, take, sym, subst, ◌∙◌, ap, List}
use Rattle.std.proofs.lemmas.List.Sorted.{IsNonDecreasingBy-from_sort_by_key}
use Rattle.std.proofs.lemmas.Grind.{common_steps}
use Rattle.std.specs.List.Sorted.{IsPermutation, IsNonDecreasingBy}
use Rattle.ufs_model.specs.History.{joined}
use Rattle.ufs_model.specs.declared.data.Entry.{Entry}
use Rattle.ufs_model.proofs.MergeLemmas.{tickets_rise}
use Rattle.ufs_model.proofs.merging.merge.Goals as goal

pub returns-clause-rising : goal.returns-clause-rising
returns-clause-rising c =
    let whole : take c.loop-list.list-index c.args.lists.now.items ≡ c.args.lists.now.items = grind (arith, common_steps) in
    let all : c.loop-list.all.items ≡ joined c.args.lists.now.items = c.loop-list.invariant ∙ ap joined whole in
    let moved : IsPermutation (joined c.args.lists.now.items) c.from_vec.result =
    subst (λ (l : List Entry). IsPermutation (joined c.args.lists.now.items) l) (sym c.from_vec.ensures)
    (subst (λ (l : List Entry). IsPermutation l c.sort_by_key.new.self.items) all c.in_ok-sort_by_key.ensures.permutation) in
    tickets_rise (joined c.args.lists.now.items) c.from_vec.result c.requires.once moved
    (subst (λ (l : List Entry). IsNonDecreasingBy (λ e. e.ticket) l) (sym c.from_vec.ensures)
    (IsNonDecreasingBy-from_sort_by_key (λ (e : Entry). e.ticket) c.sort_by_key.new.self.items c.in_ok-sort_by_key.ensures.sorted (λ a r q k. search rules)))
