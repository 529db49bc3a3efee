use Rattle.std.proofs.Common.{◌++◌, ◌∷◌, [], sym, ◌∙◌}
use Rattle.ufs_dir_tree.proofs.WalkLemmas.{take_next}
use Rattle.ufs_dir_tree.proofs.dir_tree.names_in.Goals as goal

pub loop-rank-preserved : goal.loop-rank-preserved
loop-rank-preserved c all are =
    let before = c.loop-rank.invariant all are in
    let name = c.from_vec.ensures ∙ c.in_ok-name.ensures.items_if_clones_equal (λ x y e. e) in
    c.in_ok-push.ensures.items ∙ (λ i. before i ++ name i ∷ []) ∙ sym (take_next all c.loop-rank.rank c.name_at.result.now (c.name_at.ensures all are))
