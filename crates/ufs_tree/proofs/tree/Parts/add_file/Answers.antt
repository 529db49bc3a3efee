use Rattle.std.proofs.Common.{refl, ◌∙◌}
use Rattle.ufs_tree.proofs.PartLemmas.{same_tree, path_undone}
use Rattle.ufs_tree.proofs.tree.Parts.add_file.Goals as goal

pub returns-in-Err-clause-err : goal.returns-in-Err-clause-err
returns-in-Err-clause-err c =
    let copied = c.as_slice-in-Err.ensures.value ∙ c.in_ok-copy.ensures.items_if_clones_equal (λ x y e. e) ∙ c.as_slice.ensures.value in
    let paths = path_undone _ _ _ _ _ _ c.requires.absent copied c.in_ok-add.ensures.ok c.remove.ensures in
    same_tree _ _ _ _ _ _ _ _ paths c.in-Err.ensures.err refl refl
