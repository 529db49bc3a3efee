use Rattle.std.proofs.Common.{◌≡◌, ◌∙◌, ℕ, List, true, false, sym, subst, ap}
use Rattle.std.proofs.lemmas.Bool.{true_from_ne_false}
use Rattle.std.specs.FinMap as map
use Rattle.ufs_model.specs.PathEntries.{nodes_of}
use Rattle.ufs_model.specs.PosixTree.{root}
use Rattle.ufs_model.specs.Start.{IsPathTree, is_path_dir}
use Rattle.ufs_image_paths.proofs.NamespaceLemmas.{entries_again, tree_of_placed, placed_of_tree}
use Rattle.ufs_image_paths.proofs.namespace.is_path_tree.Goals as goal

pub returns-then-has_dir : goal.returns-then-has_dir
returns-then-has_dir c =
    let es = c.as_slice-entries.result.now in
    let is : nodes_of es ≡ c.args.paths.now = entries_again es c.args.paths.now c.as_slice-entries.ensures.entries in
    let dir : is_path_dir (map.get (nodes_of es) root) ≡ true = ap (λ (p : List ℕ). is_path_dir (map.get (nodes_of es) p)) (sym c.as_slice.ensures) ∙ sym c.has_dir.ensures ∙ c.if-has_dir.true in (
      λ yes. subst IsPathTree is (tree_of_placed es dir (c.are_placed.ensures.yes yes)),
      λ tree. true_from_ne_false c.are_placed.result (λ no. c.are_placed.ensures.no no (placed_of_tree es (subst IsPathTree (sym is) tree))),
    )

pub returns-else-has_dir : goal.returns-else-has_dir
returns-else-has_dir c =
    let es = c.as_slice-entries.result.now in
    let is : nodes_of es ≡ c.args.paths.now = entries_again es c.args.paths.now c.as_slice-entries.ensures.entries in (
      λ yes. cc,
      λ tree. let none : false ≡ true = sym c.if-has_dir.false ∙ c.has_dir.ensures ∙ ap (λ (p : List ℕ). is_path_dir (map.get (nodes_of es) p)) c.as_slice.ensures ∙ (subst IsPathTree (sym is) tree).root_is_dir in cc,
    )
