use Rattle.std.proofs.Common.{ap, sym, subst, ◌∙◌}
use Rattle.ufs_joint.specs.Cells.{View}
use Rattle.ufs_model.specs.History.{tree_after}
use Rattle.ufs_held_names.specs.HeldNames.{HoldsNames, first_names}
use Rattle.ufs_held_names.proofs.Looking.{live_below, looked_held, names_tree}
use Rattle.ufs_held_names.proofs.seeing.see_numbers.Goals as goal

pub returns-clause-held : goal.returns-clause-held
returns-clause-held g c = subst (HoldsNames c.args.noted.now) (sym c.look.ensures.cells) (looked_held c.args.noted.now c.args.right.now c.look.result c.requires.held)

pub returns-clause-calm : goal.returns-clause-calm
returns-clause-calm g c = ap (λ (v : View). v.faults) c.look.ensures.cells ∙ c.requires.calm

pub returns-clause-same : goal.returns-clause-same
returns-clause-same g c = ap (λ (v : View). first_names c.args.noted.now v.names) c.look.ensures.cells

pub returns-clause-below : goal.returns-clause-below
returns-clause-below g c file live =
    let held = c.requires.held in
    let know = c.look.ensures.knows in
    live_below c.args.noted.now.names (tree_after know.start know.history) (names_tree g.N.Naming.start c.look.result c.args.right.now know held.cell c.args.noted.now held.alone.names held.value) file live
