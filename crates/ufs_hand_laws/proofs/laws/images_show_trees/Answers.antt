use Rattle.ufs_hand_laws.proofs.Showing.{openings_show, same_trees_show}
use Rattle.ufs_hand_laws.proofs.laws.images_show_trees.Goals as goal

pub returns-clause-opening : goal.returns-clause-opening
returns-clause-opening c start files cells is none opens image at = openings_show c.a_request_keeps_the_tree.ensures start files cells is none opens image at

pub returns-clause-same : goal.returns-clause-same
returns-clause-same c = same_trees_show
