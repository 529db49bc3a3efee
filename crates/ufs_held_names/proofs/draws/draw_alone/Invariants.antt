use Rattle.ufs_held_names.specs.Drawn.{names_left, new_cells}
use Rattle.ufs_held_names.proofs.draws.draw_alone.Given as goal

abbrev pub ghosts-draw_made : goal.ghosts-draw_made
ghosts-draw_made g a = record { leaves = names_left a.fresh.now a.right.now a.noted.now a.pool.now a.desc (new_cells a.file.now) }
